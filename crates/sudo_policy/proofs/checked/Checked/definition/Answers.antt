use Rattle.std.proofs.Common.{◌≡◌, Some, option_copied, sym, ap, ◌∙◌, subst}
use Rattle.std.specs.Prelude.{option_and_then}
use Rattle.sudo_policy.specs.Definitions.{in_force}
use Rattle.sudo_policy.specs.Positions.{members_at}
use Rattle.sudo_policy.specs.Body.Positions.{position_in}
use Rattle.sudo_policy.specs.Resolving.{IsSound}
use Rattle.sudo_policy.proofs.SoundLemmas.{found_resolves}
use Rattle.sudo_policy.proofs.checked.Checked.definition.Goals as goal

pub returns-clause-resolves : goal.returns-clause-resolves
returns-clause-resolves c =
    let index = c.self.invariant.0 in
    let sound : IsSound c.args.self.now = subst IsSound c.self.view_is c.self.invariant.2 in
    let at : position_in c.self.inside.index c.args.kind c.args.name.now ≡ Some c.in_ok-position.position =
    sym c.position.ensures ∙ c.in_ok-position.was in
    let known : option_copied c.members_at.result ≡ in_force c.args.kind c.self.inside.policy c.args.name.now =
    c.members_at.ensures ∙ ap (option_and_then (members_at c.self.inside.policy)) (sym at) ∙ sym (index c.args.kind c.args.name.now) in
    found_resolves c.args.kind c.args.self.now c.args.name.now c.members_at.result sound (known
    ∙ ap (λ p. in_force c.args.kind p c.args.name.now) c.self.view_is)
