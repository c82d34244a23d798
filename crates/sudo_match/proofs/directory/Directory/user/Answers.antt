use Rattle.std.proofs.Common.{sym, ap, ◌∙◌}
use Rattle.std.specs.Prelude.{option_copied, option_and_then, slice_get}
use Rattle.sudo_match.specs.KnownRows.{KnownRows}
use Rattle.sudo_match.proofs.DirectoryLemmas.{user_named-is}
use Rattle.sudo_match.proofs.directory.Directory.user.Goals as goal

pub returns-in_err-at : goal.returns-in_err-at
returns-in_err-at c =
    ap option_copied c.from_residual.ensures
    ∙ sym (user_named-is c.args.self.now c.self.inside.people c.self.inside.users c.args.name.now
    (ap (λ (d : KnownRows). d.people) c.self.view_is) c.self.invariant.users_indexed
    ∙ ap (option_and_then (slice_get c.self.inside.people)) (sym c.get.ensures ∙ c.in_err-at.was))

pub returns : goal.returns
returns c =
    c.get-2.ensures
    ∙ sym (user_named-is c.args.self.now c.self.inside.people c.self.inside.users c.args.name.now
    (ap (λ (d : KnownRows). d.people) c.self.view_is) c.self.invariant.users_indexed
    ∙ ap (option_and_then (slice_get c.self.inside.people)) (sym c.get.ensures ∙ c.in_ok-at.was))
