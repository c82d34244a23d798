use Rattle.std.proofs.Common.{◌≡◌, ◌∙◌, ap, List}
use Rattle.std.specs.List.{list_any}
use Rattle.sudo_grammar.specs.declared.kind.Kind.TheVariants.{Runas}
use Rattle.sudo_grammar.specs.declared.kind.Signed.{Signed}
use Rattle.sudo_policy.specs.Written.{written_form}
use Rattle.sudo_verdict.specs.Values.{value}
use Rattle.review_subjects.specs.Body.Written.{allows_group, pair_reaches}
use Rattle.review_subjects.proofs.reach.pair_reaches.Goals as goal

pub returns : goal.returns
unfolding value
returns c =
    let p = c.args.checked.now in
    let people = c.args.people.now in
    let users : c.as_slice.result.now ≡ written_form Runas p c.args.users.now = c.as_slice.ensures.value ∙ c.in_ok-users.ensures in
    let groups : c.as_slice-2.result.now ≡ written_form Runas p c.args.groups.now = c.as_slice-2.ensures.value ∙ c.in_ok-groups.ensures in
    let groups_now = c.as_slice-2.result.now in
    c.pair_reaches_any.ensures
    ∙ ap (λ (us : List Signed). list_any (pair_reaches us groups_now (allows_group groups_now people)) people) users
    ∙ ap (λ (gs : List Signed). list_any (pair_reaches (written_form Runas p c.args.users.now) gs (allows_group gs people)) people) groups
