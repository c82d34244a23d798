use Rattle.std.proofs.Common.{◌∙◌, ◌==◌, false, sym}
use Rattle.std.specs.List.{list_any}
use Rattle.review_cautions.specs.Body.Signs.{has_late_close}
use Rattle.review_cautions.proofs.CommentLaws.{no_left, no_right}
use Rattle.review_cautions.proofs.GroupLaws.{no_empty_group}
use Rattle.review_cautions.proofs.groups.has_empty_group.Goals as goal

pub returns-then-not-may_have_empty_group : goal.returns-then-not-may_have_empty_group
returns-then-not-may_have_empty_group c =
    let line = c.args.line.now in
    let none = sym c.may_have_empty_group.ensures ∙ c.if-not-may_have_empty_group.true in
    sym (no_empty_group false false false line c.args.next.now
    (no_right (has_late_close false line) (list_any (λ b. b == 92) line) none)
    (no_left (has_late_close false line) (list_any (λ b. b == 92) line) none))
