use Rattle.std.proofs.Common.{◌≡◌, ◌∙◌, ap, map}
use Rattle.std.proofs.lemmas.Result.{IfOk-weaker}
use Rattle.review_cautions.specs.Body.Looking.{scanned_view}
use Rattle.review_cautions.specs.Body.UnusedNames.{left_by, marks_of}
use Rattle.review_cautions.proofs.UseLaws.{are_deciding}
use Rattle.review_cautions.proofs.uses.left_behind.Goals as goal

pub returns : goal.returns
returns c =
    let p = c.args.policy.now in
    let names = c.in_ok-unused.unused in
    let marks : c.deref.result.now ≡ marks_of names p.entries =
    c.deref.ensures.value ∙ c.in_ok-marks.ensures ∙ ap (marks_of names) c.as_slice.ensures in
    IfOk-weaker c.left_by.result _ _
    (λ left is. are_deciding p c.args.findings.now names (map scanned_view left.items) c.requires.found
    c.in_ok-unused.ensures
    (is ∙ ap (λ ms. left_by ms (map scanned_view c.args.lists.now)) marks ∙ ap (left_by (marks_of names p.entries)) c.requires.all))
    c.left_by.ensures
