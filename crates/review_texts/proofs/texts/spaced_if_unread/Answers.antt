use Rattle.std.proofs.Common.{◌∙◌, subst, sym}
use Rattle.std.proofs.lemmas.Bool.{true≢false}
use Rattle.review_texts.specs.MaskedTexts.{HasEntries, IsRead}
use Rattle.review_texts.proofs.texts.spaced_if_unread.Goals as goal

pub returns : goal.returns
returns c =
    let unread : HasEntries c.args.line.now → ⊥ = λ have. true≢false (sym (c.in_ok-has_entries.ensures.1 have) ∙ c.if-branch.false) in
    let read = subst IsRead c.in_ok-other.ensures (c.in_ok-is_read.ensures.0 c.if-not-branch.false) in
    ((unread, read), c.in_ok-other.ensures)
