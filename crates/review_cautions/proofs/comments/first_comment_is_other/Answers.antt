use Rattle.std.proofs.Common.{◌∙◌, sym}
use Rattle.review_cautions.proofs.CommentLaws.{is_last, none_behind_first}
use Rattle.review_cautions.proofs.comments.first_comment_is_other.Goals as goal

pub returns-then-is_last_hash : goal.returns-then-is_last_hash
returns-then-is_last_hash c =
    sym (none_behind_first c.loop-rest.escaped c.loop-rest.quoted c.loop-rest.admitted c.loop-rest.rest.now
    (sym c.begins_comment.ensures ∙ c.if-begins_comment.false)
    (is_last _ _ (sym c.is_last_hash.ensures ∙ c.if-is_last_hash.true)))
    ∙ c.loop-rest.invariant
