use Rattle.std.proofs.Common.{◌+◌, ◌∙◌, drop, sym}
use Rattle.review_compare.specs.Body.Shown.{all_shown, shown}
use Rattle.review_compare.proofs.OverlapLemmas.{apart-agrees}
use Rattle.review_compare.proofs.overlap.Rows.agree.Goals as goal

pub returns-then-is_disjoint : goal.returns-then-is_disjoint
returns-then-is_disjoint c =
    let s = c.args.self.now in
    sym (apart-agrees (shown c.args.own.now) (all_shown (drop (c.args.at + 1) s.old.now)) (shown c.args.other.now)
    (all_shown (drop (c.args.beside + 1) s.new.now)) (sym c.is_disjoint.ensures ∙ c.if-is_disjoint.true))
