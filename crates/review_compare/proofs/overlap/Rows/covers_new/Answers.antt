use Rattle.std.proofs.Common.{◌-◌, ◌∙◌, ◌||◌, List, ap, subst}
use Rattle.std.specs.Prelude.{nat_lt}
use Rattle.review_compare.specs.declared.reach.Reach.{Reach}
use Rattle.review_compare.specs.Body.Reaches.{IsReachAt}
use Rattle.review_compare.proofs.ReachLemmas.{past-covered, reach-here}
use Rattle.review_compare.proofs.overlap.Rows.covers_new.Goals as goal

pub returns-in-Some : goal.returns-in-Some
returns-in-Some c =
    let s = c.args.self.now in
    let row = c.args.row.now in
    let at = subst (λ (rs : List Reach). IsReachAt rs s.front c.args.index c.in-Some.reach) c.deref.ensures.value c.in-Some.ensures in
    c.is_past.ensures
    ∙ ap (λ (r : Reach). nat_lt c.args.old_from r.old || nat_lt c.args.new_from r.new)
    (reach-here s.old.now s.new.now s.new.now s.front (s.new_end - s.front) c.args.index s.of_new.items c.in-Some.reach row
    s.new_reaches at c.requires)
    ∙ past-covered s.old.now s.new.now row c.args.old_from c.args.new_from
