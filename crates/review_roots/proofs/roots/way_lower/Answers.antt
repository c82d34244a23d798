use Rattle.std.proofs.Common.{◌≡◌, None, subst, true}
use Rattle.std.specs.Prelude.{MatchOption}
use Rattle.review_roots.specs.declared.level.Level.TheVariants as level
use Rattle.review_roots.specs.Chains.{HasNoPath}
use Rattle.review_roots.specs.Ranks.{is_at_least}
use Rattle.review_roots.specs.Sought.{any_steps}
use Rattle.review_roots.specs.States.{state_with}
use Rattle.review_roots.specs.Ways.{IsWay}
use Rattle.review_roots.proofs.FreeLemmas.{none-all-but, none-listed}
use Rattle.review_roots.proofs.roots.way_lower.Goals as goal

pub way_below-requires-clause-none : goal.way_below-requires-clause-none
way_below-requires-clause-none c =
    none-all-but c.args.steps.now c.args.target c.args.user c.requires.known c.args.levels.now c.requires.levels c.requires.none

pub way_below-requires-in-None-clause-none : goal.way_below-requires-in-None-clause-none
way_below-requires-in-None-clause-none c =
    let h = c.args.steps.now in
    let start = state_with None c.args.user in
    let none' = subst (λ o. MatchOption o (is_at_least h.least level.AllBut ≡ true
    → HasNoPath (any_steps h c.args.target) level.AllBut start) (IsWay h c.args.target h.least start)) c.in-None.is c.in_ok-way.ensures in
    none-listed h c.args.target c.args.user c.requires.known c.args.levels.now c.requires.levels c.requires.none none'
