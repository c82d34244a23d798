use Rattle.std.proofs.Common.{None, refl, subst}
use Rattle.std.specs.Prelude.{MatchOption}
use Rattle.review_roots.specs.Chains.{HasNoPath}
use Rattle.review_roots.specs.Sought.{any_steps}
use Rattle.review_roots.specs.States.{state_with}
use Rattle.review_roots.specs.Ways.{IsWay}
use Rattle.review_roots.proofs.RootLemmas.{not-itself}
use Rattle.review_roots.proofs.RowLemmas.{way-allows}
use Rattle.review_roots.proofs.roots.root_of.Goals as goal

pub returns-in-Some : goal.returns-in-Some
returns-in-Some c =
    let h = c.args.steps.now in
    let start = state_with None c.args.user in
    let away =
    not-itself h c.args.target c.args.user c.has_zero.result c.if-user-target.false c.has_zero.ensures c.if-has_zero.false in
    let way = subst (λ o. MatchOption o (HasNoPath (any_steps h c.args.target) h.least start) (IsWay h c.args.target h.least start))
    c.in-Some.is c.in_ok-way_from.ensures in (
      refl,
      (
        away,
        (way, way-allows h c.args.target c.args.user h.least c.in-Some.way h.listed away way),
      ),
    )
