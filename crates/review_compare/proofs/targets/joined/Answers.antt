use Rattle.std.proofs.Common.{◌∙◌, ◌++◌, ap, arith, sym}
use Rattle.review_compare.specs.Differences.{each_target}
use Rattle.review_compare.proofs.TargetLemmas.{ranges-joined, users_from}
use Rattle.review_compare.proofs.targets.joined.Goals as goal

pub returns-in-Some-Some : goal.returns-in-Some-Some
returns-in-Some-Some c =
    let own = c.in-Some-Some in
    let same = c.if-middle-behind.true in
    ranges-joined own.first own.middle own.end (omega (arith, own.ensures.0)) (omega (arith, own.ensures'.0, same))
    ∙ ap (λ n. users_from own.first own.middle ++ users_from n own.end) same
    ∙ ap (λ ts. ts ++ users_from own.behind own.end) (sym own.ensures.1)
    ∙ ap (λ ts. each_target c.args.targets ++ ts) (sym own.ensures'.1)
