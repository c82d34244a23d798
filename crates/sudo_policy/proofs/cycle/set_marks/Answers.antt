use Rattle.std.proofs.Common.{ℕ, List, get_or, set, take, sym, subst, arith}
use Rattle.std.proofs.lemmas.List.{take_more}
use Rattle.std.proofs.lemmas.List.Elements.{Contains-get_or}
use Rattle.sudo_policy.specs.Body.Marking.{AreSet}
use Rattle.sudo_policy.proofs.MarkingLemmas.{AreSet-next}
use Rattle.sudo_policy.proofs.cycle.set_marks.Goals as goal

pub bounds-marks-alias : goal.bounds-marks-alias
bounds-marks-alias c =
    let aliases = c.args.aliases.now in
    let less = c.requires.inside (get_or aliases c.loop-alias.alias-index 0)
    (Contains-get_or aliases c.loop-alias.alias-index 0 c.loop-alias-test.true) in
    let long = c.loop-alias.invariant.same_length in
    omega (arith, less, long)

pub loop-alias-preserved : goal.loop-alias-preserved
loop-alias-preserved c =
    let aliases = c.args.aliases.now in
    let at = c.loop-alias.alias-index in
    let alias = get_or aliases at 0 in
    let less = c.requires.inside alias (Contains-get_or aliases at 0 c.loop-alias-test.true) in
    let long = c.loop-alias.invariant.same_length in
    subst (λ (xs : List ℕ). AreSet c.args.mark xs c.args.marks.now (set c.loop-alias.marks alias c.args.mark))
    (sym (take_more aliases at 0 c.loop-alias-test.true))
    (AreSet-next c.args.mark (take at aliases) alias c.args.marks.now c.loop-alias.marks (omega (arith, less, long)) c.loop-alias.invariant)
