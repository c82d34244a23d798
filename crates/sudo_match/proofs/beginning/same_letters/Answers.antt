use Rattle.std.proofs.Common.{false, ◌∙◌, ap, arith, get_or}
use Rattle.std.proofs.lemmas.Option.{slice_get-get_or}
use Rattle.sudo_match.specs.Class.{lower}
use Rattle.sudo_match.proofs.BeginningLemmas.{named-more, letter}
use Rattle.sudo_match.proofs.beginning.same_letters.Goals as goal

pub loop-at-preserved : goal.loop-at-preserved
loop-at-preserved c =
    let here = c.loop-at-test.true in
    let least = c.min-count.ensures in
    let at = c.loop-at.at in
    let b = get_or c.args.name.now at 0 in
    let ch = get_or c.args.chars.now at (record { byte = 0; escaped = false }) in
    let on = letter b ch c.if-byte-chars.false in
    c.loop-at.invariant
    ∙ named-more c.args.chars.now c.args.name.now at b ch
    (slice_get-get_or c.args.chars.now at (record { byte = 0; escaped = false }) (omega (arith, here, least)))
    (slice_get-get_or c.args.name.now at 0 (omega (arith, here, least))) on.0 (ap lower on.1)
