use Rattle.std.proofs.Common.{◌≡◌, ◌<◌, sym, ap, ◌∙◌, ◌+◌, ◌++◌, ◌∷◌, [], suc, take, set, length, length-set, get_or, arith}
use Rattle.std.proofs.lemmas.Option.{slice_get-get_or}
use Rattle.std.proofs.lemmas.List.{map-append}
use Rattle.std.proofs.Math.Seq.{take-suc-set}
use Rattle.sudo_match.specs.Class.{lower, lower_text}
use Rattle.sudo_base.proofs.IndexLemmas.{take-some}
use Rattle.sudo_match.proofs.indexing.host_place.Goals as goal

pub loop-at-preserved : goal.loop-at-preserved
loop-at-preserved c =
    let low : c.to_ascii_lowercase.result ≡ lower (get_or c.args.name.now c.loop-at.at 0) = c.to_ascii_lowercase.ensures.value in
    let name = take-some c.loop-at.at c.args.name.now (get_or c.args.name.now c.loop-at.at 0)
    (slice_get-get_or c.args.name.now c.loop-at.at 0 c.loop-at-test.true) in
    let within : c.loop-at.at < length c.loop-at.lower = omega (arith, c.loop-at.invariant.room, c.requires, c.loop-at-test.true) in
    let next : c.loop-at.at + 1 ≡ suc c.loop-at.at = omega arith in
    record {
      room = length-set c.loop-at.lower c.loop-at.at c.to_ascii_lowercase.result ∙ c.loop-at.invariant.room;
      done = ap (λ k. take k (set c.loop-at.lower c.loop-at.at c.to_ascii_lowercase.result)) next
          ∙ take-suc-set c.loop-at.lower c.loop-at.at c.to_ascii_lowercase.result within
          ∙ ap (λ xs. xs ++ c.to_ascii_lowercase.result ∷ []) c.loop-at.invariant.done
          ∙ ap (λ b. lower_text (take c.loop-at.at c.args.name.now) ++ b ∷ []) low
          ∙ sym (ap lower_text name ∙ map-append lower (take c.loop-at.at c.args.name.now) (get_or c.args.name.now c.loop-at.at 0 ∷ []));
    }
