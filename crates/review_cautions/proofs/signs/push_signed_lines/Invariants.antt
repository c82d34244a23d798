use Rattle.std.proofs.Common.{◌≡◌, ◌+◌, ◌≤◌, ◌++◌, length, map, false}
use Rattle.sudo_text.specs.Lines.{cut, place}
use Rattle.review_cautions.specs.declared.class.CautionClass.{CautionClass}
use Rattle.review_cautions.specs.PhysicalLines.{numbers_of}
use Rattle.review_cautions.specs.Cautions.{caution_at}
use Rattle.review_cautions.specs.Body.Signs.{cautions_on}
use Rattle.review_cautions.proofs.signs.push_signed_lines.Given as goal

abbrev pub invariant-loop-rest : goal.invariant-loop-rest
invariant-loop-rest l = record {
  cautions : (class : CautionClass) → cautions_on class l.lines.items ++ map (λ number. caution_at class (place l.file number))
      (numbers_of class l.continuing l.number (cut l.rest)) ≡ cautions_on class l.initial.lines.items
      ++ map (λ number. caution_at class (place l.file number)) (numbers_of class false 1 (cut l.text));
  within : length l.rest ≤ 16777216;
  numbers : l.number + length l.rest ≤ 1 + length l.text;
}

abbrev pub decreases-loop-rest : goal.decreases-loop-rest
decreases-loop-rest l = length l.rest
