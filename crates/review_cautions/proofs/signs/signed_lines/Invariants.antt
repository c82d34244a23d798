use Rattle.std.proofs.Common.{◌≡◌, ◌++◌, ℕ, List, map, drop}
use Rattle.std.specs.Prelude.{flat_map}
use Rattle.std.specs.List.{enumerate_from}
use Rattle.review_cautions.specs.declared.class.CautionClass.{CautionClass}
use Rattle.review_cautions.specs.Cautions.{file_cautions, text_cautions}
use Rattle.review_cautions.specs.Body.Signs.{cautions_on}
use Rattle.review_cautions.proofs.signs.signed_lines.Given as goal

abbrev pub invariant-loop-file : goal.invariant-loop-file
invariant-loop-file l = (class : CautionClass) → cautions_on class l.lines.items
    ++ flat_map (λ (file : ℕ × List ℕ). file_cautions class file.0 file.1)
    (enumerate_from l.file (map (λ t. t.now) (drop l.file l.texts)))
    ≡ text_cautions class (map (λ t. t.now) l.texts)
