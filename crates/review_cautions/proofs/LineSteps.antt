-- Cautions on physical lines, one line further.
use Rattle.std.proofs.Common.{◌≡◌, ℕ, ◌+◌, Bool, true, false, List, [], ◌∷◌, ◌++◌, map, append_assoc}
use Rattle.std.specs.Prelude.{if◌then◌else◌}
use Rattle.sudo_text.specs.Lines.{is_continued, place}
use Rattle.review_cautions.specs.declared.caution.Caution.{Caution}
use Rattle.review_cautions.specs.declared.class.CautionClass.{CautionClass}
use Rattle.review_cautions.specs.PhysicalLines.{numbers_of, is_marked, first_line, stripped}
use Rattle.review_cautions.specs.Cautions.{caution_at}

push_if : (f : ℕ → Caution) (found : List Caution) (number : ℕ) (t : Bool) (more : List ℕ)
    → (found ++ (if t then f number ∷ [] else [])) ++ map f more ≡ found ++ map f ((if t then number ∷ [] else []) ++ more)
push_if f found number true more = append_assoc found (f number ∷ []) (map f more)
push_if f found number false more = append_assoc found [] (map f more)

-- the caution on a line, if any, and those on the lines after it
pub line_step : (class : CautionClass) (file number : ℕ) (continuing : Bool) (line : List ℕ) (rest : List (List ℕ)) (found : List Caution)
    → (found ++ (if is_marked class continuing line (first_line rest) then caution_at class (place file number) ∷ [] else []))
    ++ map (λ n. caution_at class (place file n)) (numbers_of class (is_continued continuing (stripped line)) (number + 1) rest)
    ≡ found ++ map (λ n. caution_at class (place file n)) (numbers_of class continuing number (line ∷ rest))
line_step class file number continuing line rest found =
    push_if (λ n. caution_at class (place file n)) found number (is_marked class continuing line (first_line rest))
    (numbers_of class (is_continued continuing (stripped line)) (number + 1) rest)
