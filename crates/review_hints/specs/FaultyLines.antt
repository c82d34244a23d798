-- The physical line in which a fault lies. A fault has the number of the first physical line of its logical line, and an
-- offset in the joined text. sudoers(5), "Other special characters and reserved words".
use Rattle.std.specs.Prelude.{ℕ, ◌&&◌, nat_le, if◌then◌else◌, List, [], ◌∷◌, length, drop, ◌-◌}
use Rattle.sudo_text.specs.Lines.{ends_in_escape, physical_lines}

-- the physical lines of the text from the one of this number on, counted from 1
abbrev pub lines_from : List ℕ → ℕ → List (List ℕ)
lines_from text number = drop (number - 1) (physical_lines text)

-- the first of the lines, and an empty one if there is none
abbrev pub first_line : List (List ℕ) → List ℕ
first_line [] = []
first_line (line ∷ rest) = line

-- the line in which the byte at an offset of the joined text lies, and its offset there; each line but the last loses the
-- backslash that ends it
abbrev pub faulty_line : List (List ℕ) → ℕ → List ℕ × ℕ
faulty_line [] at = ([], at)
faulty_line (line ∷ rest) at =
    if ends_in_escape line && nat_le (length line - 1) at then faulty_line rest (at - (length line - 1)) else (line, at)
