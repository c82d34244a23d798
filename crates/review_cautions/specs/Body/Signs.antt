-- Physical lines that may have the construct of a class, and the cautions on physical lines: definitions that only proofs need.
use Rattle.std.specs.Prelude.{ℕ, Bool, false, ◌||◌, ◌&&◌, ◌==◌, List, [], ◌∷◌, flat_map, slice_index}
use Rattle.std.specs.Prelude.{zero, suc, if◌then◌else◌}
use Rattle.std.specs.List.{list_any}
use Rattle.sudo_text.specs.Bytes.{is_blank}
use Rattle.sudo_text.specs.Lines.{cut}
use Rattle.review_cautions.specs.declared.caution.Caution.{Caution}
use Rattle.review_cautions.specs.declared.class.CautionClass.{CautionClass}
use Rattle.review_cautions.specs.declared.lines.PhysicalLine.{PhysicalLine}
use Rattle.review_cautions.specs.PhysicalLines.{is_marked, first_line, stripped}
use Rattle.review_cautions.specs.Cautions.{caution_at}

-- a carriage return, a backslash or a `#`: each construct of a physical line but an empty group has one of them
abbrev pub is_sign : ℕ → Bool
is_sign b = (b == 13) || (b == 92) || (b == 35)

-- a colon or a blank
abbrev pub is_gap : ℕ → Bool
is_gap b = (b == 58) || is_blank b

-- one stands directly before a `)`; `behind`: one stands directly before the bytes
abbrev pub has_late_close : Bool → List ℕ → Bool
has_late_close behind [] = false
has_late_close behind (b ∷ bs) = (behind && (b == 41)) || has_late_close (is_gap b) bs

-- a colon or a blank stands directly before the byte at the offset; `behind`: one stands directly before the first byte
abbrev pub gap_before : Bool → List ℕ → ℕ → Bool
gap_before behind line zero = behind
gap_before behind line (suc k) = is_gap (slice_index line k)

-- the line may have the construct of a class
abbrev pub may_hold : List ℕ → Bool
may_hold line = list_any is_sign line || has_late_close false (stripped line)

-- the caution of the class on a line, if the line has its construct
abbrev pub line_cautions : CautionClass → PhysicalLine → List Caution
line_cautions class l =
    if is_marked class l.continuing l.bytes.now (first_line (cut l.after.now)) then caution_at class l.place ∷ [] else []

-- the cautions of the class on lines
abbrev pub cautions_on : CautionClass → List PhysicalLine → List Caution
cautions_on class ls = flat_map (line_cautions class) ls
