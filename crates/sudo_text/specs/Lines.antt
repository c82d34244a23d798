-- The logical lines of a text.
--
-- A text is cut at its newlines into physical lines. A comment line is a run by itself; any other run is a physical
-- line with those that continue it. Each run is joined into one logical line.
use Rattle.std.specs.Prelude.{ℕ, Bool, true, false, not, ◌&&◌, ◌||◌, ◌==◌, nat_lt, if◌then◌else◌, List, [], ◌∷◌, ◌++◌}
use Rattle.std.specs.Prelude.{map, reverse, length, take, drop, slice_index, ◌+◌, ◌-◌, ◌%◌}
use Rattle.std.specs.Prelude.{Ok, Err}
use Rattle.std.specs.Prelude.{Result}
use Rattle.std.specs.List.{onto_first, take_while}
use Rattle.sudo_text.specs.declared.line.Line.{Line}
use Rattle.sudo_text.specs.declared.line.Place.{Place}
use Rattle.sudo_text.specs.declared.fault.TextFault.{TextFault}
use Rattle.sudo_text.specs.declared.fault.TextFault.TheVariants.{BadEscape, TooLong}
use Rattle.sudo_text.specs.Bytes.{is_blank, is_digit, is_include}

-- the text, cut at its newlines; a newline at the end begins no further line
abbrev pub cut : List ℕ → List (List ℕ)
cut [] = []
cut (b ∷ bs) = if b == 10 then [] ∷ cut bs else onto_first b (cut bs)

-- a line without a carriage return at its end
abbrev pub without_return : List ℕ → List ℕ
without_return line =
    if slice_index line (length line - 1) == 13 then take (length line - 1) line else line

-- a line without the blanks at its front
abbrev pub without_indent : List ℕ → List ℕ
without_indent line = drop (length (take_while is_blank line)) line

abbrev pub physical_lines : List ℕ → List (List ℕ)
physical_lines text = map (λ line. without_indent (without_return line)) (cut text)

-- a line that begins with `#`, is no include directive, and has no digit directly after the `#`
abbrev pub is_comment : List ℕ → Bool
is_comment line =
    (slice_index line 0 == 35) && (not (is_include line) && not (is_digit (slice_index line 1)))

-- a line that ends in an odd number of backslashes
abbrev pub ends_in_escape : List ℕ → Bool
ends_in_escape line = length (take_while (λ b. b == 92) (reverse line)) % 2 == 1

-- the next line continues this one; `continuing`: this one continues another
abbrev pub is_continued : Bool → List ℕ → Bool
is_continued continuing line = (continuing || not (is_comment line)) && ends_in_escape line

-- the physical lines in runs; `continuing`: the first continues an earlier run
abbrev pub runs : Bool → List (List ℕ) → List (List (List ℕ))
runs continuing [] = []
runs continuing (line ∷ rest) =
    if is_continued continuing line then onto_first line (runs true rest) else (line ∷ []) ∷ runs false rest

-- the last line is continued, and nothing follows
abbrev pub is_cut_short : Bool → List (List ℕ) → Bool
is_cut_short continuing [] = continuing
is_cut_short continuing (line ∷ rest) = is_cut_short (is_continued continuing line) rest

-- a line without its last backslash
abbrev pub without_escape : List ℕ → List ℕ
without_escape line = take (length line - 1) line

-- the lines of a run concatenated, each but the last without its last backslash
abbrev pub logical_text : List (List ℕ) → List ℕ
logical_text [] = []
logical_text (line ∷ []) = line
logical_text (line ∷ next ∷ rest) = without_escape line ++ logical_text (next ∷ rest)

-- the offsets in the joined text at which the further lines of a run begin, if its first line is at this offset
abbrev pub joins_from : ℕ → List (List ℕ) → List ℕ
joins_from at [] = []
joins_from at (line ∷ []) = []
joins_from at (line ∷ next ∷ rest) =
    (at + length (without_escape line)) ∷ joins_from (at + length (without_escape line)) (next ∷ rest)

-- the place where a logical line begins
abbrev pub place : ℕ → ℕ → Place
place file number = record { file = file; line = number }

-- the logical line of a run of a file, whose first physical line has this number
abbrev pub line_of : ℕ → ℕ → List (List ℕ) → Line
line_of file number run = record { first = place file number; text = logical_text run; joins = joins_from 0 run }

-- the lines before, followed by those of the rest
abbrev pub with_front : List Line → Result (List Line) TextFault → Result (List Line) TextFault
with_front front (Ok lines) = Ok (front ++ lines)
with_front front (Err fault) = Err fault

-- the logical lines of the runs of a file, each with the number of its first physical line; if the last run is cut
-- short, a fault at its last backslash, the last byte of its joined text
abbrev pub lines_of_runs : ℕ → Bool → ℕ → List (List (List ℕ)) → Result (List Line) TextFault
lines_of_runs file short number [] = Ok []
lines_of_runs file short number (run ∷ []) =
    if short then Err (BadEscape (place file number) (length (logical_text run))) else Ok (line_of file number run ∷ [])
lines_of_runs file short number (run ∷ next ∷ rest) =
    with_front (line_of file number run ∷ []) (lines_of_runs file short (number + length run) (next ∷ rest))

-- the logical lines of physical lines of a file, of which the first has this number
abbrev pub logical_lines_from : ℕ → ℕ → List (List ℕ) → Result (List Line) TextFault
logical_lines_from file number lines = lines_of_runs file (is_cut_short false lines) number (runs false lines)

abbrev pub logical_lines : ℕ → List ℕ → Result (List Line) TextFault
logical_lines file text = logical_lines_from file 1 (physical_lines text)

-- the greatest length of a text, in bytes
abbrev pub text_limit : ℕ
text_limit = 16777216

-- the logical lines of a file's text, or its fault
abbrev pub lines_of : ℕ → List ℕ → Result (List Line) TextFault
lines_of file text = if nat_lt text_limit (length text) then Err (TooLong file) else logical_lines file text
