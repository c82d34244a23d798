-- The name of a host, and where `%h` of an include line's path stands for its part before the first dot.
use Rattle.std.specs.Prelude.{◌≡◌, ℕ, suc, ◌+◌, Bool, true, false, ◌&&◌, ◌||◌, ◌==◌, nat_le, nat_lt, if◌then◌else◌}
use Rattle.std.specs.Prelude.{List, [], ◌∷◌, ◌++◌, length, take, drop, slice_index, codes, Option, None, Some}
use Rattle.std.specs.List.{list_any}
use Rattle.sudo_text.specs.declared.line.Line.{Line}
use Rattle.sudo_grammar.specs.declared.fault.Unsupported.TheVariants as forms
use Rattle.sudo_match.specs.Matching.{short_name}
use Rattle.review_texts.specs.Places.{line_with, IsRefusedFor}

-- a letter, a digit, a hyphen or an underscore
abbrev pub is_label_byte : ℕ → Bool
is_label_byte b =
    (nat_le 97 b && nat_le b 122) || (nat_le 65 b && nat_le b 90) || (nat_le 48 b && nat_le b 57) || (b == 45) || (b == 95)

-- labels with one dot between two, and maybe one behind the last; a dot may come first, if so
abbrev pub are_labels : Bool → List ℕ → Bool
are_labels dotted [] = true
are_labels dotted (b ∷ bs) = if b == 46 then dotted && are_labels false bs else is_label_byte b && are_labels true bs

-- The name of a host: at most 255 bytes of labels. It names no folder, and its part before the first dot is a file's name, or a part
-- of one, in whichever path it stands.
abbrev pub is_hostname : List ℕ → Bool
is_hostname name = nat_lt 0 (length name) && nat_le (length name) 255 && are_labels false name

-- `%h` is spelled at an offset
unfoldable pub spells_escape : List ℕ → ℕ → Bool
spells_escape text at = (slice_index text at == 37) && (slice_index text (at + 1) == 104)

-- `%h`, and the double quote that ends a path which one begins before an offset
abbrev pub closed_escape : List ℕ → ℕ → List ℕ
closed_escape text at = if list_any (λ b. b == 34) (take at text) then codes "%h\"" else codes "%h"

-- `%h` stands at an offset in the path of an include line: it is spelled there, and the line up to it is refused for it
abbrev pub StandsEscape : Line → ℕ → Type 0
StandsEscape line at =
    (spells_escape line.text at ≡ true) × IsRefusedFor (line_with line at (closed_escape line.text at)) forms.HostEscape

-- what stands for `%h` at an offset, up to the end of the line: the name of a host up to its first dot, the text behind, and two blanks.
-- So the line gets longer, and stands only where it is read: behind the name the columns of faults are others.
abbrev pub named_text : List ℕ → List ℕ → ℕ → List ℕ
named_text name text at = short_name name ++ (drop (at + 2) text ++ codes "  ")

-- `%h` stands at an offset, and this stands for it up to the end of the line, if this is the name of the host
abbrev pub StandsName : Option (List ℕ) → Line → ℕ → ℕ → List ℕ → Type 0
StandsName None line start end put = ⊥
StandsName (Some name) line start end put =
    (is_hostname name ≡ true) × StandsEscape line start × (end ≡ length line.text) × (put ≡ named_text name line.text start)
