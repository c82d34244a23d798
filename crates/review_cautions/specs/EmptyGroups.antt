-- Lists of users to run as with a colon behind which no group stands: `(bob:)`. sudo's plugins/sudoers/gram.y has no such
-- list, but an empty one, `(:)`.
use Rattle.std.specs.Prelude.{ℕ, Bool, true, false, not, ◌&&◌, ◌||◌, ◌==◌, if◌then◌else◌, List, [], ◌∷◌, slice_index}
use Rattle.std.specs.Str.{bytes_eq}
use Rattle.sudo_text.specs.Bytes.{is_blank, is_digit}
use Rattle.sudo_text.specs.Lines.{without_indent}

-- behind blanks a `)` comes first; or nothing but a backslash, and the next line begins with a `)`, or is a backslash too
abbrev pub closes : List ℕ → List ℕ → Bool
closes bs next = (slice_index (without_indent bs) 0 == 41)
    || (bytes_eq (without_indent bs) (92 ∷ []) && ((slice_index next 0 == 41) || bytes_eq next (92 ∷ [])))

-- outside double quotes and before any comment stands a colon with a `)` behind it and no `(` before it, but for blanks.
-- `escaped`: an odd number of backslashes stands directly before the bytes; `quoted`: they stand between double quotes;
-- `opened`: a `(` stands before them, but for blanks. Both lines are given as the reader joins them
abbrev pub has_empty_group : Bool → Bool → Bool → List ℕ → List ℕ → Bool
has_empty_group escaped quoted opened [] next = false
has_empty_group escaped quoted opened (b ∷ bs) next =
    if escaped then has_empty_group false quoted false bs next
    else if b == 92 then has_empty_group true quoted false bs next
    else if b == 34 then has_empty_group false (not quoted) false bs next
    else if quoted then has_empty_group false true false bs next
    else if (b == 35) && not (is_digit (slice_index bs 0)) then false
    else if (b == 58) && not opened && closes bs next then true
    else has_empty_group false false ((b == 40) || (opened && is_blank b)) bs next
