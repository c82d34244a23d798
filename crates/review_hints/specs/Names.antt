-- Known names that a misspelled one may mean.
use Rattle.std.specs.Prelude.{ℕ, Bool, false, ◌&&◌, ◌==◌, nat_le, nat_lt, nat_eq, if◌then◌else◌, List, [], ◌∷◌, ◌++◌}
use Rattle.std.specs.Prelude.{codes, filter, find, fold, length, map, Option, None, Some, ◌+◌}
use Rattle.std.specs.Char.{to_ascii_lowercase}
use Rattle.std.specs.List.{list_any}
use Rattle.std.specs.Option.{option_or}
use Rattle.std.specs.Str.{bytes_eq}
use Rattle.strsim.specs.Edits.{levenshtein_row}

-- how many bytes are inserted, left out and replaced at least to turn one name into another (Levenshtein's distance)
abbrev pub edits : List ℕ → List ℕ → ℕ
edits name known = levenshtein_row nat_eq name known (length known)

-- the most edits after which a name may mean a known one: fewer for a short one, to which many words are near
abbrev pub most_edits : List ℕ → ℕ
most_edits known = if nat_lt (length known) 6 then 1 else 2

-- both names begin with the same byte
abbrev pub begin_alike : List ℕ → List ℕ → Bool
begin_alike [] other = false
begin_alike (b ∷ bs) [] = false
begin_alike (b ∷ bs) (c ∷ cs) = b == c

-- the lengths differ by two at most
abbrev pub are_of_like_length : List ℕ → List ℕ → Bool
are_of_like_length name known = nat_le (length name) (length known + 2) && nat_le (length known) (length name + 2)

-- the names begin alike, and few edits turn one into the other
abbrev pub is_near : List ℕ → List ℕ → Bool
is_near name known = begin_alike name known && (are_of_like_length name known && nat_le (edits name known) (most_edits known))

-- of two names the one with fewer edits, the first if both have as many
abbrev pub closer : List ℕ → List ℕ → List ℕ → List ℕ
closer name a b = if nat_lt (edits name b) (edits name a) then b else a

abbrev pub closest : List ℕ → List (List ℕ) → Option (List ℕ)
closest name [] = None
closest name (a ∷ others) = Some (fold (closer name) a others)

-- the names are equal but for the case of letters
abbrev pub is_same_word : List ℕ → List ℕ → Bool
is_same_word name known = bytes_eq (map to_ascii_lowercase name) (map to_ascii_lowercase known)

-- the known name that an unknown one may mean: one that differs in letter case alone, otherwise of those near to it the
-- first with the fewest edits; none if there is none, or if the name is known
abbrev pub meant : List (List ℕ) → List ℕ → Option (List ℕ)
meant known name =
    if list_any (bytes_eq name) known then None
    else option_or (find (is_same_word name) known) (closest name (filter (is_near name) known))

-- the hint at a known name, if there is one
abbrev pub meant_hint : Option (List ℕ) → Option (List ℕ)
meant_hint None = None
meant_hint (Some known) = Some (codes "did you mean " ++ known ++ codes "?")
