-- Rows without quotes.
use Rattle.std.specs.Prelude.{◌≡◌, ℕ, Bool, true, not, List, ◌++◌, ◌==◌, ◌||◌}
use Rattle.std.specs.List.{list_all}

-- a byte that stands for itself within a field
abbrev pub is_field_byte : ℕ → Bool
is_field_byte b = not ((b == 44) || (b == 34) || (b == 13) || (b == 10))

-- a field without quotes, and the text behind it
abbrev pub IsFieldBefore : List ℕ → List ℕ → List ℕ → Type 0
IsFieldBefore text field rest = (list_all is_field_byte field ≡ true) × (text ≡ field ++ rest)

-- a text ends in this rest
abbrev pub IsBehind : List ℕ → List ℕ → Type 0
IsBehind text rest = (front : List ℕ) × (text ≡ front ++ rest)
