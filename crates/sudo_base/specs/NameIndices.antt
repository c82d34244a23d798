-- Names, each with an index.
use Rattle.std.specs.Prelude.{ℕ, List, Option, bytes_eq}
use Rattle.std.specs.Map.{lookup}

-- the index that a name stands for: that of its first entry
abbrev pub index_of : List (List ℕ × ℕ) → List ℕ → Option ℕ
index_of names name = lookup (bytes_eq name) names
