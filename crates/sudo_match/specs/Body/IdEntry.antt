-- The model of the private map of group IDs; only the model of `Ids` uses it.
use Rattle.std.specs.Prelude.{ℕ, List, [], ◌∷◌}

-- an entry, with its ID as a name of one number
abbrev pub entry_by_id : ℕ × ℕ → List ℕ × ℕ
entry_by_id e = (e.0 ∷ [], e.1)
