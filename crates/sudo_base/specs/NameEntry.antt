-- The model of the private map of names; only the model of `Names` uses it.
use Rattle.std.specs.Prelude.{ℕ, List, Vec}
use Rattle.std.specs.declared.alloc.Global.{Global}

-- an entry, with its name as a list of bytes
abbrev pub entry_by_list : Vec ℕ Global × ℕ → List ℕ × ℕ
entry_by_list e = (e.0.items, e.1)
