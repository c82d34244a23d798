-- Names with their indices, compared with the map that contains them.
use Rattle.std.proofs.Common.{◌≡◌, ℕ, List, [], ◌∷◌, ◌++◌, Option, None, Some, Bool, true, false, map, refl, ap, cond}
use Rattle.std.specs.Prelude.{Vec, bytes_eq}
use Rattle.std.specs.Map.{lookup}
use Rattle.std.specs.declared.alloc.Global.{Global}
use Rattle.indexmap.specs.IndexMap.{insert_entry}
use Rattle.sudo_base.specs.NameEntry.{entry_by_list}
use Rattle.sudo_base.specs.NameIndices.{index_of}

-- a look-up among the entries is one among the names
pub lookup-entry_by_list : (name : List ℕ) (es : List (Vec ℕ Global × ℕ))
    → lookup (λ k. bytes_eq name k.items) es ≡ index_of (map entry_by_list es) name
lookup-entry_by_list name [] = refl
lookup-entry_by_list name (e ∷ es) = ap (λ r. cond (bytes_eq name e.0.items) (Some e.1) r) (lookup-entry_by_list name es)

abbrev same_key : Vec ℕ Global → Vec ℕ Global → Bool
same_key k l = bytes_eq k.items l.items

insert_step : (b : Bool) (e : Vec ℕ Global × ℕ) (es xs : List (Vec ℕ Global × ℕ)) (ys : List (List ℕ × ℕ)) (i v : ℕ)
    (r : Option ℕ) → cond b (Some i) r ≡ None → (r ≡ None → map entry_by_list xs ≡ ys)
    → map entry_by_list (cond b ((e.0, v) ∷ es) (e ∷ xs)) ≡ entry_by_list e ∷ ys
insert_step true e es xs ys i v r none rest = cc
insert_step false e es xs ys i v r none rest = ap (λ zs. entry_by_list e ∷ zs) (rest none)

-- a new name goes last
pub insert-entry_by_list : (key : Vec ℕ Global) (v : ℕ) (es : List (Vec ℕ Global × ℕ))
    → index_of (map entry_by_list es) key.items ≡ None
    → map entry_by_list (insert_entry same_key es key v) ≡ map entry_by_list es ++ (key.items, v) ∷ []
insert-entry_by_list key v [] none = refl
insert-entry_by_list key v (e ∷ es) none =
    insert_step (bytes_eq key.items e.0.items) e es (insert_entry same_key es key v)
    (map entry_by_list es ++ (key.items, v) ∷ []) e.1 v (index_of (map entry_by_list es) key.items) none (insert-entry_by_list key v es)
