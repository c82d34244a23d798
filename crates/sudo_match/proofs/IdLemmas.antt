-- Group IDs with their indices, compared with the map that contains them.
use Rattle.std.proofs.Common.{◌≡◌, ℕ, List, [], ◌∷◌, ◌++◌, Option, None, Some, Bool, true, false, ◌&&◌, map, refl, ap, sym, ◌∙◌, cond}
use Rattle.std.specs.Prelude.{nat_eq}
use Rattle.std.specs.Map.{lookup}
use Rattle.indexmap.specs.IndexMap.{insert_entry}
use Rattle.sudo_base.specs.NameIndices.{index_of}
use Rattle.sudo_match.specs.Body.IdEntry.{entry_by_id}
use Rattle.sudo_match.proofs.CharsLemmas.{and-true}

-- a look-up among the entries is one among the IDs
pub lookup-entry_by_id : (id : ℕ) (es : List (ℕ × ℕ)) → lookup (nat_eq id) es ≡ index_of (map entry_by_id es) (id ∷ [])
lookup-entry_by_id id [] = refl
lookup-entry_by_id id (e ∷ es) =
    ap (λ b. cond b (Some e.1) (lookup (nat_eq id) es)) (sym (and-true (nat_eq id e.0)))
    ∙ ap (λ r. cond (nat_eq id e.0 && true) (Some e.1) r) (lookup-entry_by_id id es)

insert_step :
    (b : Bool) (e : ℕ × ℕ) (es xs : List (ℕ × ℕ)) (ys : List (List ℕ × ℕ)) (i v : ℕ) (r : Option ℕ) → cond (b && true) (Some i) r ≡ None →
    (r ≡ None → map entry_by_id xs ≡ ys) → map entry_by_id (cond b ((e.0, v) ∷ es) (e ∷ xs)) ≡ entry_by_id e ∷ ys
insert_step true e es xs ys i v r none rest = cc
insert_step false e es xs ys i v r none rest = ap (λ zs. entry_by_id e ∷ zs) (rest none)

-- a new ID goes last
pub insert-entry_by_id :
    (id v : ℕ) (es : List (ℕ × ℕ)) → index_of (map entry_by_id es) (id ∷ []) ≡ None →
    map entry_by_id (insert_entry nat_eq es id v) ≡ map entry_by_id es ++ (id ∷ [], v) ∷ []
insert-entry_by_id id v [] none = refl
insert-entry_by_id id v (e ∷ es) none =
    insert_step (nat_eq id e.0) e es (insert_entry nat_eq es id v) (map entry_by_id es ++ (id ∷ [], v) ∷ []) e.1 v
    (index_of (map entry_by_id es) (id ∷ [])) none (insert-entry_by_id id v es)
