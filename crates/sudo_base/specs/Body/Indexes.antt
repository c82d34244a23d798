-- An index of rows by their names. Only proofs of bodies use these.
use Rattle.std.specs.Prelude.{◌≡◌, ℕ, List, Option, find, take, slice_get, is_some, bytes_eq, option_and_then}
use Rattle.std.specs.List.{list_any}

-- each name has the index of the first of the first n rows that has it as its key, and no other name has an index
pub record IndexesRows {A : Type 0} (key : A → List ℕ) (rows : List A) (n : ℕ) (indices : List ℕ → Option ℕ) : Type 0 where
  pub found : (name : List ℕ) → option_and_then (slice_get rows) (indices name) ≡ find (λ x. bytes_eq (key x) name) (take n rows)
  pub known : (name : List ℕ) → is_some (indices name) ≡ list_any (λ x. bytes_eq (key x) name) (take n rows)
