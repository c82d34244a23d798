-- A table on its way out: what was written, and what waits; only proofs of bodies use these.
use Rattle.std.specs.Prelude.{◌≡◌, ℕ, ◌^◌, ◌-◌, List, [], ◌++◌, length, min, Option}
use Rattle.std.specs.Io.KnownBytes.{Appends}
use Rattle.review_grants.specs.declared.writing.Pending.{Pending}
use Rattle.review_grants.specs.declared.writing.Stopped.{Stopped}
use Rattle.review_grants.specs.Writing.{IsStopped}

-- of the text that was made, the first part was written since `before`, and the rest waits
pub record IsOnItsWay (before now : Option (List ℕ)) (pending : Pending) (made : List ℕ) : Type 0 where
  pub part : List ℕ
  pub gone : Appends before now part
  pub is : made ≡ part ++ pending.text.items
  pub counted : pending.written ≡ min (length part) (2 ^ 64 - 1)

-- this text comes behind what was made before
abbrev pub Puts : Option (List ℕ) → Option (List ℕ) → Pending → Pending → List ℕ → Type 0
Puts old new waited waits text = (before : Option (List ℕ)) (made : List ℕ) → IsOnItsWay before old waited made
    → IsOnItsWay before new waits (made ++ text)

-- all that waited is written
pub record Empties (old new : Option (List ℕ)) (waited waits : Pending) : Type 0 where
  pub same : (before : Option (List ℕ)) (made : List ℕ) → IsOnItsWay before old waited made → IsOnItsWay before new waits made
  pub none : waits.text.items ≡ []

-- it stops within what was made before and this text
abbrev pub StopsIn : Option (List ℕ) → Option (List ℕ) → Pending → List ℕ → Stopped → Type 0
StopsIn old new waited text stop = (before : Option (List ℕ)) (made : List ℕ) → IsOnItsWay before old waited made
    → IsStopped before new (made ++ text) stop
