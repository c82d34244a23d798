-- The files of an audit, opened.
use Rattle.std.specs.Prelude.{◌≡◌, ⊤, ℕ, true, List, ◌∷◌, ◌++◌, Some, map, slice_get, take, All}
use Rattle.std.specs.List.{AllZip}
use Rattle.audit_run.specs.declared.source.Source.{Source}
use Rattle.audit_commands.specs.Senders.{is_sender_name}
use Rattle.run_base.specs.declared.fault.OpenFault.TheVariants as opens
use Rattle.run_base.specs.declared.obstacle.Obstacle.{Obstacle}
use Rattle.audit_commands.specs.declared.fault.SourcesFault.{SourcesFault}
use Rattle.audit_commands.specs.declared.fault.SourcesFault.TheVariants as faults

-- the name of a sender, and a path
abbrev pub Pair : Type 0
Pair = List ℕ × List ℕ

-- the word of a pair: `NAME=PATH`
abbrev pub word_of : Pair → List ℕ
word_of pair = pair.0 ++ 61 ∷ pair.1

abbrev pub IsNamed : Pair → Type 0
IsNamed pair = is_sender_name pair.0 ≡ true

-- the words are these senders and paths, in order
pub record AreSenders (words : List (List ℕ)) (pairs : List Pair) : Type 0 where
  pub spelled : map word_of pairs ≡ words
  pub named : All IsNamed pairs

-- the first word that is not `NAME=PATH` with the name of a sender
pub record IsFirstBad (words : List (List ℕ)) (word : List ℕ) : Type 0 where
  pub at : ℕ
  pub pairs : List Pair
  pub earlier : AreSenders (take at words) pairs
  pub there : slice_get words at ≡ Some word
  pub bad : (pair : Pair) → word ≡ word_of pair → IsNamed pair → ⊥

-- each source has the name of its sender, and a reader of its path
abbrev pub AreOpened : {R : Type 0} → (List ℕ → R → Type 0) → List Pair → List (Source R) → Type 0
AreOpened Opens pairs sources = AllZip (λ pair source. (source.name ≡ pair.0) × Opens pair.1 source.reader) pairs sources

-- the sources are those of the words
abbrev pub AreSources : {R : Type 0} → (List ℕ → R → Type 0) → List (List ℕ) → List (Source R) → Type 0
AreSources Opens words sources = (pairs : List Pair) × AreSenders words pairs × AreOpened Opens pairs sources

-- there is a reader of the path
abbrev pub HasReader : {R : Type 0} → (List ℕ → R → Type 0) → List ℕ → Type 0
HasReader {R} Opens path = (reader : R) × Opens path reader

-- the first path, in this order, that has no reader, for this reason
pub record IsFirstClosed {R : Type 0} (Opens : List ℕ → R → Type 0) (Closed : List ℕ → Obstacle → Type 0)
    (paths : List (List ℕ)) (path : List ℕ) (why : Obstacle) : Type 0 where
  pub earlier : List (List ℕ)
  pub later : List (List ℕ)
  pub order : paths ≡ earlier ++ path ∷ later
  pub opened : All (HasReader Opens) earlier
  pub closed : Closed path why

-- the paths of an audit, in the order in which they are opened: users, hosts, and the requests in
-- the order of their words
abbrev pub paths_of : List ℕ → List ℕ → List Pair → List (List ℕ)
paths_of users hosts pairs = users ∷ hosts ∷ map (λ p. p.1) pairs

-- no word is bad, and this is the first path that has no reader, for this reason
abbrev pub IsUnopened : {R : Type 0} → (List ℕ → R → Type 0) → (List ℕ → Obstacle → Type 0) → List ℕ → List ℕ → List (List ℕ)
    → List ℕ → Obstacle → Type 0
IsUnopened Opens Closed users hosts words path why =
    (pairs : List Pair) × AreSenders words pairs × IsFirstClosed Opens Closed (paths_of users hosts pairs) path why

-- why the files are not opened: a word is bad; no word is, and a path has no reader; or memory failed
abbrev pub IsNotOpened : {R : Type 0} → (List ℕ → R → Type 0) → (List ℕ → Obstacle → Type 0) → List ℕ → List ℕ → List (List ℕ)
    → SourcesFault → Type 0
IsNotOpened Opens Closed users hosts words (faults.BadSender word) = IsFirstBad words word
IsNotOpened Opens Closed users hosts words (faults.Unopened (opens.CannotRead path why)) =
    IsUnopened Opens Closed users hosts words path why
IsNotOpened Opens Closed users hosts words (faults.Unopened opens.Memory) = ⊤
