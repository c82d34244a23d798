-- Statements of laws.
use Rattle.std.specs.Prelude.{◌≡◌, ◌<◌, ℕ, true, List, length, take, ◌+◌}
use Rattle.std.specs.Prelude.{All}
use Rattle.review_files.specs.declared.tree.Entry.{Entry}
use Rattle.review_files.specs.declared.tree.Entry.TheVariants as entries
use Rattle.review_files.specs.declared.tree.Kind.{Kind}
use Rattle.review_files.specs.declared.walk.Outcome.TheVariants as outcomes
use Rattle.review_files.specs.Paths.{is_plain, path_below}
use Rattle.review_files.specs.Resolving.{Resolves}

-- the entry is of some kind, and so no link
abbrev pub IsNoLink : Entry → Type 0
IsNoLink entry = (kind : Kind) × (entry ≡ entries.Is kind)

-- a look at each of the names, with those before it, may show an entry that is no link
abbrev pub HaveNoLink : (List ℕ → Entry → Type 0) → List ℕ → List (List ℕ) → Type 0
HaveNoLink shows folder names =
    (k : ℕ) → k < length names
    → (entry : Entry) × shows (path_below folder (take (k + 1) names)) entry × IsNoLink entry

-- a path that leads to an entry leads to one below the folder, by names of entries alone, and none of them is a link
abbrev pub PathsStayBelow : (List ℕ → Entry → Type 0) → Type 0
PathsStayBelow shows =
    (folder path : List ℕ) (names : List (List ℕ)) (kind : Kind) → Resolves shows folder path (outcomes.At names kind)
    → All (λ name. is_plain name ≡ true) names × HaveNoLink shows folder names
