-- When it is not settled what a change does: which rows of two policies may answer one command, and otherwise, as far as tests on
-- pairs of rows tell; and which rows are named for these. One before which something is noted is named before others.
use Rattle.std.specs.Prelude.{◌≡◌, ◌⊎◌, ◌<◌, ℕ, Bool, true, false, not, ◌&&◌, ◌||◌, List, ◌∷◌, ◌++◌, length, map, option_map, Option, Some}
use Rattle.std.specs.Prelude.{None}
use Rattle.std.specs.List.{Contains}
use Rattle.sudo_match.specs.declared.request.Tags.{Tags}
use Rattle.review_compare.specs.declared.compared.Decider.{Decider as Named}
use Rattle.review_compare.specs.Agreement.{Way, answer_alike, is_impossible}
use Rattle.review_compare.specs.Cells.{Decider, ruling_by, simple_tests}
use Rattle.review_compare.specs.Lines.{Lined, is_unnoted}
use Rattle.review_compare.specs.Simply.{disjoint_simply}

-- ---- Open rows

-- a row of the list, and those behind it; or none, and all of them
abbrev pub IsWay : List Decider → Option Decider → List Decider → Type 0
IsWay ds None behind = ds ≡ behind
IsWay ds (Some d) behind = (before : List Decider) × (ds ≡ before ++ d ∷ behind)

-- to be answered by this row, or by none, where none of those behind it applies
abbrev pub way_by : Option Decider → List Decider → Way Lined (Option Tags)
way_by d behind = record { by = option_map ruling_by d; later = map ruling_by behind }

-- a row of each policy, or a row of one and none of the other, that may answer one command
pub record IsOpen (ds es : List Decider) (d e : Option Decider) : Type 0 where
  pub behind_old : List Decider
  pub behind_new : List Decider
  -- the first is of the old policy, with these behind it; the second of the new one
  pub old : IsWay ds d behind_old
  pub new : IsWay es e behind_new
  -- they do not leave with the same tags, nor refuse both; a row and none never answer alike
  pub unlike : answer_alike simple_tests (option_map ruling_by d) (option_map ruling_by e) ≡ false
  -- no row behind one of them, in either policy, covers one of them, and they are not seen to be disjoint
  pub possible : is_impossible simple_tests (way_by d behind_old) (way_by e behind_new) ≡ false

-- ---- The rows that are named

-- a row as it is named: without what stands before it
abbrev pub named : Decider → Named
named d = record { place = d.place; answer = d.answer; atom = d.atom }

-- the rows are not seen to be disjoint, if there is the first
abbrev pub meets : Option Decider → Decider → Bool
meets None n = false
meets (Some d) n = not (disjoint_simply d.atom n.atom)

-- something is noted before the row, and it is not seen to be disjoint from one of the two
abbrev pub is_noted_beside : Option Decider → Option Decider → Decider → Bool
is_noted_beside d e n = not (is_unnoted n.before) && (meets d n || meets e n)

abbrev pub IsNotedBeside : List Decider → Option Decider → Option Decider → Option Decider → Type 0
IsNotedBeside ds d e None = ⊥
IsNotedBeside ds d e (Some n) = Contains ds n × (is_noted_beside d e n ≡ true)

-- of a policy its own of the two is named, or a row of it before which something is noted and that meets one of the two
abbrev pub StandsFor : List Decider → Option Decider → Option Decider → Option Decider → Option Decider → Type 0
StandsFor ds own d e r = (r ≡ own) ⊎ IsNotedBeside ds d e r

-- two rows are open, and these are named for them
pub record NamesOpen (ds es : List Decider) (r s : Option Named) : Type 0 where
  pub of_old : Option Decider
  pub of_new : Option Decider
  pub are_open : IsOpen ds es of_old of_new
  pub for_old : Option Decider
  pub for_new : Option Decider
  pub stands_old : StandsFor ds of_old of_old of_new for_old
  pub stands_new : StandsFor es of_new of_old of_new for_new
  pub old : r ≡ option_map named for_old
  pub new : s ≡ option_map named for_new

-- ---- More rows than are compared

-- the most rows of a policy that are compared pair by pair
abbrev pub most_rows : ℕ
most_rows = 1000

-- what is named is a row, if anything is
abbrev pub IsRowIf : List Decider → Option Named → Type 0
IsRowIf ds None = Unit {0}
IsRowIf ds (Some r) = (d : Decider) × Contains ds d × (r ≡ named d)

-- one of the policies has more rows than are compared; rows of each are named
pub record AreMany (ds es : List Decider) (r s : Option Named) : Type 0 where
  pub many : (most_rows < length ds) ⊎ (most_rows < length es)
  pub old : IsRowIf ds r
  pub new : IsRowIf es s

-- what is named where nothing is settled: rows for two that are open, or rows of many
abbrev pub IsUnsettled : List Decider → List Decider → Option Named → Option Named → Type 0
IsUnsettled ds es r s = NamesOpen ds es r s ⊎ AreMany ds es r s
