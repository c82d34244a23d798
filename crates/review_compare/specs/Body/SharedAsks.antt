-- Asks that the same near rows decide, whoever asks; only proofs of bodies need these definitions.
use Rattle.std.specs.Prelude.{◌≡◌, ◌⊎◌, List, [], ◌∷◌, All}
use Rattle.std.specs.List.{Contains}
use Rattle.sudo_match.specs.declared.people.Machine.{Machine}
use Rattle.sudo_match.specs.declared.people.Person.{Person}
use Rattle.review_compare.specs.declared.cell.Ask.{Ask}
use Rattle.review_compare.specs.declared.pair.Pair.{Pair}
use Rattle.review_compare.specs.declared.shared.AnsweredAsks.{AnsweredAsks}
use Rattle.review_compare.specs.declared.shared.SharedAsks.{SharedAsks}
use Rattle.review_compare.specs.declared.shared.SplitAsks.{SplitAsks}
use Rattle.review_compare.specs.declared.spot.Listed.{Listed}
use Rattle.review_compare.specs.Body.AskClasses.{AddsAsks, AreAsked, HaveIn, kept_new, kept_old}
use Rattle.review_compare.specs.Differences.{Asking}
use Rattle.review_compare.specs.Body.Progress.{ask_of, asking}
use Rattle.review_compare.specs.Body.Whoever.{AreAnswered}

-- whoever asks for either on a host, the same near rows of near blocks stand
pub record AreAlike (p : Pair) (a b : Ask) : Type 0 where
  pub old : (u : Person) (m : Machine) → kept_old p (ask_of p u m a) ≡ kept_old p (ask_of p u m b)
  pub new : (u : Person) (m : Machine) → kept_new p (ask_of p u m a) ≡ kept_new p (ask_of p u m b)

-- the blocks answer the same to the first and to each of the asks
pub record IsAnsweredAlike (p : Pair) (forms : Listed) (s : AnsweredAsks) : Type 0 where
  pub first : AreAnswered p forms s.first s.answers.old.items s.answers.new.items
  pub each : (a : Ask) → Contains s.asks.items a → AreAnswered p forms a s.answers.old.items s.answers.new.items

-- one of these has the ask
abbrev pub HaveAnswered : List AnsweredAsks → Ask → Type 0
HaveAnswered ss a = HaveIn (λ s b. Contains s.asks.items b) ss a

-- each of the asks is like the first
abbrev pub IsShared : Pair → SharedAsks → Type 0
IsShared p s = (a : Ask) → AreAsked (asking p) s.asked.items a → AreAlike p a s.first

-- one of the classes has the ask
abbrev pub HaveShared : Asking → List SharedAsks → Ask → Type 0
HaveShared asks ss a = HaveIn (λ s b. AreAsked asks s.asked.items b) ss a

-- the same asks with the same first one
pub record IsBriefly (p : Pair) (answered : AnsweredAsks) (s : SharedAsks) : Type 0 where
  pub first : s.first ≡ answered.first
  pub asked : AddsAsks p [] answered.asks.items s.asked.items

-- those of each class
abbrev pub AreBriefly : Pair → List AnsweredAsks → List SharedAsks → Type 0
AreBriefly p [] [] = Unit {0}
AreBriefly p (k ∷ ks) (s ∷ ss) = IsBriefly p k s × AreBriefly p ks ss
AreBriefly p _ _ = ⊥

-- each ask is in a class of shared ones, or among the others
pub record IsSplit (p : Pair) (split : SplitAsks) : Type 0 where
  pub shared : All (IsShared p) split.shared.items
  pub all : (a : Ask) → Contains split.all.items a → Contains split.own.items a ⊎ HaveShared (asking p) split.shared.items a
