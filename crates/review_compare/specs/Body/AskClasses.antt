-- Classes of asks; only proofs of bodies need these definitions.
use Rattle.std.specs.Prelude.{◌≡◌, ◌⊎◌, ℕ, true, List, [], ◌∷◌, filter, Option}
use Rattle.std.specs.List.{Contains}
use Rattle.sudo_match.specs.declared.people.Machine.{Machine}
use Rattle.sudo_match.specs.declared.people.Person.{Person}
use Rattle.sudo_verdict.specs.Questions.{Question}
use Rattle.review_compare.specs.declared.ask_class.AskClass.{AskClass}
use Rattle.review_compare.specs.declared.ask_class.AskedWith.{AskedWith}
use Rattle.review_compare.specs.declared.cell.Ask.{Ask}
use Rattle.review_compare.specs.declared.cell.AskedGroups.{AskedGroups}
use Rattle.review_compare.specs.declared.cell.AskedTargets.{AskedTargets}
use Rattle.review_compare.specs.declared.pair.Pair.{Pair}
use Rattle.review_compare.specs.declared.spot.Listed.{Listed}
use Rattle.review_compare.specs.Cells.{Decider}
use Rattle.review_compare.specs.Differences.{Asking, targets_of}
use Rattle.review_compare.specs.Body.Chosen.{chosen, host_at}
use Rattle.review_compare.specs.Body.Near.{changed_rows, near_deciders, near_of}
use Rattle.review_compare.specs.Body.Progress.{ask_of, asking}
use Rattle.review_compare.specs.Body.SameRunas.{AreFirsts}

-- the rows of the blocks between the common prefix and suffix
abbrev pub changed_by : Pair → List Decider
changed_by p = changed_rows p.common p.old.blocks.items p.new.blocks.items

-- the near rows of the blocks on the host
abbrev pub on_old : Pair → Machine → Listed → List Decider
on_old p m l = chosen p.parts.old.items (filter (host_at p.old.checked.now p.old.blocks.items m) l.old.items)

abbrev pub on_new : Pair → Machine → Listed → List Decider
on_new p m l = chosen p.parts.new.items (filter (host_at p.new.checked.now p.new.blocks.items m) l.new.items)

-- the near rows of the near blocks that stand
abbrev pub kept_old : Pair → Question → List Decider
kept_old p q = near_of (changed_by p) (near_deciders p.old.checked.now p.old.blocks.items p.near.old.items q)

abbrev pub kept_new : Pair → Question → List Decider
kept_new p q = near_of (changed_by p) (near_deciders p.new.checked.now p.new.blocks.items p.near.new.items q)

-- where the user asks for this on a host, those of the blocks that list the host decide
pub record Decide (p : Pair) (u : Person) (a : Ask) (l : Listed) : Type 0 where
  pub old : (m : Machine) → kept_old p (ask_of p u m a) ≡ on_old p m l
  pub new : (m : Machine) → kept_new p (ask_of p u m a) ≡ on_new p m l

abbrev pub IsAskedWith : Asking → AskedWith → Ask → Type 0
IsAskedWith asks w a = (asks a.target a.group w.groups ≡ true) × Contains (targets_of w.targets.items) a.target

-- the targets with their groups, as lists
abbrev pub plain : AskedWith → AskedGroups × List AskedTargets
plain w = (w.groups, w.targets.items)

-- the ask is among them
abbrev pub AreAsked : Asking → List AskedWith → Ask → Type 0
AreAsked asks [] a = ⊥
AreAsked asks (w ∷ ws) a = IsAskedWith asks w a ⊎ AreAsked asks ws a

-- one of these has the ask
abbrev pub HaveIn : {K : Type 0} → (K → Ask → Type 0) → List K → Ask → Type 0
HaveIn has [] a = ⊥
HaveIn has (k ∷ ks) a = has k a ⊎ HaveIn has ks a

-- one of the classes has the ask
abbrev pub HaveAsk : Asking → List AskClass → Ask → Type 0
HaveAsk asks ks a = HaveIn (λ k b. AreAsked asks k.asked.items b) ks a

-- the target is asked for, with one of these groups
abbrev pub IsAskedFor : Asking → Option ℕ → AskedGroups → Ask → Type 0
IsAskedFor asks target groups a = (target ≡ a.target) × (asks a.target a.group groups ≡ true)

-- the asks with those for a target and some groups
pub record AddsTarget (old : List AskedWith) (target : Option ℕ) (groups : AskedGroups) (new : List AskedWith) : Type 0 where
  pub kept : (asks : Asking) (a : Ask) → AreAsked asks old a → AreAsked asks new a
  pub added : (asks : Asking) (a : Ask) → IsAskedFor asks target groups a → AreAsked asks new a
  pub only : (asks : Asking) (a : Ask) → AreAsked asks new a → AreAsked asks old a ⊎ IsAskedFor asks target groups a

-- with a further one, as it is asked in rows of both policies
pub record AddsAsked (p : Pair) (old : List AskedWith) (ask : Ask) (new : List AskedWith) : Type 0 where
  pub kept : (a : Ask) → AreAsked (asking p) old a → AreAsked (asking p) new a
  pub added : AreAsked (asking p) new ask
  pub only : (a : Ask) → AreAsked (asking p) new a → AreAsked (asking p) old a ⊎ (ask ≡ a)

-- with further ones
pub record AddsAsks (p : Pair) (old : List AskedWith) (more : List Ask) (new : List AskedWith) : Type 0 where
  pub kept : (a : Ask) → AreAsked (asking p) old a → AreAsked (asking p) new a
  pub added : (a : Ask) → Contains more a → AreAsked (asking p) new a
  pub only : (a : Ask) → AreAsked (asking p) new a → AreAsked (asking p) old a ⊎ Contains more a

-- the same blocks decide each ask of the class
abbrev pub IsAskClass : Pair → Person → AskClass → Type 0
IsAskClass p u k = (a : Ask) → AreAsked (asking p) k.asked.items a → Decide p u a k.allowing

-- for each of the blocks of both policies, a position at which one has the same runas
pub record AreFirstsOf (p : Pair) (l firsts : Listed) : Type 0 where
  pub old : AreFirsts p.old.checked.now p.old.blocks.items l.old.items firsts.old.items
  pub new : AreFirsts p.new.checked.now p.new.blocks.items l.new.items firsts.new.items
