-- Classes of hosts; only proofs of bodies need these definitions.
use Rattle.std.specs.Prelude.{◌≡◌, ◌⊎◌, ◌<◌, ℕ, true, List, [], ◌∷◌, ◌++◌, get_or, length, slice_get, Option, Some, None}
use Rattle.sudo_match.specs.declared.people.Person.{Person}
use Rattle.sudo_verdict.specs.Questions.{Question}
use Rattle.review_compare.specs.declared.ask_class.AskClass.{AskClass}
use Rattle.review_compare.specs.declared.cell.Ask.{Ask}
use Rattle.review_compare.specs.declared.cell.Cell.{Cell}
use Rattle.review_compare.specs.declared.compared.Compared.{Compared}
use Rattle.review_compare.specs.declared.host_class.FoundHosts.{FoundHosts}
use Rattle.review_compare.specs.declared.host_class.HostClass.{HostClass}
use Rattle.review_compare.specs.declared.pair.Pair.{Pair}
use Rattle.review_compare.specs.declared.spot.Listed.{Listed}
use Rattle.review_compare.specs.Cells.{deciders}
use Rattle.review_compare.specs.Differences.{SameIf, question_at}
use Rattle.review_compare.specs.Body.AskClasses.{AreAsked, changed_by}
use Rattle.review_compare.specs.Body.Merged.{IsOnAmong, is_among}
use Rattle.review_compare.specs.Body.Near.{IsFoundNear}
use Rattle.review_compare.specs.Body.Progress.{AreListedIn, IsSpot, asking}

-- the same blocks of both policies
abbrev pub AreSameBlocks : Listed → Listed → Type 0
AreSameBlocks k l = (k.old.items ≡ l.old.items) × (k.new.items ≡ l.new.items)

-- what is found is right for the question; where it is not settled, by the rows near the change
abbrev pub IsFoundAt : Pair → Option Question → Compared → Type 0
IsFoundAt p None f = Unit {0}
IsFoundAt p (Some q) f = IsFoundNear (changed_by p) (deciders p.old.checked.now q) (deciders p.new.checked.now q) f

-- so it is in the cells of the user on the hosts, with one of these asks
abbrev pub IsRightIn : Pair → ℕ → List ℕ → (Ask → Type 0) → Compared → Type 0
IsRightIn p user hosts asked f = (c : Cell) → IsOnAmong user hosts asked c →
    IsFoundAt p (question_at p.directory.now p.groups.now c) f

-- so is what is found for each class of asks
abbrev pub AreRightIn : Pair → ℕ → List ℕ → List AskClass → List Compared → Type 0
AreRightIn p user hosts ks fs = (length fs ≡ length ks) × ((n : ℕ) (k : AskClass) (f : Compared) → n < length ks →
    IsRightIn p user hosts (AreAsked (asking p) (get_or ks n k).asked.items) (get_or fs n f))

-- a class has the blocks that list the user on its first host; its finding for each class of asks is right on all its hosts
pub record IsClass (p : Pair) (user : ℕ) (u : Person) (ks : List AskClass) (k : HostClass) : Type 0 where
  pub spot : IsSpot p k.spot
  pub own : k.spot.user ≡ user
  pub person : k.spot.person.now ≡ u
  pub listed : AreListedIn p k.spot k.listed
  pub among : is_among k.hosts.items k.spot.host ≡ true
  pub right : AreRightIn p user k.hosts.items ks k.founds.items

-- the class with further hosts
pub record IsWith (hosts : List ℕ) (k new : HostClass) : Type 0 where
  pub spot : new.spot ≡ k.spot
  pub listed : new.listed ≡ k.listed
  pub founds : new.founds ≡ k.founds
  pub hosts_are : new.hosts.items ≡ k.hosts.items ++ hosts

-- one of the classes has the host
abbrev pub HaveHost : List HostClass → ℕ → Type 0
HaveHost [] host = ⊥
HaveHost (k ∷ ks) host = (is_among k.hosts.items host ≡ true) ⊎ HaveHost ks host

-- the classes with further hosts
pub record AddsHosts (old : List HostClass) (hosts : List ℕ) (new : List HostClass) : Type 0 where
  pub kept : (other : ℕ) → HaveHost old other → HaveHost new other
  pub added : (host : ℕ) → is_among hosts host ≡ true → HaveHost new host

-- both policies say the same in the cell, or one of the classes has its host
abbrev pub IsClassed : Pair → List HostClass → Cell → Type 0
IsClassed p ks c =
    SameIf p.old.checked.now p.new.checked.now (question_at p.directory.now p.groups.now c) ⊎ HaveHost ks c.host

-- the classes with the host of these cells, unless both policies say the same there
pub record AddsCells (p : Pair) (old : List HostClass) (cells : Cell → Type 0) (new : List HostClass) : Type 0 where
  pub kept : (host : ℕ) → HaveHost old host → HaveHost new host
  pub added : (c : Cell) → cells c → IsClassed p new c

-- a class has the host, and this is found there for the class of asks at an index
abbrev pub FoundOn : List HostClass → ℕ → Compared → ℕ → Type 0
FoundOn [] n f host = ⊥
FoundOn (k ∷ ks) n f host = ((is_among k.hosts.items host ≡ true) × (slice_get k.founds.items n ≡ Some f)) ⊎ FoundOn ks n f host

-- this is found on the host
abbrev pub IsFoundOn : List FoundHosts → Compared → ℕ → Type 0
IsFoundOn [] f host = ⊥
IsFoundOn (g ∷ gs) f host = ((g.found.now ≡ f) × (is_among g.hosts.items host ≡ true)) ⊎ IsFoundOn gs f host

-- with further hosts on which this is found
pub record AddsFoundOn (old : List FoundHosts) (f : Compared) (hosts : List ℕ) (new : List FoundHosts) : Type 0 where
  pub kept : (g : Compared) (host : ℕ) → IsFoundOn old g host → IsFoundOn new g host
  pub added : (host : ℕ) → is_among hosts host ≡ true → IsFoundOn new f host
  pub only : (g : Compared) (host : ℕ) → IsFoundOn new g host → IsFoundOn old g host ⊎ ((f ≡ g) × (is_among hosts host ≡ true))

-- with the hosts of a class on which something is found for the class of asks at an index
pub record AddsClass (old : List FoundHosts) (k : HostClass) (n : ℕ) (new : List FoundHosts) : Type 0 where
  pub kept : (f : Compared) (host : ℕ) → IsFoundOn old f host → IsFoundOn new f host
  pub added : (f : Compared) (host : ℕ) → is_among k.hosts.items host ≡ true → slice_get k.founds.items n ≡ Some f → IsFoundOn new f host
  pub only : (f : Compared) (host : ℕ) → IsFoundOn new f host →
      IsFoundOn old f host ⊎ ((is_among k.hosts.items host ≡ true) × (slice_get k.founds.items n ≡ Some f))

-- the hosts of classes by what is found for the class of asks at an index
pub record AreFoundOn (ks : List HostClass) (n : ℕ) (gs : List FoundHosts) : Type 0 where
  pub all : (f : Compared) (host : ℕ) → FoundOn ks n f host → IsFoundOn gs f host
  pub only : (f : Compared) (host : ℕ) → IsFoundOn gs f host → FoundOn ks n f host

-- what is found on these hosts is right for the asks of the class
abbrev pub AreRightOn : Pair → ℕ → AskClass → FoundHosts → Type 0
AreRightOn p user k g = IsRightIn p user g.hosts.items (AreAsked (asking p) k.asked.items) g.found.now

-- a cell of the user on one of the hosts, with one of these asks
abbrev pub IsOnFound : ℕ → List FoundHosts → (Ask → Type 0) → Cell → Type 0
IsOnFound user gs asked c = (c.user ≡ user) × ((f : Compared) × IsFoundOn gs f c.host) × asked c.ask

-- a cell of the user on a host of a class, with one of these asks
abbrev pub IsOnClasses : ℕ → List HostClass → (Ask → Type 0) → Cell → Type 0
IsOnClasses user ks asked c = (c.user ≡ user) × HaveHost ks c.host × asked c.ask
