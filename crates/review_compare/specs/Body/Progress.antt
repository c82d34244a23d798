-- The rows so far, and the cells that are done; only proofs of bodies need these definitions.
use Rattle.std.specs.Prelude.{◌≡◌, ◌⊎◌, ◌<◌, ◌≤◌, ◌+◌, ◌*◌, ℕ, true, List, [], length, slice_get, slice_index_or, Option, Some}
use Rattle.std.specs.Prelude.{IfOk, Result, Vec}
use Rattle.std.specs.declared.alloc.AllocError.{AllocError}
use Rattle.std.specs.declared.alloc.Global.{Global}
use Rattle.std.specs.List.{Contains, list_all}
use Rattle.sudo_match.specs.declared.people.Machine.{Machine}
use Rattle.sudo_match.specs.declared.people.Person.{Person}
use Rattle.sudo_verdict.specs.Questions.{Question, question_as}
use Rattle.review_compare.specs.declared.cell.Ask.{Ask}
use Rattle.review_compare.specs.declared.cell.Cell.{Cell}
use Rattle.review_compare.specs.declared.compared.Compared.{Compared}
use Rattle.review_compare.specs.declared.pair.Pair.{Pair}
use Rattle.review_compare.specs.declared.spot.Listed.{Listed}
use Rattle.review_compare.specs.declared.spot.Spot.{Spot}
use Rattle.review_compare.specs.declared.row.Row.{Row}
use Rattle.review_compare.specs.Differences.{Asking, Finds, IsFound, IsDone, is_asked, is_host_if, is_user_if, known_at}
use Rattle.review_compare.specs.Cells.{SaySame}
use Rattle.review_compare.specs.Body.Chosen.{AreListed, HaveAllOf, user_at}

-- what rows of both policies ask for
abbrev pub asking : Pair → Asking
asking p = is_asked p.directory.now p.groups.now

-- rows that were found before are found after, what is found is right if it was before, and these cells are done
pub record Progress (p : Pair) (before after : List Row) (done_with : Cell → Type 0) : Type 0 where
  pub kept : (c : Cell) (f : Compared) → Finds (asking p) before c f → Finds (asking p) after c f
  pub right :
      ((c : Cell) (f : Compared) → Finds (asking p) before c f →
      IsFound p.old.checked.now p.new.checked.now p.directory.now p.groups.now c f) →
      (c : Cell) (f : Compared) → Finds (asking p) after c f → IsFound p.old.checked.now p.new.checked.now p.directory.now p.groups.now c f
  pub done : (c : Cell) → done_with c → IsDone p.old.checked.now p.new.checked.now p.directory.now p.groups.now after c

-- the blocks of both policies for the user on the host
pub record AreListedIn (p : Pair) (s : Spot) (l : Listed) : Type 0 where
  pub old : AreListed p.old.checked.now p.old.blocks.items p.near.old.items s.person.now s.machine.now l.old.items
  pub new : AreListed p.new.checked.now p.new.blocks.items p.near.new.items s.person.now s.machine.now l.new.items

-- what is asked at the spot
abbrev pub question_of : Pair → Spot → Ask → Question
question_of p s a = question_as p.directory.now s.person.now s.machine.now (known_at p.directory.now.people a.target)
    (known_at p.groups.now a.group)

-- what the user on the host asks for
abbrev pub ask_of : Pair → Person → Machine → Ask → Question
ask_of p u m a = question_as p.directory.now u m (known_at p.directory.now.people a.target) (known_at p.groups.now a.group)

-- each ask is left, unless this is so of it
abbrev pub AreLeftUnless : (Ask → Type 0) → List Ask → List Ask → Type 0
AreLeftUnless same asks left = (a : Ask) → Contains asks a → Contains left a ⊎ same a

-- both policies say the same to what the user asks for on every host
abbrev pub SayUserSame : Pair → Person → Ask → Type 0
SayUserSame p u a = (m : Machine) → SaySame p.old.checked.now p.new.checked.now (ask_of p u m a)

-- and to what each user asks for
abbrev pub SayAllSame : Pair → Ask → Type 0
SayAllSame p a = (u : Person) → SayUserSame p u a

abbrev pub AreLeft : Pair → Person → List Ask → List Ask → Type 0
AreLeft p u asks left = AreLeftUnless (SayUserSame p u) asks left

abbrev pub AreLeftForAll : Pair → List Ask → List Ask → Type 0
AreLeftForAll p asks left = AreLeftUnless (SayAllSame p) asks left

-- the user and the host have these indices
abbrev pub IsSpot : Pair → Spot → Type 0
IsSpot p s = (slice_get p.directory.now.people s.user ≡ Some s.person.now) ×
    (slice_get p.directory.now.machines s.host ≡ Some s.machine.now)

abbrev pub IsAt : ℕ → ℕ → Ask → Cell → Type 0
IsAt user host ask c = (c.user ≡ user) × (c.host ≡ host) × (c.ask ≡ ask)

-- a cell of the user on the host, with one of these asks
abbrev pub IsOn : ℕ → ℕ → (Ask → Type 0) → Cell → Type 0
IsOn user host asked c = (c.user ≡ user) × (c.host ≡ host) × asked c.ask

-- and the host is asked about
abbrev pub IsOnAsked : Pair → Option Machine → ℕ → ℕ → (Ask → Type 0) → Cell → Type 0
IsOnAsked p scope user host asked c = IsOn user host asked c × (is_host_if scope (slice_get p.directory.now.machines c.host) ≡ true)

-- a cell of the user on a host before this one
abbrev pub IsBefore : Pair → Option Machine → ℕ → ℕ → (Ask → Type 0) → Cell → Type 0
IsBefore p scope user host asked c =
    (c.user ≡ user) × (c.host < host) × asked c.ask × (is_host_if scope (slice_get p.directory.now.machines c.host) ≡ true)

-- a cell of the user on a host that is asked about
abbrev pub IsOnEach : Pair → Option Machine → ℕ → (Ask → Type 0) → Cell → Type 0
IsOnEach p scope user asked c =
    (c.user ≡ user) × asked c.ask × (is_host_if scope (slice_get p.directory.now.machines c.host) ≡ true)

abbrev pub cell_at : Spot → Ask → Cell
cell_at s a = record { user = s.user; host = s.host; ask = a }

-- the blocks of both policies for the user
pub record AreListedFor (p : Pair) (u : Person) (l : Listed) : Type 0 where
  pub old : HaveAllOf p.old.checked.now p.old.blocks.items p.near.old.items u l.old.items
  pub old_each : list_all (user_at p.old.checked.now p.old.blocks.items u) l.old.items ≡ true
  pub new : HaveAllOf p.new.checked.now p.new.blocks.items p.near.new.items u l.new.items
  pub new_each : list_all (user_at p.new.checked.now p.new.blocks.items u) l.new.items ≡ true

-- a cell of the user on a host that is asked about, with one of these asks
pub record IsForAsked (p : Pair) (scope : Option Machine) (user : ℕ) (asks : List Ask) (c : Cell) : Type 0 where
  pub own : c.user ≡ user
  pub on : is_host_if scope (slice_get p.directory.now.machines c.host) ≡ true
  pub asked : Contains asks c.ask

-- and the user is asked about
pub record IsForUser (p : Pair) (about : Option Person) (scope : Option Machine) (user : ℕ) (asks : List Ask) (c : Cell) : Type 0 where
  pub own : c.user ≡ user
  pub is : is_user_if about (slice_get p.directory.now.people c.user) ≡ true
  pub on : is_host_if scope (slice_get p.directory.now.machines c.host) ≡ true
  pub asked : Contains asks c.ask

-- a cell of a user before this one, who is asked about
pub record IsUserBefore (p : Pair) (about : Option Person) (scope : Option Machine) (user : ℕ) (asks : List Ask) (c : Cell) : Type 0 where
  pub before : c.user < user
  pub is : is_user_if about (slice_get p.directory.now.people c.user) ≡ true
  pub on : is_host_if scope (slice_get p.directory.now.machines c.host) ≡ true
  pub asked : Contains asks c.ask

-- a cell of a user from one on and before another, who is asked about
pub record IsUserBetween (p : Pair) (about : Option Person) (scope : Option Machine) (first end : ℕ) (asks : List Ask)
    (c : Cell) : Type 0 where
  pub from : first ≤ c.user
  pub before : c.user < end
  pub is : is_user_if about (slice_get p.directory.now.people c.user) ≡ true
  pub on : is_host_if scope (slice_get p.directory.now.machines c.host) ≡ true
  pub asked : Contains asks c.ask

-- the rows for each part of the users, of so many users each, unless allocation failed
abbrev pub AreParts : Pair → Option Person → Option Machine → List Ask → ℕ → List (Result (Vec Row Global) AllocError) → Type 0
AreParts p about scope asks size parts =
    (i : ℕ) (d : Result (Vec Row Global) AllocError) → i < length parts →
    IfOk (slice_index_or parts i d) (λ rows. Progress p [] rows.items (IsUserBetween p about scope (i * size) (i * size + size) asks))

-- a cell that is asked about
pub record IsAsked (p : Pair) (about : Option Person) (scope : Option Machine) (asks : List Ask) (c : Cell) : Type 0 where
  pub is : is_user_if about (slice_get p.directory.now.people c.user) ≡ true
  pub on : is_host_if scope (slice_get p.directory.now.machines c.host) ≡ true
  pub asked : Contains asks c.ask
