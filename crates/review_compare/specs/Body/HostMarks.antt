-- Which blocks list a host, where that was looked up; only proofs of bodies need these definitions.
use Rattle.std.specs.Prelude.{◌≡◌, ◌<◌, ◌+◌, ◌*◌, ℕ, List, get_or, length, slice_index_or, IfOk, Result, Vec}
use Rattle.std.specs.declared.alloc.AllocError.{AllocError}
use Rattle.std.specs.declared.alloc.Global.{Global}
use Rattle.sudo_match.specs.declared.people.Machine.{Machine}
use Rattle.review_compare.specs.declared.host_marks.HostMarks.{HostMarks}
use Rattle.review_compare.specs.declared.side.Side.{Side}
use Rattle.review_compare.specs.Body.Chosen.{AreMarks}

-- of both policies
pub record AreHostMarks (old new : Side) (m : Machine) (marks : HostMarks) : Type 0 where
  pub in_old : AreMarks old.checked.now old.blocks.items m marks.old.items
  pub in_new : AreMarks new.checked.now new.blocks.items m marks.new.items

-- for each of the hosts
abbrev pub HaveHostMarks : Side → Side → List Machine → List HostMarks → Type 0
HaveHostMarks old new machines marks = (h : ℕ) (m : Machine) (k : HostMarks) → h < length marks →
    AreHostMarks old new (get_or machines h m) (get_or marks h k)

-- for each of the hosts from an index on
abbrev pub HaveMarksFrom : ℕ → Side → Side → List Machine → List HostMarks → Type 0
HaveMarksFrom first old new machines marks = (h : ℕ) (m : Machine) (k : HostMarks) → h < length marks →
    AreHostMarks old new (get_or machines (first + h) m) (get_or marks h k)

-- the marks of a part of the hosts, of so many, or nothing because allocation failed
abbrev pub IsMarkPart : ℕ → Side → Side → List Machine → ℕ → Result (Vec HostMarks Global) AllocError → Type 0
IsMarkPart count old new machines part made = IfOk made (λ marks. (length marks.items ≡ count)
    × HaveMarksFrom (part * count) old new machines marks.items)

-- the marks of the parts, in order
abbrev pub AreMarkParts : ℕ → Side → Side → List Machine → List (Result (Vec HostMarks Global) AllocError) → Type 0
AreMarkParts count old new machines parts = (part : ℕ) (d : Result (Vec HostMarks Global) AllocError) → part < length parts →
    IsMarkPart count old new machines part (slice_index_or parts part d)
