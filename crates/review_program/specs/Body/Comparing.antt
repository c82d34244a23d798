-- A step of a comparison. Only proofs of bodies use this.
use Rattle.std.specs.Prelude.{ℕ, List, Option}
use Rattle.sudo_match.specs.declared.people.Machine.{Machine}
use Rattle.sudo_match.specs.declared.people.Person.{Person}
use Rattle.review_commands.specs.declared.pair.Pair.{Pair}
use Rattle.review_program.specs.Comparing.{AreDifferenceRows}

-- the table of the differences of a pair in a scope
abbrev pub AreScopedDifferences : Pair → Option Person → Option Machine → List ℕ → ℕ → Type 0
AreScopedDifferences pair person machine text status =
    AreDifferenceRows person machine pair.old.policy pair.new.policy pair.directory text status
