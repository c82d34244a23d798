-- Sets of numbers as bits; only proofs of bodies need these definitions.
use Rattle.std.specs.Prelude.{ℕ, ◌%◌, Bool, ◌==◌, List}
use Rattle.std.specs.List.{list_all}
use Rattle.sudo_match.specs.declared.people.Group.{Group}
use Rattle.sudo_verdict.specs.Postings.{bit}
use Rattle.sudo_verdict.specs.Numbers.{group_mark}

-- the set has the number
abbrev pub set_has : List ℕ → ℕ → Bool
set_has words number = bit words (number % 1024) == 1

-- the set has the mark
abbrev pub has_mark : List ℕ → ℕ → Bool
has_mark words mark = bit words (mark % 64) == 1

-- the set has the mark of each group's name
unfoldable pub has_marks : List ℕ → List Group → Bool
has_marks words groups = list_all (λ (g : Group). has_mark words (group_mark g.name)) groups
