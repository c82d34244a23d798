-- Blocks of rules as bits, with the rules that may decide; only proofs of bodies need these definitions.
use Rattle.std.specs.Prelude.{◌≡◌, ℕ, ◌+◌, ◌*◌, ◌<◌, ◌≤◌, Bool, false, true, ◌==◌, ◌&&◌, List, length, slice_index}
use Rattle.sudo_match.specs.declared.people.Person.{Person}
use Rattle.sudo_verdict.specs.declared.index.row_list.RowList.{RowList}
use Rattle.sudo_verdict.specs.declared.index.request_numbers.RequestNumbers.{RequestNumbers}
use Rattle.sudo_verdict.specs.Numbers.{lacks_command}
use Rattle.sudo_verdict.specs.Body.NumberSets.{set_has}
use Rattle.sudo_verdict.specs.Postings.{Rows, bit, is_in_row, misses_user, misses_command}

-- the new words have each set bit of the old ones and, within their length, of `words`
abbrev pub AddsWords : List ℕ → List ℕ → List ℕ → Type 0
AddsWords words old new = (i : ℕ) → bit new i ≡ 0 → (bit old i ≡ 0) × (i < 64 * length old → bit words i ≡ 0)

-- the new words have each set bit of the old ones and, within their length, of a number's row from the word `first` on
abbrev pub UnitesRow : Rows → ℕ → ℕ → List ℕ → List ℕ → Type 0
UnitesRow rows number first old new =
    (i : ℕ) → bit new i ≡ 0 → (bit old i ≡ 0) × (i < 64 * length old → is_in_row rows number (64 * first + i) ≡ false)

-- the rule is in no row of the list, which has no more than it can name
abbrev pub IsMissed : Rows → RowList → ℕ → Type 0
IsMissed rows list rule =
    (list.count ≤ 64) × ((k : ℕ) → k < list.count → is_in_row rows (slice_index list.numbers k) rule ≡ false)

-- the list has each row of the user with rules
abbrev pub ListsUser : Rows → RowList → Person → Type 0
ListsUser rows list u = (rule : ℕ) → IsMissed rows list rule → misses_user rows rule u ≡ true

-- the list has each row of the command with rules
abbrev pub ListsCommand : Rows → RowList → List ℕ → Type 0
ListsCommand rows list command = (rule : ℕ) → IsMissed rows list rule → misses_command rows rule command ≡ true

-- the set has the number, and the list has its row, if that has rules
abbrev pub IsNoted : Rows → RequestNumbers → ℕ → Type 0
IsNoted rows numbers number =
    (set_has numbers.set.words number ≡ true) × ((rule : ℕ) → IsMissed rows numbers.commands rule → is_in_row rows number rule ≡ false)

-- the command lacks all numbers but those that are noted
abbrev pub HasNumbers : Rows → RequestNumbers → List ℕ → Type 0
HasNumbers rows numbers command =
    (has : ℕ → Bool) → ((n : ℕ) → IsNoted rows numbers n → has n ≡ false) → lacks_command has command ≡ true

-- both blocks have the bit
abbrev pub both_have : List ℕ → List ℕ → ℕ → Bool
both_have users commands i = (bit users i == 1) && (bit commands i == 1)

-- no row has a rule before the word `start`
abbrev pub StartsAt : Rows → ℕ → Type 0
StartsAt rows start = (number rule : ℕ) → rule < 64 * start → is_in_row rows number rule ≡ false
