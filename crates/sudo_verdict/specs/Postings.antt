-- The rows of an index of rules.
use Rattle.std.specs.Prelude.{◌≡◌, ℕ, ◌/◌, ◌%◌, ◌==◌, ◌<◌, Bool, true, ◌||◌, List, [], length, slice_get, slice_index}
use Rattle.std.specs.Prelude.{Option, Some, None, Vec}
use Rattle.std.specs.Int.{bit_at}
use Rattle.std.specs.declared.alloc.Global.{Global}
use Rattle.sudo_grammar.specs.declared.policy.Entry.{Entry}
use Rattle.sudo_grammar.specs.declared.policy.Policy.{Policy}
use Rattle.sudo_match.specs.declared.people.Person.{Person}
use Rattle.sudo_verdict.specs.declared.index.key.EntryKeys.{EntryKeys}
use Rattle.sudo_verdict.specs.Questions.{Question}
use Rattle.sudo_verdict.specs.Found.{entry_found}
use Rattle.sudo_verdict.specs.Keys.{AreKeys}
use Rattle.sudo_verdict.specs.Numbers.{lacks_user, lacks_command}

-- rows of words, a bit for each rule; the row of a number is at its index modulo the number of rows
abbrev pub Rows : Type 0
Rows = List (Vec ℕ Global)

-- the bit of a rule, 0 or 1
abbrev pub bit : List ℕ → ℕ → ℕ
bit words rule = bit_at (slice_index words (rule / 64)) (rule % 64)

-- the words of a row; none if there is no row
abbrev pub row_words : Option (Vec ℕ Global) → List ℕ
row_words None = []
row_words (Some row) = row.items

-- the rule is in the row of a number
unfoldable pub is_in_row : Rows → ℕ → ℕ → Bool
is_in_row rows number rule = bit (row_words (slice_get rows (number % length rows))) rule == 1

-- the rule is in no row of a user
abbrev pub misses_user : Rows → ℕ → Person → Bool
misses_user rows rule u = lacks_user (λ n. is_in_row rows n rule) u

-- the rule is in no row of a command
abbrev pub misses_command : Rows → ℕ → List ℕ → Bool
misses_command rows rule command = lacks_command (λ n. is_in_row rows n rule) command

-- the rows by user, those by command, and the keys of the lists
abbrev pub Index : Type 0
Index = Rows × (Rows × List EntryKeys)

-- each of the first n entries that is in no row of the user, or in none of the command, decides nothing
abbrev pub Covers : Policy → ℕ → Rows → Rows → Type 0
Covers p n users commands =
    (q : Question) (rule : ℕ) (e : Entry) → rule < n → slice_get p.entries rule ≡ Some e →
    (misses_user users rule q.user || misses_command commands rule q.command) ≡ true → entry_found p q e ≡ None

-- the rows are an index of the policy's rules, and the keys are those of its lists
pub record Indexes (p : Policy) (index : Index) : Type 0 where
  pub users : 0 < length index.0
  pub commands : 0 < length index.1.0
  pub covers : Covers p (length p.entries) index.0 index.1.0
  pub keys : AreKeys p index.1.1
