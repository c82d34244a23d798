use Rattle.std.proofs.Common.{◌≡◌, ℕ, ◌<◌, Bool, true, false, length}
use Rattle.sudo_verdict.specs.Numbers.{number_from, beginning_seed, whole_number, lacks_beginnings, lacks_command}
use Rattle.sudo_verdict.specs.Body.Blocks.{IsNoted}
use Rattle.sudo_verdict.proofs.index.request_numbers.RequestNumbers.add_command.Given as goal

-- a command lacks all but the numbers that are noted and those of longer beginnings
abbrev pub invariant-loop-byte : goal.invariant-loop-byte
invariant-loop-byte l = record {
  below : l.number < 16384;
  whole : number_from beginning_seed l.command ≡ number_from l.number l.left;
  here : IsNoted l.rows.rows.items l.self l.number;
  users : l.self.users ≡ l.fn.self.users;
  none : (has : ℕ → Bool) → ((n : ℕ) → IsNoted l.rows.rows.items l.self n → has n ≡ false) → has (whole_number l.command) ≡ false
      → lacks_beginnings has l.number l.left ≡ true → lacks_command has l.command ≡ true;
}

abbrev pub decreases-loop-byte : goal.decreases-loop-byte
decreases-loop-byte l = length l.left
