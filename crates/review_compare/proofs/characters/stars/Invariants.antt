use Rattle.std.proofs.Common.{◌≡◌, ◌≤◌, length, take}
use Rattle.std.specs.Prelude.{filter}
use Rattle.sudo_match.specs.Pattern.{is_plain}
use Rattle.review_compare.proofs.characters.stars.Given as goal

abbrev pub invariant-loop-ch : goal.invariant-loop-ch
invariant-loop-ch l = record {
  within : l.count ≤ l.ch-index;
  count : l.count ≡ length (filter (is_plain 42) (take l.ch-index l.chars));
}
