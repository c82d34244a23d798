use Rattle.std.proofs.Common.{◌≡◌, ◌-◌, ◌≤◌, true, length, drop}
use Rattle.std.specs.Prelude.{option_map}
use Rattle.std.specs.List.{list_any}
use Rattle.sudo_match.specs.Pattern.{item_holds, items_after}
use Rattle.sudo_match.specs.Reading.{seen}
use Rattle.sudo_match.specs.Body.Closing.{Knows}
use Rattle.sudo_match.proofs.ItemLemmas.{found}
use Rattle.sudo_match.proofs.patterns.Chars.items_hold.Given as goal

abbrev pub invariant-loop-known : goal.invariant-loop-known
invariant-loop-known l = record {
  from_start : l.start ≤ l.at;
  knows : Knows (seen l.self) l.known;
  within : l.at ≤ length (seen l.self);
  same : option_map (λ r. (list_any (item_holds l.byte) r.0, r.1)) (items_after 0 true (drop l.start (seen l.self))) ≡
      found l.byte l.holds (l.at - l.start) (items_after 0 l.is_first (drop l.at (seen l.self)));
}

abbrev pub decreases-loop-known : goal.decreases-loop-known
decreases-loop-known l = length (seen l.self) - l.at
