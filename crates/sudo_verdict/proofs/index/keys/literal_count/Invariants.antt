use Rattle.std.proofs.Common.{◌≡◌, false, take}
use Rattle.std.specs.List.{list_any}
use Rattle.sudo_match.specs.Beginnings.{is_special}
use Rattle.sudo_verdict.proofs.index.keys.literal_count.Given as goal

-- no character before the index is special
abbrev pub invariant-loop-index : goal.invariant-loop-index
invariant-loop-index l = list_any is_special (take l.index l.chars) ≡ false
