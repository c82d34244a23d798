use Rattle.std.proofs.Common.{◌≡◌, length, map, take}
use Rattle.sudo_text.specs.Pieces.{plain}
use Rattle.sudo_text.proofs.run.fill_plain.Given as goal

-- the characters before the index are those of the bytes
abbrev pub invariant-loop-index : goal.invariant-loop-index
invariant-loop-index l = record {
  count : length l.chars ≡ length l.bytes;
  written : take l.index l.chars ≡ map plain (take l.index l.bytes);
}
