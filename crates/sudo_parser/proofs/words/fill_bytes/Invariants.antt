use Rattle.std.proofs.Common.{◌≡◌, length, take}
use Rattle.sudo_grammar.specs.Words.{bytes_of}
use Rattle.sudo_parser.proofs.words.fill_bytes.Given as goal

-- the bytes before the index are those of the characters
abbrev pub invariant-loop-index : goal.invariant-loop-index
invariant-loop-index l = record {
  count : length l.bytes ≡ length l.chars;
  written : take l.index l.bytes ≡ bytes_of (take l.index l.chars);
}
