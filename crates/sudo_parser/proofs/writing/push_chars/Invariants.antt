use Rattle.std.proofs.Common.{◌≡◌, ◌++◌, drop}
use Rattle.std.specs.List.{flat_map}
use Rattle.sudo_parser.specs.Texts.{ch_text}
use Rattle.sudo_parser.proofs.writing.push_chars.Given as goal

abbrev pub invariant-loop-c : goal.invariant-loop-c
invariant-loop-c l = l.out.items ++ flat_map ch_text (drop l.c-index l.chars) ≡ l.fn.out.items ++ flat_map ch_text l.chars
