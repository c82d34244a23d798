use Rattle.std.proofs.Common.{◌≡◌, ◌++◌, drop}
use Rattle.std.specs.List.{flat_map}
use Rattle.sudo_parser.specs.Texts.{byte_text}
use Rattle.sudo_parser.proofs.writing.push_name.Given as goal

abbrev pub invariant-loop-b : goal.invariant-loop-b
invariant-loop-b l = l.out.items ++ flat_map byte_text (drop l.b-index l.name) ≡ l.fn.out.items ++ flat_map byte_text l.name
