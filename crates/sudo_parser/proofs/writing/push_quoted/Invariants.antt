use Rattle.std.proofs.Common.{◌≡◌, ◌++◌, ◌∷◌, [], drop}
use Rattle.std.specs.List.{flat_map}
use Rattle.sudo_parser.specs.Texts.{quoted_ch_text}
use Rattle.sudo_parser.proofs.writing.push_quoted.Given as goal

abbrev pub invariant-loop-c : goal.invariant-loop-c
invariant-loop-c l = l.out.items ++ flat_map quoted_ch_text (drop l.c-index l.chars) ≡ (l.fn.out.items ++ 34 ∷ [])
    ++ flat_map quoted_ch_text l.chars
