use Rattle.std.proofs.Common.{◌≡◌, ◌++◌, flat_map, take}
use Rattle.review_compare.specs.Table.{witness_line}
use Rattle.review_compare.specs.Body.Lines.{source_by}
use Rattle.review_compare.proofs.text.push_witnesses.Given as goal

abbrev pub invariant-loop-witness : goal.invariant-loop-witness
invariant-loop-witness l = l.text.items
    ≡ l.initial.text.items
    ++ flat_map (witness_line (source_by l.both.old) (source_by l.both.new) l.head) (take l.witness-index l.witnesses)
