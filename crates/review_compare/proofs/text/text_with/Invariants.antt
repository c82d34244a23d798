use Rattle.std.proofs.Common.{◌≡◌, ◌++◌, ◌∷◌, flat_map, take}
use Rattle.review_compare.specs.Table.{table_header}
use Rattle.review_compare.specs.Body.Lines.{lines_of, source_by}
use Rattle.review_compare.proofs.text.text_with.Given as goal

abbrev pub invariant-loop-row : goal.invariant-loop-row
invariant-loop-row l = l.text.items
    ≡ table_header ++ 10 ∷ flat_map (lines_of (source_by l.both.old) (source_by l.both.new) l.names) (take l.row-index l.rows)
