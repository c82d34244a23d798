use Rattle.std.proofs.Common.{◌++◌, ◌∷◌, [], ◌∙◌, List, ℕ, ap}
use Rattle.csv.specs.Writing.{default_writer, fields_text}
use Rattle.review_grants.proofs.GrantSteps.{row-of-parts}
use Rattle.review_grants.proofs.rows.push_row.Goals as goal

pub returns : goal.returns
returns c = row-of-parts c.args.text.now.items _ _ _ _ c.args.head.now _ _ c.args.end.now c.in_ok-extend_from_slice.ensures.items
    (c.in_ok-push_one.ensures ∙ ap (λ (s : List ℕ). c.extend_from_slice.new.self.items ++ fields_text default_writer (s ∷ []))
    c.sign.ensures)
    c.in_ok-push_atom.ensures c.in_ok-extend_from_slice-2.ensures.items
