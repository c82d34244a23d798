use Rattle.std.proofs.Common.{◌∙◌, ◌++◌, ℕ, List, ap, decimal}
use Rattle.csv.specs.Writing.{default_writer, field_text}
use Rattle.audit_files.specs.Places.{place_text}
use Rattle.review_grants.specs.Depends.{depends_at, depends_text}
use Rattle.review_commands.proofs.RowSteps.{line-five}
use Rattle.review_commands.proofs.subject_rows.push_rule.Goals as goal

pub returns : goal.returns
returns c =
    let p = c.args.policy.now in
    let r = c.args.row.now in
    line-five c.args.text.now.items _ _ _ _ (place_text p.files r.place) c.as_bytes.result.now c.as_bytes-2.result.now
    c.as_bytes-3.result.now c.depends.result.now (decimal r.commands) (decimal r.allowed) (decimal r.denied) (depends_at p r.place)
    (c.in_ok-push_first.ensures
    ∙ ap (λ (files : List (List ℕ)). c.args.text.now.items ++ field_text default_writer (place_text files r.place)) c.as_slice.ensures)
    (c.as_bytes.ensures.value ∙ c.format.ensures.text) (c.as_bytes-2.ensures.value ∙ c.format-2.ensures.text)
    (c.as_bytes-3.ensures.value ∙ c.format-3.ensures.text) (c.depends.ensures ∙ ap depends_text (c.requires r.place))
    c.in_ok-push_three.ensures c.in_ok-push_next_field.ensures c.in_ok-push.ensures.items
