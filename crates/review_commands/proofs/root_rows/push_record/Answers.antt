use Rattle.std.proofs.Common.{◌++◌, ◌∷◌, [], ◌∙◌, List, ℕ, ap}
use Rattle.csv.specs.Writing.{default_writer, fields_text}
use Rattle.sudo_base.proofs.Options.{on_ok}
use Rattle.review_commands.proofs.RootSteps.{nine}
use Rattle.review_commands.proofs.root_rows.push_record.Goals as goal

pub returns : goal.returns
returns c =
    let w = c.args.way.now in
    on_ok c.push_end.result (λ h. nine c.args.text.now.items c.push_field.new.text.items c.push_three.new.text.items
    c.push_three-2.new.text.items c.push_end.new.text.items c.args.user.now c.args.host.now c.args.target.now w.level.now
    w.password.now w.place.items w.tags.items w.via.items w.depends.now c.in_ok-push_field.ensures c.in_ok-push_three.ensures
    (c.in_ok-push_three-2.ensures
    ∙ ap (λ (t : List ℕ). c.push_three.new.text.items ++ fields_text default_writer (w.password.now ∷ t ∷ c.as_slice-2.result.now ∷ []))
    c.as_slice.ensures.value
    ∙ ap (λ (t : List ℕ). c.push_three.new.text.items ++ fields_text default_writer (w.password.now ∷ w.place.items ∷ t ∷ []))
    c.as_slice-2.ensures.value)
    (h ∙ ap (λ (t : List ℕ). c.push_three-2.new.text.items ++ (fields_text default_writer (t ∷ w.depends.now ∷ []) ++ 10 ∷ []))
    c.as_slice-3.ensures.value)) c.push_end.ensures
