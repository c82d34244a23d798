use Rattle.std.proofs.Common.{◌∙◌, ◌++◌, ◌∷◌, Global, List, Vec, ap, ℕ}
use Rattle.std.proofs.lemmas.Result.{IfOk-weaker}
use Rattle.sudo_grammar.specs.declared.policy.Policy.{Policy}
use Rattle.review_grants.specs.Depends.{marks_in}
use Rattle.review_compare.specs.Table.{Source, table_header}
use Rattle.review_compare.proofs.TextLemmas.{sources-same}
use Rattle.review_compare.proofs.text.differences_text.Goals as goal

pub returns : goal.returns
returns c =
    let old : Source = record { files = c.as_slice.result.now; marks = marks_in c.in_ok-old_noted.old_noted } in
    let new : Source = record { files = c.as_slice-2.result.now; marks = marks_in c.in_ok-new_noted.new_noted } in
    IfOk-weaker c.text_with.result _ _
    (λ (text : Vec ℕ Global) made. made ∙ ap (λ (lines : List ℕ). table_header ++ 10 ∷ lines)
    (sources-same old new c.in_ok-names.names c.args.old.now c.args.new.now c.args.directory.now c.args.groups.now c.in_ok-names.ensures
    (c.as_slice.ensures ∙ ap (λ (p : Policy). p.files) c.policy.ensures.value)
    (c.as_slice-2.ensures ∙ ap (λ (p : Policy). p.files) c.policy-2.ensures.value)
    c.in_ok-old_noted.ensures.marked c.in_ok-new_noted.ensures.marked c.args.rows.now))
    c.text_with.ensures
