use Rattle.std.proofs.Common.{List, subst}
use Rattle.sudo_text.specs.declared.line.Line.{Line}
use Rattle.sudo_parser.specs.Parsed.{AreEntries, IsFirstFault}
use Rattle.review_texts.proofs.LoneLines.{read_unrefused_as, form_found_as}
use Rattle.review_texts.proofs.reading.refused_as.Goals as goal

pub returns-in-Ok : goal.returns-in-Ok
returns-in-Ok c = λ form refusal.
    read_unrefused_as c.args.line.now c.in-Ok.field-0.items form
    (subst (λ (lines : List Line). AreEntries lines c.in-Ok.field-0.items) c.from_ref.ensures.value c.in-Ok.ensures.entries) refusal

pub returns : goal.returns
returns c =
    form_found_as c.args.line.now c.in-Err.fault c.form_in.result
    (subst (λ (lines : List Line). IsFirstFault lines c.in-Err.fault) c.from_ref.ensures.value
    (c.in-Err.ensures.fault c.in_ok-unless_memory.ensures))
    c.form_in.ensures
