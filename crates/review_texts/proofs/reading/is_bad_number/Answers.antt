use Rattle.std.proofs.Common.{List, subst}
use Rattle.sudo_text.specs.declared.line.Line.{Line}
use Rattle.sudo_parser.specs.Parsed.{AreEntries, IsFirstFault}
use Rattle.review_texts.proofs.LoneLines.{number_found, read_no_number}
use Rattle.review_texts.proofs.reading.is_bad_number.Goals as goal

pub returns-in-Ok : goal.returns-in-Ok
returns-in-Ok c =
    let entries = c.in-Ok.field-0.items in
    let are = subst (λ (lines : List Line). AreEntries lines entries) c.from_ref.ensures.value c.in-Ok.ensures.entries in
    (λ yes. absurd cc, λ refused. absurd (read_no_number c.args.line.now entries c.args.at are refused))

pub returns : goal.returns
returns c =
    number_found c.args.line.now c.in-Err.fault c.args.at c.is_number_at.result
    (subst (λ (lines : List Line). IsFirstFault lines c.in-Err.fault) c.from_ref.ensures.value
    (c.in-Err.ensures.fault c.in_ok-unless_memory.ensures))
    c.is_number_at.ensures
