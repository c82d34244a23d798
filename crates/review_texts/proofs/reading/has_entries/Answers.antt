use Rattle.std.proofs.Common.{List, refl, subst, sym}
use Rattle.sudo_text.specs.declared.line.Line.{Line}
use Rattle.sudo_parser.specs.Parsed.{AreEntries}
use Rattle.review_texts.proofs.reading.has_entries.Goals as goal

pub returns-in-Ok : goal.returns-in-Ok
returns-in-Ok c =
    let entries = c.in-Ok.field-0.items in
    let are = subst (λ (lines : List Line). AreEntries lines entries) c.from_ref.ensures.value c.in-Ok.ensures.entries in
    (λ yes. (entries, are), λ have. refl)

pub returns : goal.returns
returns c = (
  λ yes. absurd cc,
  λ have. absurd (c.in_ok-unless_memory.ensures (c.in-Err.ensures.only have.0
      (subst (λ (lines : List Line). AreEntries lines have.0) (sym c.from_ref.ensures.value) have.1))),
)
