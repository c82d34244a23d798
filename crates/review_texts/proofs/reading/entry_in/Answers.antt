use Rattle.std.proofs.Common.{◌≡◌, List, [], ◌∷◌, subst, sym, arith}
use Rattle.std.proofs.lemmas.Grind.{common_steps}
use Rattle.sudo_grammar.specs.declared.policy.Entry.{Entry}
use Rattle.sudo_text.specs.declared.line.Line.{Line}
use Rattle.sudo_parser.specs.Parsed.{AreEntries}
use Rattle.review_texts.proofs.LoneLines.{none_read, entries_of}
use Rattle.review_texts.proofs.reading.entry_in.Goals as goal

pub returns-in-Ok : goal.returns-in-Ok
returns-in-Ok c = λ entry is.
    let are : AreEntries (c.args.line.now ∷ []) c.in-Ok.entries.items =
    subst (λ (lines : List Line). AreEntries lines c.in-Ok.entries.items) c.from_ref.ensures.value c.in-Ok.ensures.entries in
    let none : c.in-Ok.entries.items ≡ [] = grind (arith, common_steps, c.in-None.ensures) in
    none_read c.args.line.now c.in-Ok.entries.items entry are none is

pub returns : goal.returns
returns c = λ entry is.
    let entries : List Entry = record { place = c.args.line.now.first; body = entry } ∷ [] in
    let are : AreEntries (c.args.line.now ∷ []) entries = entries_of c.args.line.now entry is in
    c.in_ok-unless_memory-in-Err.ensures (c.in-Err.ensures.only entries
    (subst (λ (lines : List Line). AreEntries lines entries) (sym c.from_ref.ensures.value) are))
