use Rattle.std.proofs.Common.{◌≢◌, ◌≤◌, length, sym, ◌∙◌, ap, subst, arith}
use Rattle.std.specs.Prelude.{All}
use Rattle.std.specs.Vec.Iter.{into_iter_items}
use Rattle.sudo_text.specs.declared.line.Line.{Line}
use Rattle.sudo_grammar.specs.declared.fault.ParseFault.TheVariants.{Memory}
use Rattle.sudo_parser.specs.Parsed.{room_after, AreEntries, IsFirstFault}
use Rattle.sudo_parser.proofs.Steps.{passed-on}
use Rattle.sudo_parser.proofs.ParsedLemmas.{Along, along_start, along_more, along_fault, along_whole, shorter}
use Rattle.sudo_parser.proofs.parsing.parse_lines.Goals as goal

pub loop-line-init : goal.loop-line-init
loop-line-init c =
    let gives = c.into_iter-line-iterator.ensures.into_iter_gives.0 in
    record {
      can_next = _;
      is_finite = _;
      short = subst (All (λ (line : Line). length line.text ≤ 16777216)) (sym gives) c.requires;
      room = c.whole-room.ensures ∙ ap room_after (sym c.new-entries.ensures);
      along = subst (Along c.args.lines.items c.new-entries.result) (sym gives)
          (subst (λ es. Along c.args.lines.items es c.args.lines.items) (sym c.new-entries.ensures) (along_start c.args.lines.items));
    }

pub returns-in_err-add_line-clause-fault : goal.returns-in_err-add_line-clause-fault
returns-in_err-add_line-clause-fault c =
    passed-on c.from_residual.result c.in_err-add_line.field-0.0 (λ fault. fault ≢ Memory
    → IsFirstFault c.args.lines.items fault) c.from_residual.ensures.1
    (λ no_memory. along_fault c.args.lines.items c.loop-line.entries c.in-Some.line
    (into_iter_items c.loop-line.line-iterator) (into_iter_items c.next.new.self) c.in_err-add_line.field-0.0
    c.loop-line.invariant.along c.in-Some.ensures.steps.0 (c.in_err-add_line.ensures.fault no_memory))

pub loop-line-preserved : goal.loop-line-preserved
loop-line-preserved c =
    let left = into_iter_items c.loop-line.line-iterator in
    let rest = into_iter_items c.next.new.self in
    record {
      can_next = _;
      is_finite = _;
      short = shorter left rest c.in-Some.line c.loop-line.invariant.short c.in-Some.ensures.steps.0;
      room = c.in_ok-add_line.ensures.room;
      along = along_more c.args.lines.items c.loop-line.entries c.add_line.new.entries c.in-Some.line left rest
          c.loop-line.invariant.along c.in-Some.ensures.steps.0 c.in_ok-add_line.ensures.added c.in_ok-add_line.ensures.only;
    }

pub returns-clause-entries : goal.returns-clause-entries
returns-clause-entries c =
    subst (AreEntries c.args.lines.items) (sym c.into_vec.ensures)
    (along_whole c.args.lines.items c.loop-line.entries (into_iter_items c.loop-line.line-iterator) c.loop-line.invariant.along
    (let long = c.loop-line.line-iterator.rest.ok.0 in let none = c.in-None.ensures.steps.0 in omega (arith, long, none)))
