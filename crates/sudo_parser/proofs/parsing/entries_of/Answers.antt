use Rattle.std.proofs.Common.{◌∙◌, ap, sym, subst}
use Rattle.sudo_parser.specs.Parsed.{room_after}
use Rattle.sudo_parser.proofs.ParsedLemmas.{Along, along_start, along_more, along_fault, along_whole, shorter}
use Rattle.sudo_parser.proofs.parsing.entries_of.Goals as goal

pub loop-line-init : goal.loop-line-init
loop-line-init c = record {
  short = c.requires;
  room = c.whole-room.ensures ∙ ap room_after (sym c.new-entries.ensures);
  along = subst (λ es. Along c.args.lines.now es c.args.lines.now) (sym c.new-entries.ensures) (along_start c.args.lines.now);
}

pub returns-in-Err-clause-fault : goal.returns-in-Err-clause-fault
returns-in-Err-clause-fault c = λ no_memory.
    along_fault c.args.lines.now c.loop-line.entries c.in-Some.line.now c.loop-line.left.now c.in-Some.rest.now c.in-Err.fault
    c.loop-line.invariant.along c.in-Some.ensures.cases.0 (c.in-Err.ensures.fault no_memory)

pub loop-line-preserved : goal.loop-line-preserved
loop-line-preserved c = record {
  short = shorter c.loop-line.left.now c.in-Some.rest.now c.in-Some.line.now c.loop-line.invariant.short c.in-Some.ensures.cases.0;
  room = c.in-Ok.ensures.room;
  along = along_more c.args.lines.now c.loop-line.entries c.add_line.new.entries c.in-Some.line.now c.loop-line.left.now c.in-Some.rest.now
      c.loop-line.invariant.along c.in-Some.ensures.cases.0 c.in-Ok.ensures.added c.in-Ok.ensures.only;
}

pub returns-clause-entries : goal.returns-clause-entries
returns-clause-entries c = along_whole c.args.lines.now c.loop-line.entries c.loop-line.left.now
    c.loop-line.invariant.along c.in_default.ensures.cases
