use Rattle.std.proofs.Common.{ap, sym, rules}
use Rattle.sudo_parser.specs.Body.Limits.{room_of}
use Rattle.sudo_parser.specs.Parsed.{over_limit, over_limit_from}
use Rattle.sudo_parser.proofs.ParsedLemmas.{limit_next}
use Rattle.sudo_parser.proofs.parsing.first_over_limit.Goals as goal

pub loop-entry-init : goal.loop-entry-init
loop-entry-init c = record { left = ap (λ r. over_limit_from r c.args.entries.now) (sym c.whole-room.ensures) }

pub loop-entry-preserved : goal.loop-entry-preserved
loop-entry-preserved c = record {
  left = limit_next (room_of c.loop-entry.room) (room_of c.after-room.result) c.in-Some.entry.now
      c.loop-entry.left.now c.in-Some.rest.now (over_limit c.args.entries.now)
      c.loop-entry.invariant.left c.in-Some.ensures.cases.0 (search rules) c.after-room.ensures;
}
