use Rattle.std.proofs.Common.{sym, ◌∙◌, subst, Some}
use Rattle.sudo_parser.specs.Body.Limits.{room_of}
use Rattle.sudo_parser.specs.Parsed.{IsEntryOf, IsLineFault}
use Rattle.sudo_parser.proofs.ParsedLemmas.{room_kept, said_is, nothing_said}
use Rattle.sudo_parser.proofs.parsing.add_line.Goals as goal

pub returns-in-Ok-None-clause-only : goal.returns-in-Ok-None-clause-only
returns-in-Ok-None-clause-only c = λ body says.
    nothing_said c.args.line.now c.args.entries.now body (sym c.in-Ok-None.field-0-is
    ∙ c.in-Ok-None.ensures.only body (subst (λ r. IsEntryOf r c.args.line.now body) (sym c.requires.room) says))

pub returns-in_ok-push-in-Ok-Some-clause-room : goal.returns-in_ok-push-in-Ok-Some-clause-room
returns-in_ok-push-in-Ok-Some-clause-room c =
    room_kept (room_of c.args.room.now) (room_of c.after.result) c.args.entries.now c.push.new.self _ c.requires.room
    c.after.ensures c.in_ok-push-in-Ok-Some.ensures.ok

pub returns-in_ok-push-in-Ok-Some-clause-added : goal.returns-in_ok-push-in-Ok-Some-clause-added
returns-in_ok-push-in-Ok-Some-clause-added c = (
  Some c.in-Ok-Some.body,
  subst (λ r. IsEntryOf r c.args.line.now (Some c.in-Ok-Some.body)) c.requires.room
      (subst (λ o. IsEntryOf (room_of c.args.room.now) c.args.line.now o) c.in-Ok-Some.field-0-is
      c.in-Ok-Some.ensures.says),
  c.in_ok-push-in-Ok-Some.ensures.ok,
)

pub returns-in_ok-push-in-Ok-Some-clause-only : goal.returns-in_ok-push-in-Ok-Some-clause-only
returns-in_ok-push-in-Ok-Some-clause-only c = λ body says.
    said_is c.args.line.now c.args.entries.now c.push.new.self (Some c.in-Ok-Some.body) body c.in_ok-push-in-Ok-Some.ensures.ok
    (sym c.in-Ok-Some.field-0-is ∙ c.in-Ok-Some.ensures.only body (subst (λ r. IsEntryOf r c.args.line.now body)
    (sym c.requires.room) says))

pub returns-in-Err-clause-only : goal.returns-in-Err-clause-only
returns-in-Err-clause-only c =
    λ body says. c.in-Err.ensures.only body (subst (λ r. IsEntryOf r c.args.line.now body) (sym c.requires.room) says)

pub returns-in-Err-clause-fault : goal.returns-in-Err-clause-fault
returns-in-Err-clause-fault c = λ no_memory. subst (λ r. IsLineFault r c.args.line.now c.in-Err.fault) c.requires.room
    (c.in-Err.ensures.fault no_memory)
