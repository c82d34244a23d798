use Rattle.std.proofs.Common.{List, arith, flat_map, subst}
use Rattle.sudo_parser.proofs.Steps.{passed-on}
use Rattle.sudo_match.specs.declared.people.Person.{Person}
use Rattle.review_grants.specs.Body.Pending.{Puts, StopsIn}
use Rattle.review_grants.specs.WhoRows.{sought_by, user_lines}
use Rattle.review_grants.proofs.WhoLemmas.{puts-all, puts-next, stops-at}
use Rattle.review_grants.proofs.who.put_users.Goals as goal

pub returns-in_err-put_user-clause-stopped : goal.returns-in_err-put_user-clause-stopped
returns-in_err-put_user-clause-stopped g c =
    let j = c.args.judged in
    let f = user_lines j.checked.now j.directory.now (sought_by j.sought) in
    let us = c.people-person-items.result.now in
    let old = g.O.Sink.taken c.args.out.now in
    let now = g.O.Sink.taken c.loop-person.out in
    let new = g.O.Sink.taken c.put_user.new.out in
    let stop = c.in_err-put_user.field-0.0 in
    passed-on c.from_residual.result stop
    (StopsIn old new c.args.pending.now (flat_map f j.directory.now.people)) c.from_residual.ensures.1
    (subst (λ (xs : List Person). StopsIn old new c.args.pending.now (flat_map f xs) stop) c.people-person-items.ensures
    (stops-at f us c.loop-person.person-index c.person-item.result old now new c.args.pending.now
    c.loop-person.pending stop c.loop-person-test.true c.person-item.is c.loop-person.invariant.0
    c.in_err-put_user.ensures.stopped))

pub loop-person-preserved : goal.loop-person-preserved
loop-person-preserved g c =
    let j = c.args.judged in
    let f = user_lines j.checked.now j.directory.now (sought_by j.sought) in
    let us = c.people-person-items.result.now in
    let old = g.O.Sink.taken c.args.out.now in
    let now = g.O.Sink.taken c.loop-person.out in
    let new = g.O.Sink.taken c.put_user.new.out in (
      puts-next f us c.loop-person.person-index c.person-item.result old now new c.args.pending.now c.loop-person.pending
          c.put_user.new.pending c.loop-person-test.true c.person-item.is c.loop-person.invariant.0
          c.in_ok-put_user.ensures.written,
      grind (arith, c.in_ok-put_user.ensures.failures, c.loop-person.invariant.1),
    )

pub returns-clause-written : goal.returns-clause-written
returns-clause-written g c =
    let j = c.args.judged in
    let f = user_lines j.checked.now j.directory.now (sought_by j.sought) in
    let us = c.people-person-items.result.now in
    let old = g.O.Sink.taken c.args.out.now in
    let new = g.O.Sink.taken c.loop-person.out in
    subst (λ (xs : List Person). Puts old new c.args.pending.now c.loop-person.pending (flat_map f xs))
    c.people-person-items.ensures
    (puts-all f us c.loop-person.person-index old new c.args.pending.now c.loop-person.pending c.loop-person-test.false
    c.loop-person.invariant.0)
