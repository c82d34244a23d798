use Rattle.std.proofs.Common.{List, ap, arith, flat_map, subst, sym}
use Rattle.sudo_parser.proofs.Steps.{passed-on}
use Rattle.sudo_match.specs.declared.people.Machine.{Machine}
use Rattle.sudo_match.specs.declared.request.Request.{Request}
use Rattle.review_grants.specs.Body.Pending.{Puts, StopsIn}
use Rattle.review_grants.specs.Body.Who.{IsRequestOf}
use Rattle.review_grants.specs.WhoRows.{sought_by, host_line}
use Rattle.review_grants.proofs.WhoLemmas.{puts-all, puts-next, stops-at}
use Rattle.review_grants.proofs.who.put_hosts.Goals as goal

pub put_host-requires : goal.put_host-requires
put_host-requires g c =
    let a = sought_by c.args.judged.sought in
    let is = c.loop-machine.invariant.0 in
    subst (λ user. IsRequestOf a user c.loop-machine.row.request) (sym (ap (λ (r : Request). r.user) is)) is

pub returns-in_err-put_host-clause-stopped : goal.returns-in_err-put_host-clause-stopped
returns-in_err-put_host-clause-stopped g c =
    let j = c.args.judged in
    let line_of = host_line j.checked.now j.directory.now (sought_by j.sought) in
    let user = c.args.row.now.request.user in
    let ms = c.machines-machine-items.result.now in
    let old = g.O.Sink.taken c.args.out.now in
    let now = g.O.Sink.taken c.loop-machine.out in
    let new = g.O.Sink.taken c.put_host.new.out in
    let stop = c.in_err-put_host.field-0.0 in
    let same = ap (λ (r : Request). r.user) c.loop-machine.invariant.0 in
    let own : StopsIn now new c.loop-machine.pending (line_of user c.machine-item.result) stop =
    subst (λ name. StopsIn now new c.loop-machine.pending (line_of name c.machine-item.result) stop) same
    c.in_err-put_host.ensures.stopped in
    passed-on c.from_residual.result stop
    (StopsIn old new c.args.pending.now (flat_map (line_of user) j.directory.now.machines)) c.from_residual.ensures.1
    (subst (λ (xs : List Machine). StopsIn old new c.args.pending.now (flat_map (line_of user) xs) stop)
    c.machines-machine-items.ensures
    (stops-at (line_of user) ms c.loop-machine.machine-index c.machine-item.result old now new c.args.pending.now
    c.loop-machine.pending stop c.loop-machine-test.true c.machine-item.is c.loop-machine.invariant.1 own))

pub loop-machine-preserved : goal.loop-machine-preserved
loop-machine-preserved g c =
    let j = c.args.judged in
    let a = sought_by j.sought in
    let line_of = host_line j.checked.now j.directory.now a in
    let user = c.args.row.now.request.user in
    let ms = c.machines-machine-items.result.now in
    let old = g.O.Sink.taken c.args.out.now in
    let now = g.O.Sink.taken c.loop-machine.out in
    let new = g.O.Sink.taken c.put_host.new.out in
    let same = ap (λ (r : Request). r.user) c.loop-machine.invariant.0 in
    let own : Puts now new c.loop-machine.pending c.put_host.new.pending (line_of user c.machine-item.result) =
    subst (λ name. Puts now new c.loop-machine.pending c.put_host.new.pending (line_of name c.machine-item.result)) same
    c.in_ok-put_host.ensures.written in (
      subst (λ name. IsRequestOf a name c.put_host.new.row.request) same c.in_ok-put_host.ensures.request,
      puts-next (line_of user) ms c.loop-machine.machine-index c.machine-item.result old now new c.args.pending.now
          c.loop-machine.pending c.put_host.new.pending c.loop-machine-test.true c.machine-item.is c.loop-machine.invariant.1
          own,
      grind (arith, c.in_ok-put_host.ensures.failures, c.loop-machine.invariant.2),
    )

pub returns-clause-written : goal.returns-clause-written
returns-clause-written g c =
    let j = c.args.judged in
    let line_of = host_line j.checked.now j.directory.now (sought_by j.sought) in
    let user = c.args.row.now.request.user in
    let ms = c.machines-machine-items.result.now in
    let old = g.O.Sink.taken c.args.out.now in
    let new = g.O.Sink.taken c.loop-machine.out in
    subst (λ (xs : List Machine). Puts old new c.args.pending.now c.loop-machine.pending (flat_map (line_of user) xs))
    c.machines-machine-items.ensures
    (puts-all (line_of user) ms c.loop-machine.machine-index old new c.args.pending.now c.loop-machine.pending
    c.loop-machine-test.false c.loop-machine.invariant.1)
