use Rattle.std.proofs.Common.{◌≡◌, ◌∙◌, [], ap, subst, sym}
use Rattle.std.specs.Prelude.{OnOk}
use Rattle.sudo_match.specs.declared.request.Request.{Request}
use Rattle.sudo_parser.proofs.Steps.{passed-on}
use Rattle.review_grants.specs.Body.Pending.{Puts, StopsIn}
use Rattle.review_grants.specs.Body.Who.{IsRequestOf}
use Rattle.review_grants.specs.WhoRows.{sought_by, hosts_lines, request_at, user_lines}
use Rattle.review_grants.specs.declared.writing.Stopped.TheVariants as stops
use Rattle.review_grants.proofs.WhoLemmas.{request-there}
use Rattle.review_grants.proofs.WritingLemmas.{if_err, stops-without-memory}
use Rattle.review_grants.proofs.who.put_user.Goals as goal

pub returns-in_err-row-clause-stopped : goal.returns-in_err-row-clause-stopped
returns-in_err-row-clause-stopped g c =
    let j = c.args.judged in
    let own = user_lines j.checked.now j.directory.now (sought_by j.sought) c.args.person.now in
    let old = g.O.Sink.taken c.args.out.now in
    passed-on c.from_residual.result stops.Memory (StopsIn old old c.args.pending.now own) c.from_residual.ensures.1
    (stops-without-memory old c.args.pending.now own)

pub put_hosts-ended-requires : goal.put_hosts-ended-requires
put_hosts-ended-requires g c =
    let a = sought_by c.args.judged.sought in
    let r : Request = c.in_ok-row.row.request in
    let user = c.args.person.now.name in
    let is : r ≡ request_at a user [] =
    c.in_ok-row.ensures ∙ ap (λ name. request_at a name []) c.as_slice.ensures in
    subst (λ name. IsRequestOf a name r) (sym (ap (λ (q : Request). q.user) is)) (request-there a user [] r is)

pub returns-clause-written : goal.returns-clause-written
returns-clause-written g c =
    let j = c.args.judged in
    let old = g.O.Sink.taken c.args.out.now in
    let new = g.O.Sink.taken c.put_hosts-ended.new.out in
    let same = ap (λ (q : Request). q.user) c.in_ok-row.ensures ∙ c.as_slice.ensures in
    subst (λ user. OnOk c.put_hosts-ended.result (Puts old new c.args.pending.now c.put_hosts-ended.new.pending
    (hosts_lines j.checked.now j.directory.now (sought_by j.sought) user))) same c.put_hosts-ended.ensures.written

pub returns-clause-stopped : goal.returns-clause-stopped
returns-clause-stopped g c =
    let j = c.args.judged in
    let lines_of = hosts_lines j.checked.now j.directory.now (sought_by j.sought) in
    let old = g.O.Sink.taken c.args.out.now in
    let new = g.O.Sink.taken c.put_hosts-ended.new.out in
    let same = ap (λ (q : Request). q.user) c.in_ok-row.ensures ∙ c.as_slice.ensures in
    if_err c.put_hosts-ended.result (StopsIn old new c.args.pending.now (lines_of c.in_ok-row.row.request.user))
    (StopsIn old new c.args.pending.now (lines_of c.args.person.now.name))
    (λ stop stopped. subst (λ user. StopsIn old new c.args.pending.now (lines_of user) stop) same stopped)
    c.put_hosts-ended.ensures.stopped
