use Rattle.std.proofs.Common.{◌∙◌, ◌++◌, ℕ, List, [], ap, refl}
use Rattle.sudo_match.specs.declared.request.Request.{Request}
use Rattle.sudo_parser.proofs.Steps.{passed-on}
use Rattle.review_grants.specs.Body.Pending.{StopsIn}
use Rattle.review_grants.specs.Body.Who.{with_host}
use Rattle.review_grants.specs.WhoRows.{sought_by, host_line, request_line}
use Rattle.review_grants.specs.declared.writing.Pending.{Pending}
use Rattle.review_grants.specs.declared.writing.Stopped.TheVariants as stops
use Rattle.review_grants.proofs.WhoLemmas.{request-moved}
use Rattle.review_grants.proofs.WritingLemmas.{if_err, stops-behind, stops-without-memory}
use Rattle.review_grants.proofs.who.put_host.Goals as goal

pub returns-in_err-set_host-clause-stopped : goal.returns-in_err-set_host-clause-stopped
returns-in_err-set_host-clause-stopped g c =
    let j = c.args.judged in
    let own = host_line j.checked.now j.directory.now (sought_by j.sought) c.args.row.now.request.user c.args.machine.now in
    let old = g.O.Sink.taken c.args.out.now in
    passed-on c.from_residual.result stops.Memory (StopsIn old old c.args.pending.now own)
    c.from_residual.ensures.1 (stops-without-memory old c.args.pending.now own)

pub returns-in_err-push_request-clause-stopped : goal.returns-in_err-push_request-clause-stopped
returns-in_err-push_request-clause-stopped g c =
    let j = c.args.judged in
    let own = host_line j.checked.now j.directory.now (sought_by j.sought) c.args.row.now.request.user c.args.machine.now in
    let old = g.O.Sink.taken c.args.out.now in
    passed-on c.from_residual-in_err-push_request.result stops.Memory (StopsIn old old c.args.pending.now own)
    c.from_residual-in_err-push_request.ensures.1 (stops-without-memory old c.args.pending.now own)

pub returns-clause-stopped : goal.returns-clause-stopped
returns-clause-stopped g c =
    let j = c.args.judged in
    let p = j.checked.now in
    let d = j.directory.now in
    let user = c.args.row.now.request.user in
    let own = host_line p d (sought_by j.sought) user c.args.machine.now in
    let old = g.O.Sink.taken c.args.out.now in
    let new = g.O.Sink.taken c.write_pending.new.out in
    let waits : Pending = record { text = c.push_request.new.text; written = c.args.pending.now.written } in
    let moved = c.in_ok-set_host.ensures
    ∙ ap (with_host c.args.row.now.request) c.as_slice.ensures
    ∙ request-moved (sought_by j.sought) user c.args.machine.now.name c.args.row.now.request c.requires in
    let is = ◌∙◌ {A = List ℕ} c.in_ok-push_request.ensures.text
    (ap (λ (r : Request). c.args.pending.now.text.items ++ request_line p d r) moved) in
    if_err c.write_pending.result (StopsIn old new waits []) (StopsIn old new c.args.pending.now own)
    (λ stop. stops-behind old new c.args.pending.now waits own stop is refl) c.write_pending.ensures.stopped
