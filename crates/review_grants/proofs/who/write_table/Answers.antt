use Rattle.std.proofs.Common.{ℕ, List, [], append-nil, refl, subst}
use Rattle.audit_files.specs.Report.{line}
use Rattle.sudo_base.proofs.Options.{on_ok}
use Rattle.sudo_parser.proofs.Steps.{passed-on}
use Rattle.review_grants.specs.Body.Pending.{Empties, StopsIn}
use Rattle.review_grants.specs.WhoRows.{sought_by, who_header, who_text}
use Rattle.review_grants.specs.Writing.{IsStopped}
use Rattle.review_grants.proofs.WhoLemmas.{first-pending}
use Rattle.review_grants.proofs.WritingLemmas.{if_err, written-whole}
use Rattle.review_grants.proofs.who.write_table.Goals as goal

pub returns-in_err-put_users-clause-stopped : goal.returns-in_err-put_users-clause-stopped
returns-in_err-put_users-clause-stopped g c =
    let j = c.args.judged in
    let text = who_text j.checked.now j.directory.now (sought_by j.sought) in
    let header : List ℕ = line who_header in
    let old = g.O.Sink.taken c.args.out.now in
    let new = g.O.Sink.taken c.put_users.new.out in
    let way = first-pending old c.in_ok-pending.pending header c.in_ok-pending.ensures.0 c.in_ok-pending.ensures.1 in
    passed-on c.from_residual-in_err-put_users.result c.in_err-put_users.field-0.0 (IsStopped old new text)
    c.from_residual-in_err-put_users.ensures.1 (c.in_err-put_users.ensures.stopped old header way)

pub returns-clause-whole : goal.returns-clause-whole
returns-clause-whole g c =
    let j = c.args.judged in
    let text = who_text j.checked.now j.directory.now (sought_by j.sought) in
    let header : List ℕ = line who_header in
    let old = g.O.Sink.taken c.args.out.now in
    let mid = g.O.Sink.taken c.put_users.new.out in
    let new = g.O.Sink.taken c.write_pending.new.out in
    let first = first-pending old c.in_ok-pending.pending header c.in_ok-pending.ensures.0 c.in_ok-pending.ensures.1 in
    let way = c.in_ok-put_users.ensures.written old header first in
    on_ok c.write_pending.result (λ (done : Empties mid new c.put_users.new.pending c.write_pending.new.pending).
    written-whole old new c.write_pending.new.pending text text refl (done.same old text way) done.none)
    c.write_pending.ensures.written

pub returns-clause-stopped : goal.returns-clause-stopped
returns-clause-stopped g c =
    let j = c.args.judged in
    let text = who_text j.checked.now j.directory.now (sought_by j.sought) in
    let header : List ℕ = line who_header in
    let old = g.O.Sink.taken c.args.out.now in
    let mid = g.O.Sink.taken c.put_users.new.out in
    let new = g.O.Sink.taken c.write_pending.new.out in
    let first = first-pending old c.in_ok-pending.pending header c.in_ok-pending.ensures.0 c.in_ok-pending.ensures.1 in
    let way = c.in_ok-put_users.ensures.written old header first in
    if_err c.write_pending.result (StopsIn mid new c.put_users.new.pending []) (IsStopped old new text)
    (λ stop stopped. subst (λ t. IsStopped old new t stop) (append-nil text) (stopped old text way)) c.write_pending.ensures.stopped
