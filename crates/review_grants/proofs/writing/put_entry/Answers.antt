use Rattle.std.proofs.Common.{[], option_copied, refl}
use Rattle.sudo_parser.proofs.Steps.{passed-on}
use Rattle.sudo_verdict.specs.Grants.{entry_grants}
use Rattle.review_grants.specs.Body.Heads.{lines_of}
use Rattle.review_grants.specs.Body.Pending.{StopsIn}
use Rattle.review_grants.specs.declared.writing.Pending.{Pending}
use Rattle.review_grants.specs.declared.writing.Stopped.TheVariants as stops
use Rattle.review_grants.proofs.WritingLemmas.{if_err, stops-behind, stops-without-memory}
use Rattle.review_grants.proofs.writing.put_entry.Goals as goal

pub returns-in_err-push_entry-clause-stopped : goal.returns-in_err-push_entry-clause-stopped
returns-in_err-push_entry-clause-stopped g c =
    let t = c.args.table in
    let own = lines_of t.checked.now t.directory.now (option_copied t.scope.user) (option_copied t.scope.host)
    (entry_grants t.checked.now c.args.entry.now) in
    passed-on c.from_residual.result stops.Memory
    (StopsIn (g.O.Sink.taken c.args.out.now) (g.O.Sink.taken c.args.out.now) c.args.pending.now own)
    c.from_residual.ensures.1 (stops-without-memory (g.O.Sink.taken c.args.out.now) c.args.pending.now own)

pub returns-clause-stopped : goal.returns-clause-stopped
returns-clause-stopped g c =
    let t = c.args.table in
    let own = lines_of t.checked.now t.directory.now (option_copied t.scope.user) (option_copied t.scope.host)
    (entry_grants t.checked.now c.args.entry.now) in
    let old = g.O.Sink.taken c.args.out.now in
    let new = g.O.Sink.taken c.write_pending.new.out in
    let waits : Pending = record { text = c.push_entry.new.text; written = c.args.pending.now.written } in
    if_err c.write_pending.result (StopsIn old new waits []) (StopsIn old new c.args.pending.now own)
    (λ stop. stops-behind old new c.args.pending.now waits own stop c.in_ok-push_entry.ensures refl) c.write_pending.ensures.stopped
