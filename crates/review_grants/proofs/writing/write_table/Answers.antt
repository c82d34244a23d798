use Rattle.std.proofs.Common.{◌≡◌, ◌+◌, ◌++◌, ◌∙◌, ℕ, List, [], ap, append-nil, arith, option_copied, refl, subst, true}
use Rattle.std.specs.List.{list_all}
use Rattle.sudo_base.proofs.Options.{on_ok}
use Rattle.sudo_grammar.specs.declared.policy.Policy.{Policy}
use Rattle.sudo_parser.proofs.Steps.{passed-on}
use Rattle.sudo_verdict.specs.Body.Resolved.{body_resolves}
use Rattle.sudo_verdict.specs.Grants.{entry_grants}
use Rattle.sudo_verdict.proofs.RuleLists.{bodies_resolve}
use Rattle.review_grants.proofs.GrantSteps.{table-begins, table-next, table-part, table-whole}
use Rattle.review_grants.proofs.ListSteps.{all-at}
use Rattle.review_grants.proofs.WritingLemmas.{if_err, stopped-within, written-whole}
use Rattle.review_grants.specs.Body.Heads.{lines_of}
use Rattle.review_grants.specs.Body.Pending.{Empties, IsOnItsWay, StopsIn}
use Rattle.review_grants.specs.GrantRows.{grants_text}
use Rattle.review_grants.specs.Writing.{IsStopped}
use Rattle.review_grants.proofs.writing.write_table.Goals as goal

pub put_entry-requires : goal.put_entry-requires
put_entry-requires g c =
    let p = c.args.table.checked.now in
    let all : list_all (λ e. body_resolves p e.body) c.as_slice-entry-items.result.now ≡ true =
    rw (c.as_slice-entry-items.ensures, c.policy.ensures.value) (bodies_resolve p c.policy.ensures.sound) in
    all-at (λ e. body_resolves p e.body) c.as_slice-entry-items.result.now c.loop-entry.entry-index c.entry-item.result all
    c.loop-entry-test.true c.entry-item.is

pub returns-in_err-put_entry-clause-stopped : goal.returns-in_err-put_entry-clause-stopped
returns-in_err-put_entry-clause-stopped g c =
    let p = c.args.table.checked.now in
    let d = c.args.table.directory.now in
    let u = option_copied c.args.table.scope.user in
    let m = option_copied c.args.table.scope.host in
    let es = c.as_slice-entry-items.result.now in
    let at = c.loop-entry.entry-index in
    let e = c.entry-item.result in
    let before = g.O.Sink.taken c.args.out.now in
    let after = g.O.Sink.taken c.put_entry.new.out in
    let made : List ℕ = table-part p d u m es at in
    let own : List ℕ = lines_of p d u m (entry_grants p e) in
    let stop = c.in_err-put_entry.field-0.0 in
    let rest = table-begins p d u m es (at + 1) (c.as_slice-entry-items.ensures ∙ ap (λ (q : Policy). q.entries) c.policy.ensures.value) in
    let next : made ++ own ≡ table-part p d u m es (at + 1) =
    table-next p d u m es at e c.loop-entry-test.true c.entry-item.is in
    passed-on c.from_residual-in_err-put_entry.result stop (IsStopped before after (grants_text p d u m))
    c.from_residual-in_err-put_entry.ensures.1
    (subst (λ text. IsStopped before after text stop) (ap (λ (t : List ℕ). t ++ rest.0) next ∙ rest.1)
    (stopped-within before after (made ++ own) rest.0 stop (c.in_err-put_entry.ensures.stopped before made c.loop-entry.invariant.0)))

pub loop-entry-preserved : goal.loop-entry-preserved
loop-entry-preserved g c =
    let p = c.args.table.checked.now in
    let d = c.args.table.directory.now in
    let u = option_copied c.args.table.scope.user in
    let m = option_copied c.args.table.scope.host in
    let es = c.as_slice-entry-items.result.now in
    let at = c.loop-entry.entry-index in
    let e = c.entry-item.result in
    let before = g.O.Sink.taken c.args.out.now in
    let after = g.O.Sink.taken c.put_entry.new.out in (
      subst (IsOnItsWay before after c.put_entry.new.pending)
          (table-next p d u m es at e c.loop-entry-test.true c.entry-item.is)
          (c.in_ok-put_entry.ensures.written before (table-part p d u m es at) c.loop-entry.invariant.0),
      grind (arith, c.in_ok-put_entry.ensures.failures, c.loop-entry.invariant.1),
    )

pub returns-clause-whole : goal.returns-clause-whole
returns-clause-whole g c =
    let p = c.args.table.checked.now in
    let d = c.args.table.directory.now in
    let u = option_copied c.args.table.scope.user in
    let m = option_copied c.args.table.scope.host in
    let es = c.as_slice-entry-items.result.now in
    let before = g.O.Sink.taken c.args.out.now in
    let old = g.O.Sink.taken c.loop-entry.out in
    let new = g.O.Sink.taken c.write_pending.new.out in
    let made : List ℕ = table-part p d u m es c.loop-entry.entry-index in
    let are = c.as_slice-entry-items.ensures ∙ ap (λ (q : Policy). q.entries) c.policy.ensures.value in
    let whole : made ≡ grants_text p d u m =
    table-whole p d u m es c.loop-entry.entry-index made are c.loop-entry-test.false refl in
    on_ok c.write_pending.result (λ (done : Empties old new c.loop-entry.pending c.write_pending.new.pending).
    written-whole before new c.write_pending.new.pending (grants_text p d u m) made whole
    (done.same before made c.loop-entry.invariant.0) done.none) c.write_pending.ensures.written

pub returns-clause-stopped : goal.returns-clause-stopped
returns-clause-stopped g c =
    let p = c.args.table.checked.now in
    let d = c.args.table.directory.now in
    let u = option_copied c.args.table.scope.user in
    let m = option_copied c.args.table.scope.host in
    let es = c.as_slice-entry-items.result.now in
    let before = g.O.Sink.taken c.args.out.now in
    let old = g.O.Sink.taken c.loop-entry.out in
    let new = g.O.Sink.taken c.write_pending.new.out in
    let made : List ℕ = table-part p d u m es c.loop-entry.entry-index in
    let are = c.as_slice-entry-items.ensures ∙ ap (λ (q : Policy). q.entries) c.policy.ensures.value in
    let whole : made ≡ grants_text p d u m =
    table-whole p d u m es c.loop-entry.entry-index made are c.loop-entry-test.false refl in
    if_err c.write_pending.result (StopsIn old new c.loop-entry.pending []) (IsStopped before new (grants_text p d u m))
    (λ stop stopped. subst (λ text. IsStopped before new text stop) (append-nil made ∙ whole)
    (stopped before made c.loop-entry.invariant.0)) c.write_pending.ensures.stopped
