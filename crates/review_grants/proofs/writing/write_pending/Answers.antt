use Rattle.std.proofs.Common.{◌≡◌, ◌∙◌, ◌+◌, ap, length, min, rules}
use Rattle.review_grants.proofs.WritingLemmas.{emptied, stops-writing}
use Rattle.review_grants.proofs.writing.write_pending.Goals as goal

pub returns-in-Ok-clause-written : goal.returns-in-Ok-clause-written
returns-in-Ok-clause-written g c =
    let long : c.len-count.result ≡ length c.args.pending.now.text.items = search rules in
    emptied (g.O.Sink.taken c.args.out.now) (g.O.Sink.taken c.write_all_of.new.writer)
    c.args.pending.now _ (rw c.deref.ensures.value at c.in-Ok.ensures.whole) c.clear.ensures.items
    (c.saturating_add-pending.ensures ∙ ap (λ n. min (c.args.pending.now.written + n) 18446744073709551615) long)

pub returns-in-Err-clause-stopped : goal.returns-in-Err-clause-stopped
returns-in-Err-clause-stopped g c =
    stops-writing (g.O.Sink.taken c.args.out.now) (g.O.Sink.taken c.write_all_of.new.writer)
    c.args.pending.now _ c.in-Err.lost.written (rw c.deref.ensures.value at c.in-Err.ensures.part)
    (rw c.deref.ensures.value at c.in-Err.ensures.within) c.saturating_add.ensures
