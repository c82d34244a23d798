use Rattle.std.proofs.Common.{sym, ◌∙◌, ap, arith}
use Rattle.std.specs.Prelude.{◌||◌}
use Rattle.sudo_verdict.specs.Body.Queries.{question}
use Rattle.sudo_verdict.specs.Found.{entry_found}
use Rattle.sudo_verdict.specs.Postings.{misses_command}
use Rattle.sudo_verdict.proofs.Misses.{misses_before}
use Rattle.sudo_verdict.proofs.SkippedEntries.{skipped}
use Rattle.sudo_verdict.proofs.index.rule_index.search_indexed.Goals as goal

pub returns-then-last-start : goal.returns-then-last-start
returns-then-last-start c =
    let p = c.args.lists.checked.now in
    let q = question c.args.query.now in
    let within = c.loop-end.invariant.within in
    let early = c.if-last-start.true in
    sym
    (c.loop-end.invariant.same
    ∙ skipped (entry_found p q) p.entries 0 c.loop-end.end (omega arith)
    (λ k e l h there.
    c.requires.index.covers q k e (omega (arith, h, within)) there
    (ap (λ b. b || misses_command c.args.index.now.1.0 k q.command)
    (misses_before c.args.index.now.0 c.start-start.result k q.user c.start-start.ensures (omega (arith, h, early))))))
