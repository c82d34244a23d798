use Rattle.std.proofs.Common.{◌≡◌, Some, None, sym, ap, subst, ◌∙◌}
use Rattle.sudo_verdict.specs.Body.Blocks.{IsMissed}
use Rattle.sudo_verdict.specs.Postings.{Index, is_in_row, misses_command}
use Rattle.sudo_verdict.specs.Questions.{Question}
use Rattle.sudo_verdict.specs.Body.Queries.{question}
use Rattle.sudo_verdict.proofs.SearchLaw.{verdict_of-found, verdict_of-unknown}
use Rattle.sudo_verdict.proofs.index.rule_index.RuleIndex.verdict.Goals as goal

pub search_indexed-requires-clause-commands : goal.search_indexed-requires-clause-commands
search_indexed-requires-clause-commands c rule missed =
    let rows = c.self.inside.commands.rows.items in
    let view : rows ≡ c.args.self.now.1.0 = ap (λ (v : Index). v.1.0) c.self.view_is in
    let same = ap (λ (q : Question). q.command) c.with_numbers-query.ensures in
    ap (λ rs. misses_command rs rule (question c.with_numbers-query.result).command) (sym view)
    ∙ ap (misses_command rows rule) same
    ∙ c.add_command.ensures.numbers (λ n. is_in_row rows n rule)
    (λ n noted. noted.1 rule (subst (λ rs. IsMissed rs c.add_command.new.self.commands rule) (sym view) missed))

pub returns-in-Some : goal.returns-in-Some
returns-in-Some c =
    verdict_of-found c.args.checked.now c.args.directory.now c.args.request.now (question c.in-Ok.query)
    (Some c.in-Some.verdict) c.in-Ok.ensures (rw (sym c.with_numbers-query.ensures) c.in-Some.ensures)

pub returns-in-None : goal.returns-in-None
returns-in-None c =
    verdict_of-found c.args.checked.now c.args.directory.now c.args.request.now (question c.in-Ok.query) None
    c.in-Ok.ensures (rw (sym c.with_numbers-query.ensures) c.in-None.ensures)

pub returns-in-Err : goal.returns-in-Err
returns-in-Err c = verdict_of-unknown c.args.checked.now c.args.directory.now c.args.request.now _ c.in-Err.ensures

pub invariant_of-lists : goal.invariant_of-lists
invariant_of-lists c = record {
  known = λ k e.
      let same : k ≡ c.self.inside.keys = cc in
      let there : c.self.inside.keys.rows ≡ c.args.self.now.1.1 = ap (λ (v : Index). v.1.1) c.self.view_is in
      rw (same, there) c.requires.keys;
}
