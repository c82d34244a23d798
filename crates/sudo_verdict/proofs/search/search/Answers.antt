use Rattle.std.proofs.Common.{sym, ◌∙◌, refl}
use Rattle.sudo_verdict.specs.Body.Resolved.{body_resolves}
use Rattle.sudo_verdict.specs.Body.Queries.{question}
use Rattle.sudo_verdict.specs.Found.{entry_found}
use Rattle.sudo_verdict.proofs.Lasts.{back_found, back_none, back_rest}
use Rattle.sudo_verdict.proofs.RuleLists.{bodies_resolve}
use Rattle.sudo_verdict.proofs.search.search.Goals as goal

pub loop-entry-init : goal.loop-entry-init
loop-entry-init c = record {
  resolve = rw (c.as_slice-left.ensures, c.policy-policy.ensures.value)
      (bodies_resolve c.args.lists.checked.now c.policy-policy.ensures.sound);
  same = rw (c.as_slice-left.ensures, c.policy-policy.ensures.value) refl;
}

pub returns-in-Some-search_entry : goal.returns-in-Some-search_entry
returns-in-Some-search_entry c =
    sym
    (c.loop-entry.invariant.same
    ∙ back_found (entry_found c.args.lists.checked.now (question c.args.query.now)) c.loop-entry.left.now
    c.in-Some.rest.now c.in-Some.entry.now
    c.in-Some.ensures.cases.0 c.in-Some-search_entry.verdict c.in-Some-search_entry.ensures)

pub loop-entry-preserved : goal.loop-entry-preserved
loop-entry-preserved c = record {
  resolve = back_rest (λ e. body_resolves c.args.lists.checked.now e.body) c.loop-entry.left.now c.in-Some.rest.now
      c.in-Some.entry.now c.in-Some.ensures.cases.0 c.loop-entry.invariant.resolve;
  same = c.loop-entry.invariant.same
      ∙ back_none (entry_found c.args.lists.checked.now (question c.args.query.now)) c.loop-entry.left.now
      c.in-Some.rest.now c.in-Some.entry.now
      c.in-Some.ensures.cases.0 c.in_default-search_entry.ensures;
}
