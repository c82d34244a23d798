use Rattle.std.proofs.Common.{sym, ◌∙◌}
use Rattle.sudo_policy.specs.Body.Resolving.{command_resolves}
use Rattle.sudo_verdict.specs.Body.Queries.{question}
use Rattle.sudo_verdict.proofs.Lasts.{back_rest}
use Rattle.sudo_verdict.proofs.SearchLaw.{refused_rest, places_rest, places_decide, places_silent, places_end}
use Rattle.sudo_verdict.proofs.ListDecisions.{command_key_there}
use Rattle.sudo_verdict.proofs.search.search_places.Goals as goal

pub returns-in-Some-verdict : goal.returns-in-Some-verdict
returns-in-Some-verdict c =
    sym
    (c.loop-spec.invariant.same
    ∙ places_decide c.args.lists.checked.now (question c.args.query.now) c.args.place c.args.commands.now
    c.loop-spec.left.now c.in-Some.rest.now c.in-Some.spec.now
    c.in-Some.ensures.cases.0 c.loop-spec.invariant.front c.in-Some-verdict.verdict (sym c.in-Some-verdict.is
    ∙ c.search_command-examined.ensures.verdict))

pub loop-spec-preserved : goal.loop-spec-preserved
loop-spec-preserved c = record {
  refused = λ h. refused_rest c.args.lists.checked.now (question c.args.query.now) c.loop-spec.left.now
      c.in-Some.rest.now c.in-Some.spec.now c.in-Some.ensures.cases.0 c.search_command-examined.result.refused
      c.is_none.result c.is_none.ensures h c.search_command-examined.ensures.refused;
  front = places_rest c.args.lists.checked.now (question c.args.query.now) c.args.place c.args.commands.now
      c.loop-spec.left.now c.in-Some.rest.now c.in-Some.spec.now c.in-Some.ensures.cases.0 c.loop-spec.invariant.front;
  resolve = back_rest (command_resolves c.args.lists.checked.now) c.loop-spec.left.now c.in-Some.rest.now
      c.in-Some.spec.now c.in-Some.ensures.cases.0 c.loop-spec.invariant.resolve;
  same = c.loop-spec.invariant.same
      ∙ places_silent c.args.lists.checked.now (question c.args.query.now) c.args.place c.args.commands.now
      c.loop-spec.left.now c.in-Some.rest.now c.in-Some.spec.now
      c.in-Some.ensures.cases.0 c.loop-spec.invariant.front (sym c.in_default-verdict.is ∙ c.search_command-examined.ensures.verdict);
}

pub returns : goal.returns
returns c =
    sym (c.loop-spec.invariant.same ∙ places_end c.args.lists.checked.now (question c.args.query.now) c.args.place
    c.args.commands.now c.loop-spec.left.now c.in_default.ensures.cases)

pub search_command-examined-requires-clause-key : goal.search_command-examined-requires-clause-key
search_command-examined-requires-clause-key c =
    rw c.key_at-key.ensures
    (command_key_there c.args.lists.checked.now c.args.keys.now c.args.commands.now c.loop-spec.left.now
    c.in-Some.rest.now c.in-Some.spec.now
    c.in-Some.ensures.cases.0 c.loop-spec.invariant.front c.requires.keys)
