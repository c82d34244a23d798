use Rattle.std.proofs.Common.{◌∙◌, ap, sym}
use Rattle.std.specs.Prelude.{is_some}
use Rattle.review_compare.specs.Body.Asked.{shown_cases}
use Rattle.review_compare.proofs.NoteLemmas.{settled-cases, unnoted-cases}
use Rattle.review_compare.proofs.noted_policy.NotedPolicy.cases.Goals as goal

pub returns-then-is_unnoted_at : goal.returns-then-is_unnoted_at
returns-then-is_unnoted_at c =
    settled-cases c.args.self.now.checked.now c.args.directory.now c.args.request.now c.args.verdict.now (shown_cases c.settled.result)
    c.requires (sym c.is_unnoted_at.ensures ∙ c.if-is_unnoted_at.true) c.settled.ensures

pub returns-in-None : goal.returns-in-None
returns-in-None c =
    unnoted-cases c.args.self.now.checked.now c.args.directory.now c.args.request.now c.args.verdict.now
    (shown_cases c.settled-in-None.result) c.requires
    (sym c.args.self.now.noted_is ∙ ap is_some c.in-None.is) c.settled-in-None.ensures
