use Rattle.std.proofs.Common.{◌∙◌}
use Rattle.sudo_verdict.specs.Grants.{grants}
use Rattle.review_compare.proofs.UnnotedLemmas.{no-notes}
use Rattle.review_compare.proofs.noted_policy.NotedPolicy.is_noted.Goals as goal

pub returns : goal.returns
returns c = c.is_some.ensures ∙ c.args.self.now.noted_is ∙ no-notes (grants c.args.self.now.checked.now)
