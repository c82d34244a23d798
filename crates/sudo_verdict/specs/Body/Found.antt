-- The verdict that the search back from the last grant finds: at a command, in a section, in a rule, in a policy.
-- Only proofs of bodies use these.
use Rattle.std.specs.Prelude.{List, Option, option_map}
use Rattle.sudo_grammar.specs.declared.policy.Policy.{Policy}
use Rattle.sudo_match.specs.declared.request.Verdict.{Verdict}
use Rattle.sudo_verdict.specs.Last.{last_that}
use Rattle.sudo_verdict.specs.Questions.{Question}
use Rattle.sudo_verdict.specs.Grants.{Grant, applies}
use Rattle.sudo_verdict.specs.Verdicts.{verdict_by}

-- the verdict of the last of these grants that applies
unfoldable pub found : Policy → Question → List Grant → Option Verdict
found p q grants = option_map verdict_by (last_that (applies p q) grants)
