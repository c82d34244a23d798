-- The rows for a target, whatever the command; and the verdict by a test of grants.
-- sudoers(5), "User Specification": where several rows match, the last one is used. A note may be met or not.
use Rattle.std.specs.Prelude.{◌≡◌, ℕ, Bool, true, false, List, filter}
use Rattle.sudo_grammar.specs.declared.policy.Policy.{Policy}
use Rattle.sudo_match.specs.declared.request.Verdict.{Verdict}
use Rattle.sudo_match.specs.declared.request.Verdict.TheVariants.{Allow}
use Rattle.sudo_verdict.specs.Last.{last_that}
use Rattle.sudo_verdict.specs.RunasForms.{runas_allows}
use Rattle.sudo_verdict.specs.Questions.{Question}
use Rattle.sudo_verdict.specs.Grants.{Grant, applies, grants}
use Rattle.sudo_verdict.specs.Verdicts.{verdict_if_any, verdict_on}
use Rattle.review_grants.specs.Rows.{rows}
use Rattle.review_grants.specs.Unnoted.{FailsByNotes}

-- the rows of the user on the host whose runas allows the target and the group
abbrev pub target_rows : Policy → Question → List Grant
target_rows p q = filter (λ g. runas_allows p q g.runas) (rows p q.user q.host)

-- the question with another command
abbrev pub with_command : Question → List ℕ → List ℕ → Question
with_command q command arguments = record q { command = command; arguments = arguments }

abbrev pub allowed : Verdict → Bool
allowed (Allow place tags) = true
allowed _ = false

-- the verdict by the last grant of which a test holds
abbrev pub verdict_where : Policy → (Grant → Bool) → Verdict
verdict_where p f = verdict_if_any (last_that f (grants p))

-- the verdict on a request is that of the case in which all notes are met
abbrev pub VerdictIsWhere : Type 0
VerdictIsWhere =
    (p : Policy) (q : Question) → FailsByNotes p q (applies p q) × (verdict_on p q ≡ verdict_where p (applies p q))
