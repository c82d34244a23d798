-- The verdict on a request: the last grant that applies decides. sudoers(5), "SUDOERS FILE FORMAT": the last match is used.
use Rattle.std.specs.Prelude.{Bool, cond, Option, Some, None, Result, Ok, Err}
use Rattle.sudo_text.specs.declared.line.Place.{Place}
use Rattle.sudo_grammar.specs.declared.policy.Policy.{Policy}
use Rattle.sudo_match.specs.declared.request.Request.{Request}
use Rattle.sudo_match.specs.declared.request.Tags.{Tags}
use Rattle.sudo_match.specs.declared.request.What.{What}
use Rattle.sudo_match.specs.declared.request.Verdict.{Verdict}
use Rattle.sudo_match.specs.declared.request.Verdict.TheVariants.{Allow, Deny, NoMatch, Unknown}
use Rattle.sudo_match.specs.KnownRows.{KnownRows}
use Rattle.sudo_verdict.specs.Last.{last_that}
use Rattle.sudo_verdict.specs.Tagged.{tags_given}
use Rattle.sudo_verdict.specs.Questions.{Question, question_of}
use Rattle.sudo_verdict.specs.Values.{is_all}
use Rattle.sudo_verdict.specs.Grants.{Grant, grants, applies}

abbrev pub decided_by : Place → Tags → Bool → Bool → Verdict
decided_by place tags negated all = cond negated (Deny place) (Allow place (tags_given all tags))

-- the verdict of a grant: deny if it is negated; otherwise allow with its tags, where ALL adds SETENV if that pair is
-- unset
abbrev pub verdict_by : Grant → Verdict
verdict_by g = decided_by g.place g.tags g.negated (is_all g.atom)

abbrev pub verdict_if_any : Option Grant → Verdict
verdict_if_any None = NoMatch
verdict_if_any (Some g) = verdict_by g

-- the last grant that applies decides; without one, no match
unfoldable pub verdict_on : Policy → Question → Verdict
verdict_on p q = verdict_if_any (last_that (applies p q) (grants p))

abbrev pub verdict_if_known : Policy → Result Question What → Verdict
verdict_if_known p (Err what) = Unknown what
verdict_if_known p (Ok q) = verdict_on p q

-- the verdict on a request: the first unknown name, of the user, the host, the target and the group; otherwise the
-- verdict of the last grant that applies
unfoldable pub verdict_of : Policy → KnownRows → Request → Verdict
verdict_of p d r = verdict_if_known p (question_of d r)
