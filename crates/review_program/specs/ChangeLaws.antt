-- What the table of a comparison by requests says of noted conditions.
use Rattle.std.specs.Prelude.{◌≡◌, ◌≢◌, ⊤, false, [], Option, None, Some, Result, Ok, Err}
use Rattle.audit_collect.specs.declared.arrival.Answer.{Answer}
use Rattle.sudo_grammar.specs.declared.policy.Policy.{Policy}
use Rattle.sudo_match.specs.KnownRows.{KnownRows}
use Rattle.sudo_match.specs.declared.request.Request.{Request}
use Rattle.sudo_match.specs.declared.request.What.{What}
use Rattle.sudo_verdict.specs.Questions.{Question, question_of}
use Rattle.sudo_verdict.specs.Verdicts.{verdict_of, verdict_on}
use Rattle.review_compare.specs.Cells.{verdict_where}
use Rattle.review_compare.specs.Compared.{said}
use Rattle.review_compare.specs.Lines.{Choice}
use Rattle.review_program.specs.Changes.{are_noted, change_between, change_to, request_depends}
use Rattle.review_program.specs.declared.change.Change.TheVariants as change

-- both policies say the same, whichever noted conditions hold; they say nothing to a request with an unknown name
abbrev pub SaySameTo : Policy → Policy → Result Question What → Type 0
SaySameTo old new (Err what) = ⊤
SaySameTo old new (Ok q) = (met : Choice) →
    said (verdict_where met old q q.command q.arguments) ≡ said (verdict_where met new q q.command q.arguments)

-- a policy says what its verdict does, whichever noted conditions hold
abbrev pub VerdictHolds : Policy → Result Question What → Type 0
VerdictHolds p (Err what) = ⊤
VerdictHolds p (Ok q) = (met : Choice) → said (verdict_where met p q q.command q.arguments) ≡ said (verdict_on p q)

-- both policies say the same to a request without a record, whichever noted conditions hold
abbrev pub UnlistedSaySame : Type 0
UnlistedSaySame = (old new : Policy) (d : KnownRows) (a : Answer) → change_to old new d a ≡ None →
    SaySameTo old new (question_of d a.request)

-- where nothing is named on which the answers depend, the verdicts hold
abbrev pub UndependingHold : Type 0
UndependingHold = (old new : Policy) (d : KnownRows) (r : Request) → request_depends old new d r ≡ [] →
    VerdictHolds old (question_of d r) × VerdictHolds new (question_of d r)

-- where it is noted conditions that decide whether there is a change, they are named
abbrev pub MayDepends : Type 0
MayDepends = (old new : Policy) (d : KnownRows) (a : Answer) → a.verdict ≡ verdict_of old d a.request →
    change_to old new d a ≡ Some change.May → request_depends old new d a.request ≢ []

-- where no grant stands for a note, the verdicts alone say which requests have a record
abbrev pub UnnotedByVerdicts : Type 0
UnnotedByVerdicts = (old new : Policy) (d : KnownRows) (a : Answer) → are_noted old new ≡ false → a.verdict ≡ verdict_of old d a.request →
    change_to old new d a ≡ change_between a.verdict (verdict_of new d a.request)
