-- What a policy may say to a request, as noted conditions hold or not; when two policies say the same whichever hold; and what the
-- answer depends on.
use Rattle.std.specs.Prelude.{◌≡◌, ℕ, Bool, true, false, ◌&&◌, ◌||◌, if◌then◌else◌, List, [], ◌∷◌, ◌++◌, filter, option_map}
use Rattle.std.specs.Prelude.{Option, Some, None, Result, Ok, Err}
use Rattle.std.specs.List.{list_any}
use Rattle.std.specs.Option.{option_or}
use Rattle.sudo_grammar.specs.declared.policy.Policy.{Policy}
use Rattle.sudo_match.specs.KnownRows.{KnownRows}
use Rattle.sudo_match.specs.Matching.{command_fits}
use Rattle.sudo_match.specs.declared.request.Request.{Request}
use Rattle.sudo_match.specs.declared.request.Tags.{Tags}
use Rattle.sudo_match.specs.declared.request.What.{What}
use Rattle.sudo_verdict.specs.Last.{last_that}
use Rattle.sudo_verdict.specs.Questions.{Question, question_of}
use Rattle.sudo_verdict.specs.Verdicts.{verdict_on}
use Rattle.review_texts.specs.declared.note.Note.{Note}
use Rattle.review_texts.specs.Notes.{notes}
use Rattle.review_grants.specs.Depends.{is_noted_at}
use Rattle.review_compare.specs.declared.noted_policy.LineCommands.{LineCommands}
use Rattle.review_compare.specs.declared.noted_policy.NotedPolicy.{NotedPolicy}
use Rattle.review_compare.specs.Cells.{Decider, deciders, lined_of, same_lined, same_said, verdict_where}
use Rattle.review_compare.specs.Compared.{said, same_answer}
use Rattle.review_compare.specs.Lines.{Choice, is_met, is_unnoted}

-- what is said if none of the rows applies; and rows before which something is noted, each of which may apply or not. The last one
-- that applies answers
pub record Cases : Type 0 where
  pub otherwise : Option (Option Tags)
  pub noted : List Decider

abbrev pub no_cases : Cases
no_cases = record { otherwise = None; noted = [] }

abbrev pub is_empty : List Decider → Bool
is_empty [] = true
is_empty (d ∷ ds) = false

-- the row answers what is said if no row applies, and no row stands between: so it adds nothing
abbrev pub adds_nothing : Cases → Decider → Bool
adds_nothing k d = is_empty k.noted && same_said k.otherwise (Some d.answer)

-- with a further row that fits, before which something is noted
abbrev pub with_noted : Cases → Decider → Cases
with_noted k d = if adds_nothing k d then k else record { otherwise = k.otherwise; noted = k.noted ++ d ∷ [] }

-- with a further row that fits: one before which nothing is noted answers whatever stands before it
abbrev pub with_row : Cases → Decider → Cases
with_row k d = if is_unnoted d.before then record { otherwise = Some d.answer; noted = [] } else with_noted k d

-- with a further row, if it fits the command
abbrev pub with_row_if : List ℕ → List ℕ → Cases → Decider → Cases
with_row_if command arguments k d = if command_fits d.atom command arguments then with_row k d else k

-- with further rows, in their order
abbrev pub with_rows : List ℕ → List ℕ → Cases → List Decider → Cases
with_rows command arguments k [] = k
with_rows command arguments k (d ∷ ds) = with_rows command arguments (with_row_if command arguments k d) ds

-- the cases of a question
abbrev pub cases_on : Policy → Question → Cases
cases_on p q = with_rows q.command q.arguments no_cases (deciders p q)

abbrev pub cases_if_known : Policy → Result Question What → Cases
cases_if_known p (Err what) = no_cases
cases_if_known p (Ok q) = cases_on p q

-- the cases of a request; nothing is said to one with an unknown name
abbrev pub cases_of : Policy → KnownRows → Request → Cases
cases_of p d r = cases_if_known p (question_of d r)

-- what is said where this is met
abbrev pub said_where : Choice → Cases → Option (Option Tags)
said_where met k = option_or (option_map (λ d. d.answer) (last_that (λ d. is_met met (lined_of d)) k.noted)) k.otherwise

-- ---- Two policies

-- the rows answer alike, and their commands are written alike, and so is what stands before these
abbrev pub same_row : Decider → Decider → Bool
same_row d e = same_answer d.answer e.answer && same_lined (lined_of d) (lined_of e)

-- the same rows, one by one
abbrev pub same_rows : List Decider → List Decider → Bool
same_rows [] [] = true
same_rows (d ∷ ds) (e ∷ es) = same_row d e && same_rows ds es
same_rows _ _ = false

abbrev pub same_cases : Cases → Cases → Bool
same_cases k l = same_said k.otherwise l.otherwise && same_rows k.noted l.noted

-- ---- What the answer depends on

-- a row of the cases stands in a line with the note
abbrev pub bears : Policy → Cases → Note → Bool
bears p k note = list_any (λ d. is_noted_at p d.place note) k.noted

-- the notes of the lines of these rows, of both policies
abbrev pub notes_of : Policy → Policy → Cases → Cases → List Note
notes_of old new k l = filter (λ note. bears old k note || bears new l note) notes

-- ---- Policies as the program has them

-- the policy
abbrev pub policy_of : NotedPolicy → Policy
policy_of n = n.checked.now

abbrev pub commands_of : LineCommands → Policy
commands_of c = c.checked.now

-- ---- Laws

-- the cases are what the policy says, whichever noted conditions hold
abbrev pub CasesAreSaid : Type 0
CasesAreSaid = (p : Policy) (q : Question) (met : Choice) →
    said (verdict_where met p q q.command q.arguments) ≡ said_where met (cases_on p q)

-- policies with the same cases say the same to a request, whichever noted conditions hold
abbrev pub SameCasesSaySame : Type 0
SameCasesSaySame = (old new : Policy) (q : Question) → same_cases (cases_on old q) (cases_on new q) ≡ true → (met : Choice) →
    said (verdict_where met old q q.command q.arguments) ≡ said (verdict_where met new q q.command q.arguments)

-- where no line has a note that bears on the request, the verdict holds, whichever noted conditions hold
abbrev pub UnnotedCasesHold : Type 0
UnnotedCasesHold = (p : Policy) (q : Question) → ((note : Note) → bears p (cases_on p q) note ≡ false) → (met : Choice) →
    said (verdict_where met p q q.command q.arguments) ≡ said (verdict_on p q)
