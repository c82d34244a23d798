-- The requests to which two policies answer differently, or may do so: the input, the output, and its faults.
use Rattle.std.specs.Prelude.{◌≡◌, ⊤, ℕ, Bool, true, false, not, ◌&&◌, ◌||◌, if◌then◌else◌, List, [], ◌∷◌, ◌++◌, codes, flat_map}
use Rattle.std.specs.Prelude.{Option, None, Some, get_or, is_some, Ok}
use Rattle.std.specs.List.{list_any}
use Rattle.audit_collect.specs.declared.arrival.Answer.{Answer}
use Rattle.audit_collect.specs.declared.report.Report.{Report}
use Rattle.audit_collect.specs.declared.report.SenderReport.{SenderReport}
use Rattle.audit_commands.specs.Auditing.{Answers, IsUnreported}
use Rattle.audit_commands.specs.declared.fault.ReportFault.{ReportFault}
use Rattle.audit_commands.specs.declared.fault.ReportFault.TheVariants as reports
use Rattle.audit_files.specs.Feeding.{Ahead}
use Rattle.audit_files.specs.Report.{line, verdict_place, verdict_tags, verdict_word}
use Rattle.sudo_grammar.specs.declared.policy.Policy.{Policy}
use Rattle.sudo_grammar.specs.declared.tag.TagPair.{TagPair}
use Rattle.sudo_grammar.specs.declared.tag.TagPair.TheVariants as pair
use Rattle.sudo_match.specs.KnownRows.{KnownRows}
use Rattle.sudo_match.specs.declared.request.Request.{Request}
use Rattle.sudo_match.specs.declared.request.Tags.{Tags}
use Rattle.sudo_match.specs.declared.request.Verdict.{Verdict}
use Rattle.sudo_match.specs.declared.request.Verdict.TheVariants.{Allow}
use Rattle.sudo_verdict.specs.Grants.{grants}
use Rattle.sudo_verdict.specs.Verdicts.{verdict_of}
use Rattle.review_grants.specs.Depends.{depends_text, is_note_grant}
use Rattle.review_compare.specs.Cases.{cases_of, notes_of, same_cases}
use Rattle.review_compare.specs.Cells.{answer_between}
use Rattle.review_compare.specs.declared.answer.Answer.{Answer as Kind}
use Rattle.review_compare.specs.declared.answer.Answer.TheVariants as answer
use Rattle.review_commands.specs.Pairing.{IsNotPaired, IsPaired, PairInputs}
use Rattle.review_commands.specs.Rows.{asked_fields, asker_fields}
use Rattle.review_program.specs.declared.change.Change.{Change}
use Rattle.review_program.specs.declared.change.Change.TheVariants as change
use Rattle.review_commands.specs.declared.fault.TableFault.TheVariants as tables

-- ---- What a change does. sudoers(5), "Tag_Spec"

-- the user is free to do what the other choice of the pair forbids: run the command without a password, set the environment,
-- edit by a symbolic link; or run further commands, for which neither NOEXEC nor INTERCEPT stands
abbrev pub is_free : TagPair → Option Bool → Bool
is_free pair.Passwd (Some false) = true
is_free pair.SetEnv (Some true) = true
is_free pair.Follow (Some true) = true
is_free pair.Exec (Some false) = false
is_free pair.Exec choice = true
is_free pair.Intercept (Some true) = false
is_free pair.Intercept choice = true
is_free _ choice = false

-- a choice of a pair leaves the user free, and an earlier one did not
abbrev pub is_freer : TagPair → Option Bool → Option Bool → Bool
is_freer p before after = is_free p after && not (is_free p before)

-- the choice of the pair at a position in `pairs`: Exec is 0, Follow 1, Intercept 2, Passwd 6, SetEnv 7
abbrev pub choice_at : Tags → ℕ → Option Bool
choice_at t i = get_or t.choices i None

-- some tags leave the user freer than earlier ones in one thing at least
abbrev pub are_freer : Tags → Tags → Bool
are_freer old new = is_freer pair.Exec (choice_at old 0) (choice_at new 0) || is_freer pair.Follow (choice_at old 1) (choice_at new 1)
    || is_freer pair.Intercept (choice_at old 2) (choice_at new 2) || is_freer pair.Passwd (choice_at old 6) (choice_at new 6)
    || is_freer pair.SetEnv (choice_at old 7) (choice_at new 7)

-- what the change of the tags of an allowed command does
abbrev pub tags_change : Bool → Bool → Change
tags_change true true = change.GainedAndLost
tags_change true false = change.Gained
tags_change false true = change.Lost
tags_change false false = change.Other

-- what a change does to a command that both policies allow, or neither does
abbrev pub other_change : Verdict → Verdict → Change
other_change (Allow place old) (Allow other new) = tags_change (are_freer old new) (are_freer new old)
other_change old new = change.Other

abbrev pub change_by : Verdict → Verdict → Kind → Change
change_by old new answer.Gained = change.Gained
change_by old new answer.Lost = change.Lost
change_by old new answer.Other = other_change old new

abbrev pub change_if : Verdict → Verdict → Option Kind → Option Change
change_if old new None = None
change_if old new (Some kind) = Some (change_by old new kind)

-- what a change from one verdict to another does, if they differ in more than their places
abbrev pub change_between : Verdict → Verdict → Option Change
change_between old new = change_if old new (answer_between old new)

-- ---- What depends on notes. The verdicts are those where all noted conditions hold

-- the change of verdicts, if there is one; otherwise there may be a change, unless both policies say the same whichever noted
-- conditions hold
abbrev pub change_unless : Bool → Option Change → Option Change
change_unless same (Some c) = Some c
change_unless true None = None
change_unless false None = Some change.May

-- what happens to the request of an answer of the old policy, if anything does or may
abbrev pub change_to : Policy → Policy → KnownRows → Answer → Option Change
change_to old new d a = change_unless (same_cases (cases_of old d a.request) (cases_of new d a.request))
    (change_between a.verdict (verdict_of new d a.request))

-- the names of what the answers of both policies to a request depend on
abbrev pub request_depends : Policy → Policy → KnownRows → Request → List ℕ
request_depends old new d r = depends_text (notes_of old new (cases_of old d r) (cases_of new d r))

-- a grant of one of both policies stands for a note
abbrev pub are_noted : Policy → Policy → Bool
are_noted old new = list_any is_note_grant (grants old) || list_any is_note_grant (grants new)

-- a last field, where something is noted
abbrev pub last_field : Bool → List ℕ → List (List ℕ)
last_field noted text = if noted then text ∷ [] else []

-- ---- The table

abbrev pub change_name : Change → List ℕ
change_name change.Gained = codes "gained"
change_name change.GainedAndLost = codes "gained and lost"
change_name change.Lost = codes "lost"
change_name change.Other = codes "other"
change_name change.May = codes "may"

-- the first record: the names of the columns, the last one where something is noted
abbrev pub change_header : Bool → List (List ℕ)
change_header noted = codes "change" ∷ codes "sender" ∷ codes "number" ∷ codes "user" ∷ codes "host" ∷ codes "runas_user"
    ∷ codes "runas_group" ∷ codes "command" ∷ codes "arguments" ∷ codes "old_verdict" ∷ codes "new_verdict" ∷ codes "old_tags"
    ∷ codes "new_tags" ∷ codes "old_place" ∷ codes "new_place" ∷ last_field noted (codes "depends")

-- the fields of both verdicts; the files are those of each policy
abbrev pub verdicts_fields : List (List ℕ) → List (List ℕ) → Verdict → Verdict → List (List ℕ)
verdicts_fields old_files new_files old new = verdict_word old ∷ verdict_word new ∷ verdict_tags old ∷ verdict_tags new
    ∷ verdict_place old_files old ∷ verdict_place new_files new ∷ []

abbrev pub change_fields : List (List ℕ) → List (List ℕ) → List ℕ → Answer → Verdict → List (List ℕ) → Change → List (List ℕ)
change_fields old_files new_files sender a new last c = change_name c ∷ sender ∷ (asker_fields a.request ++ (asked_fields a.request
    ++ (verdicts_fields old_files new_files a.verdict new ++ last)))

-- the record of a change, if there is one
abbrev pub record_if : List (List ℕ) → List (List ℕ) → List ℕ → Answer → Verdict → List (List ℕ) → Option Change → List ℕ
record_if old_files new_files sender a new last None = []
record_if old_files new_files sender a new last (Some c) = line (change_fields old_files new_files sender a new last c)

-- the record of an answer of the old policy, if the new one answers the request otherwise, or may do so
abbrev pub change_record : Policy → Policy → KnownRows → List ℕ → Answer → List ℕ
change_record old new d sender a = record_if old.files new.files sender a (verdict_of new d a.request)
    (last_field (are_noted old new) (request_depends old new d a.request)) (change_to old new d a)

-- the records of a sender, in the order of its requests
abbrev pub sender_changes : Policy → Policy → KnownRows → SenderReport → List ℕ
sender_changes old new d s = flat_map (change_record old new d s.name) s.answers

-- the header, and each sender's records, in the order of the roster of a report of the old policy
abbrev pub changes_text : Policy → Policy → KnownRows → Report → List ℕ
changes_text old new d r = line (change_header (are_noted old new)) ++ flat_map (sender_changes old new d) r.senders

-- the new policy answers the request of an answer otherwise, or may do so
abbrev pub is_changed : Policy → Policy → KnownRows → Answer → Bool
is_changed old new d a = is_some (change_to old new d a)

-- 5 if a request has a record, otherwise 0
abbrev pub changes_status : Policy → Policy → KnownRows → Report → ℕ
changes_status old new d r = if list_any (λ (s : SenderReport). list_any (is_changed old new d) s.answers) r.senders then 5 else 0

-- ---- The command

-- the input: that of a comparison, the names of the sources of requests, and the bytes ahead of their readers
pub record ChangeInputs : Type 1 where
  pub pair : PairInputs
  pub sources : List (List ℕ)
  pub readable_bytes : List (Option Ahead)

abbrev pub change_inputs : PairInputs → List (List ℕ) → List (Option Ahead) → ChangeInputs
change_inputs pair sources readable_bytes = record { pair = pair; sources = sources; readable_bytes = readable_bytes }

-- how many workers judge the requests
abbrev pub change_workers : ℕ
change_workers = 2

-- the output: the table of the requests of an audit under the old policy that the new one answers otherwise, or may answer
-- otherwise, and the lines of the cautions on each policy
pub record AreChanges (given : ChangeInputs) (text notice : List ℕ) (status : ℕ) : Type 0 where
  pub old : Policy
  pub new : Policy
  pub directory : KnownRows
  pub report : Report
  pub paired : IsPaired given.pair old new directory notice
  pub answers : Answers old directory given.sources given.readable_bytes change_workers (Ok report)
  pub text_is : text ≡ changes_text old new directory report
  pub status_is : status ≡ changes_status old new directory report

-- the requests are refused under the pair of policies
pub record AreNotAnswered (given : ChangeInputs) (fault : ReportFault) : Type 0 where
  pub old : Policy
  pub new : Policy
  pub directory : KnownRows
  pub notice : List ℕ
  pub paired : IsPaired given.pair old new directory notice
  pub unreported : IsUnreported old directory given.sources given.readable_bytes change_workers fault

-- why there is no such table: there is no pair, or the requests are refused
abbrev pub AreNoChanges : ChangeInputs → ReportFault → Type 0
AreNoChanges given (reports.Policy fault) = IsNotPaired given.pair (tables.Policy fault)
AreNoChanges given (reports.Directory fault) = IsNotPaired given.pair (tables.Directory fault)
AreNoChanges given (reports.Requests named) = AreNotAnswered given (reports.Requests named)
AreNoChanges given reports.Memory = ⊤
