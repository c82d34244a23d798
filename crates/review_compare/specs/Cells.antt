-- What two policies say to each command of a cell: a user on a host who asks for a target and a group, if any.
-- sudoers(5), "User Specification": where several rows match, the last one is used. What is noted may be met or not.
use Rattle.std.specs.Prelude.{◌≡◌, ℕ, Bool, true, false, ◌&&◌, ◌||◌, if◌then◌else◌, List, [], ◌∷◌, ◌++◌, filter, map, Option, Some, None}
use Rattle.std.specs.List.{list_any}
use Rattle.sudo_text.specs.declared.line.Place.{Place}
use Rattle.sudo_grammar.specs.declared.kind.Atom.{Atom}
use Rattle.sudo_grammar.specs.declared.kind.Member.{Member}
use Rattle.sudo_grammar.specs.declared.policy.Policy.{Policy}
use Rattle.sudo_grammar.specs.declared.policy.Runas.{Runas}
use Rattle.sudo_match.specs.declared.request.Tags.{Tags}
use Rattle.sudo_match.specs.declared.request.Verdict.{Verdict}
use Rattle.sudo_match.specs.declared.request.Verdict.TheVariants.{Allow, Deny, NoMatch}
use Rattle.sudo_verdict.specs.Last.{last_that}
use Rattle.sudo_verdict.specs.Tagged.{tags_given}
use Rattle.sudo_verdict.specs.Values.{is_all, host_allowed, user_allowed}
use Rattle.sudo_verdict.specs.RunasForms.{runas_allows}
use Rattle.sudo_verdict.specs.Questions.{Question}
use Rattle.sudo_verdict.specs.Grants.{Grant, grants}
use Rattle.sudo_verdict.specs.Verdicts.{verdict_on}
use Rattle.review_grants.specs.Depends.{is_note_grant}
use Rattle.review_grants.specs.Targets.{allowed, with_command}
use Rattle.review_compare.specs.declared.answer.Answer.{Answer}
use Rattle.review_compare.specs.declared.answer.Answer.TheVariants as answer
use Rattle.review_compare.specs.Agreement.{Ruling, Tests, agree}
use Rattle.review_compare.specs.Compared.{said, same_answer}
use Rattle.review_compare.specs.Lines.{Choice, Line, Lined, all_met, at_line, fits_where, is_note_atom, is_unnoted, noted, nowhere}
use Rattle.review_compare.specs.Simply.{covers_simply, disjoint_simply, same_command, same_commands}

-- a row: to the commands that its atom fits it answers with its tags, or with a refusal; with what stands before the atom in its
-- line, where a note is among that
pub record Decider : Type 0 where
  pub place : Place
  pub answer : Option Tags
  pub before : List Atom
  pub atom : Atom

-- a grant: whom it is for, where, as whom, and what it answers
pub record Wide : Type 0 where
  pub users : List Member
  pub hosts : List Member
  pub runas : Option Runas
  pub decider : Decider

-- before it nothing stands, as far as it says
abbrev pub wide_of : Grant → Wide
wide_of g = record {
  users = g.users;
  hosts = g.hosts;
  runas = g.runas;
  decider = record {
    place = g.place;
    answer = if g.negated then None else Some (tags_given (is_all g.atom) g.tags);
    before = [];
    atom = g.atom;
  };
}

abbrev pub with_before : List Atom → Wide → Wide
with_before before w = record {
  users = w.users;
  hosts = w.hosts;
  runas = w.runas;
  decider = record { place = w.decider.place; answer = w.decider.answer; before = before; atom = w.decider.atom };
}

-- the line behind a further row
abbrev pub line_after : Line → Wide → Line
line_after l w = record { place = w.decider.place; atoms = at_line l w.decider.place ++ w.decider.atom ∷ [] }

-- the row with what stands before it in the line; a note is no row
abbrev pub lined_one : Line → Wide → List Wide
lined_one l w = if is_note_atom w.decider.atom then [] else with_before (noted (at_line l w.decider.place)) w ∷ []

-- rows in file order, each with what stands before it in its line
abbrev pub lined : Line → List Wide → List Wide
lined l [] = []
lined l (w ∷ ws) = lined_one l w ++ lined (line_after l w) ws

-- the rows of a policy: its grants without the notes
abbrev pub policy_rows : Policy → List Wide
policy_rows p = lined nowhere (map wide_of (grants p))

-- the row's lists allow the user and the host, and its runas the target and the group
abbrev pub wide_stands : Policy → Question → Wide → Bool
wide_stands p q w = (user_allowed p w.users q.user && host_allowed p w.hosts q.host) && runas_allows p q w.runas

-- the rows of the user on the host whose runas allows the target and the group
abbrev pub deciders : Policy → Question → List Decider
deciders p q = map (λ w. w.decider) (filter (wide_stands p q) (policy_rows p))

-- the command of a row, with what stands before it
abbrev pub lined_of : Decider → Lined
lined_of d = record { before = d.before; atom = d.atom }

abbrev pub answered_by : Place → Option Tags → Verdict
answered_by place None = Deny place
answered_by place (Some tags) = Allow place tags

abbrev pub answered_if_any : Option Decider → Verdict
answered_if_any None = NoMatch
answered_if_any (Some d) = answered_by d.place d.answer

-- the last that applies to the command answers, where this is met
abbrev pub verdict_among : Choice → List Decider → List ℕ → List ℕ → Verdict
verdict_among met ds command arguments = answered_if_any (last_that (λ d. fits_where met command arguments (lined_of d)) ds)

-- the verdict on a command of the cell, where this is met
abbrev pub verdict_where : Choice → Policy → Question → List ℕ → List ℕ → Verdict
verdict_where met p q command arguments = verdict_among met (deciders p q) command arguments

-- ---- What a change does

abbrev pub same_said : Option (Option Tags) → Option (Option Tags) → Bool
same_said None None = true
same_said (Some a) (Some b) = same_answer a b
same_said _ _ = false

-- what the change from one verdict to another is called
abbrev pub change_of : Bool → Bool → Answer
change_of false true = answer.Gained
change_of true false = answer.Lost
change_of _ _ = answer.Other

-- what the change of a verdict does, if both do not say the same
abbrev pub answer_between : Verdict → Verdict → Option Answer
answer_between old new = if same_said (said old) (said new) then None else Some (change_of (allowed old) (allowed new))

-- whichever noted conditions hold, both policies say the same to every command of the cell, with any arguments: leave with the
-- same tags, a refusal, or nothing
abbrev pub SaySame : Policy → Policy → Question → Type 0
SaySame old new q = (met : Choice) (command arguments : List ℕ) →
    said (verdict_where met old q command arguments) ≡ said (verdict_where met new q command arguments)

-- ---- The test of rows

abbrev pub ruling_by : Decider → Ruling Lined (Option Tags)
ruling_by d = record { atom = lined_of d; answer = d.answer }

-- both commands are written alike, and so is what stands before them
abbrev pub same_lined : Lined → Lined → Bool
same_lined k a = same_command k.atom a.atom && same_commands k.before a.before

-- the first command applies wherever the second does: no note precedes it, or it is the same command behind the same ones
abbrev pub covers_where : Lined → Lined → Bool
covers_where k a = covers_simply k.atom a.atom && (is_unnoted k.before || same_lined k a)

abbrev pub simple_tests : Tests Lined (Option Tags)
simple_tests = record { covers = covers_where; disjoint = λ a b. disjoint_simply a.atom b.atom; same = same_answer }

-- the rows of one policy agree with those of another, by tests on pairs of their atoms
abbrev pub rows_agree : List Decider → List Decider → Bool
rows_agree ds es = agree simple_tests (map ruling_by ds) (map ruling_by es)

-- the verdict on a command is that of the last row for the target that fits it: the case in which all is met
abbrev pub RowsDecide : Type 0
RowsDecide = (p : Policy) (q : Question) (command arguments : List ℕ) →
    verdict_on p (with_command q command arguments) ≡ verdict_where all_met p q command arguments

-- where no grant of a policy stands for a note, its verdicts are the same whichever conditions hold
abbrev pub NothingDepends : Type 0
NothingDepends = (p : Policy) → list_any is_note_grant (grants p) ≡ false → (q : Question) (met : Choice) (command arguments : List ℕ) →
    verdict_where met p q command arguments ≡ verdict_on p (with_command q command arguments)

-- policies that say the same whichever noted conditions hold do so where all hold: so do the verdicts on requests
abbrev pub RequestsAnsweredSame : Type 0
RequestsAnsweredSame = (old new : Policy) (q : Question) → SaySame old new q → (command arguments : List ℕ) →
    said (verdict_on old (with_command q command arguments)) ≡ said (verdict_on new (with_command q command arguments))

-- rows that agree say the same to every command, whichever noted conditions hold
abbrev pub AgreeingRowsSaySame : Type 0
AgreeingRowsSaySame = (old new : Policy) (q : Question) → rows_agree (deciders old q) (deciders new q) ≡ true → SaySame old new q
