-- How many answers each rule decided. sudoers(5), "User Specification": the last match decides.
use Rattle.std.specs.Prelude.{◌≡◌, ℕ, ◌+◌, Bool, true, false, ◌&&◌, not, if◌then◌else◌, IsTrue, List, [], ◌∷◌, ◌++◌}
use Rattle.std.specs.Prelude.{map, flat_map, count_by, sum}
use Rattle.std.specs.List.{list_any, list_all}
use Rattle.sudo_text.specs.declared.line.Place.{Place}
use Rattle.sudo_grammar.specs.declared.policy.Entry.{Entry}
use Rattle.sudo_grammar.specs.declared.policy.EntryBody.{EntryBody}
use Rattle.sudo_grammar.specs.declared.policy.EntryBody.TheVariants.{Rule}
use Rattle.sudo_grammar.specs.declared.policy.Policy.{Policy}
use Rattle.sudo_match.specs.declared.request.Verdict.{Verdict}
use Rattle.sudo_match.specs.declared.request.Verdict.TheVariants.{Allow, Deny}
use Rattle.sudo_verdict.specs.Grants.{Grant, grants}
use Rattle.audit_collect.specs.declared.arrival.Answer.{Answer}
use Rattle.audit_collect.specs.declared.report.Report.{Report}
use Rattle.audit_collect.specs.declared.report.SenderReport.{SenderReport}
use Rattle.review_grants.specs.Depends.{is_note_grant, same_place}
use Rattle.review_subjects.specs.declared.rules.RuleCount.{RuleCount}

-- the place of an entry, if it is a rule
abbrev pub rule_place : Place → EntryBody → List Place
rule_place place (Rule users sections) = place ∷ []
rule_place place _ = []

-- the places of the rules of a policy, in order
abbrev pub rule_places : Policy → List Place
rule_places p = flat_map (λ (e : Entry). rule_place e.place e.body) p.entries

-- the places of the second list without those that stand before, there or in the first list
abbrev pub firsts : List Place → List Place → List Place
firsts earlier [] = []
firsts earlier (x ∷ xs) =
    if list_any (same_place x) earlier then firsts (earlier ++ x ∷ []) xs else x ∷ firsts (earlier ++ x ∷ []) xs

-- the verdicts of a report, in order
abbrev pub sender_verdicts : SenderReport → List Verdict
sender_verdicts s = map (λ (a : Answer). a.verdict) s.answers

abbrev pub verdicts : Report → List Verdict
verdicts r = flat_map sender_verdicts r.senders

-- the verdict is that a grant at the place allows
abbrev pub allows_at : Place → Verdict → Bool
allows_at place (Allow at tags) = same_place place at
allows_at place _ = false

-- the verdict is that a grant at the place denies
abbrev pub denies_at : Place → Verdict → Bool
denies_at place (Deny at) = same_place place at
denies_at place _ = false

-- the grant is a command of the rules at the place: it stands for no note
abbrev pub command_at : Place → Grant → Bool
command_at place g = same_place place g.place && not (is_note_grant g)

-- the row of the rules at a place: their written-out commands but the notes, and the answers that they allowed and denied
abbrev pub rule_count : Policy → List Verdict → Place → RuleCount
rule_count p vs place = record {
  place = place;
  commands = count_by (command_at place) (grants p);
  allowed = count_by (allows_at place) vs;
  denied = count_by (denies_at place) vs;
}

-- a row for each place of a rule, in the policy's order. Each file that is read has a number of its own, so two rules have
-- one place only in a policy that was not read from files
abbrev pub rule_counts : Policy → Report → List RuleCount
rule_counts p r = map (rule_count p (verdicts r)) (firsts [] (rule_places p))

-- ---- The law

-- the verdict allows or denies
abbrev pub is_decided : Verdict → Bool
is_decided (Allow at tags) = true
is_decided (Deny at) = true
is_decided _ = false

-- a verdict that allows or denies has the place of one of these rules
abbrev pub is_of_rule : List Place → Verdict → Bool
is_of_rule places (Allow at tags) = list_any (same_place at) places
is_of_rule places (Deny at) = list_any (same_place at) places
is_of_rule places _ = true

abbrev pub decided_at_row : RuleCount → ℕ
decided_at_row row = row.allowed + row.denied

-- the answers that the rows count are those that allow or deny
abbrev pub CountsAddUp : Type 0
CountsAddUp = (p : Policy) (r : Report) → IsTrue (list_all (is_of_rule (rule_places p)) (verdicts r))
    → sum (map decided_at_row (rule_counts p r)) ≡ count_by is_decided (verdicts r)
