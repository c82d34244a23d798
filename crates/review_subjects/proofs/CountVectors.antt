-- Worked examples of the counts of rules, each by computation.
use Rattle.std.proofs.Common.{◌≡◌, ℕ, List, [], ◌∷◌, map, None, refl}
use Rattle.std.specs.Prelude.{codes}
use Rattle.sudo_text.specs.Pieces.{plain}
use Rattle.sudo_grammar.specs.declared.kind.Atom.TheVariants as atoms
use Rattle.sudo_grammar.specs.declared.policy.CommandSpec.{CommandSpec}
use Rattle.sudo_grammar.specs.Tags.{pairs}
use Rattle.sudo_match.specs.declared.request.Tags.{Tags}
use Rattle.sudo_match.specs.declared.request.Verdict.{Verdict}
use Rattle.sudo_match.specs.declared.request.Verdict.TheVariants.{Allow, Deny, NoMatch}
use Rattle.sudo_policy.specs.Following.{reading_within}
use Rattle.sudo_policy.specs.Written.{written_form}
use Rattle.sudo_verdict.specs.Tagged.{tags_named, tags_before, tags_at, runas_before, runas_at}
use Rattle.sudo_verdict.specs.Grants.{place_grants, section_grants, grants}
use Rattle.audit_collect.specs.declared.arrival.Answer.{Answer}
use Rattle.audit_collect.specs.declared.report.Report.{Report}
use Rattle.review_subjects.specs.declared.rules.RuleCount.{RuleCount}
use Rattle.review_subjects.specs.Counts.{rule_counts}
use Rattle.review_subjects.proofs.SubjectVectors.{alice_runs, command, line, one, policy}

abbrev no_tags : Tags
no_tags = record { choices = map (λ q. None) pairs }

abbrev allowed : ℕ → Verdict
allowed n = Allow (line n) no_tags

abbrev answer : Verdict → Answer
answer v = record {
  sender = 0;
  request = record {
    number = 1;
    user = codes "alice";
    host = codes "web1";
    runas_user = None;
    runas_group = None;
    command = codes "/bin/ls";
    arguments = [];
  };
  verdict = v;
}

-- the answers of two senders
abbrev report : List Verdict → List Verdict → Report
report first second = record {
  senders = record { name = codes "web"; answers = map answer first } ∷ record { name = codes "ops"; answers = map answer second } ∷ [];
}

abbrev row : ℕ → ℕ → ℕ → ℕ → RuleCount
row n commands allowed denied = record { place = line n; commands = commands; allowed = allowed; denied = denied }

-- a rule with two commands, one with one, and one that decided nothing
counted :
    rule_counts (policy (alice_runs 1 (command None ∷ command None ∷ []) ∷ alice_runs 3 (command None ∷ [])
    ∷ alice_runs 7 (command None ∷ []) ∷ []) refl refl)
    (report (allowed 1 ∷ Deny (line 1) ∷ NoMatch ∷ []) (allowed 3 ∷ allowed 1 ∷ []))
    ≡ row 1 2 2 1 ∷ row 3 1 1 0 ∷ row 7 1 0 0 ∷ []
unfolding reading_within written_form tags_named tags_before tags_at runas_before runas_at place_grants section_grants grants
counted = refl

-- two rules with one place have one row
merged :
    rule_counts (policy (alice_runs 1 (command None ∷ []) ∷ alice_runs 2 (command None ∷ [])
    ∷ alice_runs 1 (command None ∷ command None ∷ []) ∷ []) refl refl) (report (allowed 1 ∷ []) [])
    ≡ row 1 3 1 0 ∷ row 2 1 0 0 ∷ []
unfolding reading_within written_form tags_named tags_before tags_at runas_before runas_at place_grants section_grants grants
merged = refl

-- the command that stands for a digest
abbrev digest : CommandSpec
digest = record { runas = None; tags = []; command = one (atoms.Command (map plain (codes "/d[z-a]")) None) }

-- a rule whose second command has a digest, and one whose only command stands for it
noted :
    rule_counts (policy (alice_runs 1 (command None ∷ digest ∷ command None ∷ []) ∷ alice_runs 2 (digest ∷ []) ∷ []) refl refl)
    (report (allowed 1 ∷ []) [])
    ≡ row 1 2 1 0 ∷ row 2 0 0 0 ∷ []
unfolding reading_within written_form tags_named tags_before tags_at runas_before runas_at place_grants section_grants grants
noted = refl
