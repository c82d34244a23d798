-- The tables of subjects and of rules.
use Rattle.std.specs.Prelude.{ℕ, List, [], ◌∷◌, ◌++◌, codes, decimal, flat_map}
use Rattle.audit_files.specs.Places.{place_text}
use Rattle.audit_files.specs.Report.{line}
use Rattle.sudo_grammar.specs.declared.policy.Policy.{Policy}
use Rattle.review_grants.specs.Depends.{depends_at}
use Rattle.review_subjects.specs.Kinds.{fault_name, kind_name}
use Rattle.review_subjects.specs.declared.rules.RuleCount.{RuleCount}
use Rattle.review_subjects.specs.declared.subject.Subject.{Subject}

-- the names of the columns of `subjects`
abbrev pub subjects_header : List (List ℕ)
subjects_header = codes "place" ∷ codes "kind" ∷ codes "name" ∷ codes "what" ∷ []

abbrev pub subject_fields : List (List ℕ) → Subject → List (List ℕ)
subject_fields files s = place_text files s.place ∷ kind_name s.kind ∷ s.name ∷ fault_name s.fault ∷ []

-- the header, and a record for each subject, in order
abbrev pub subjects_text : List (List ℕ) → List Subject → List ℕ
subjects_text files found = line subjects_header ++ flat_map (λ s. line (subject_fields files s)) found

-- 5 if there is a subject, otherwise 0
abbrev pub subjects_status : List Subject → ℕ
subjects_status [] = 0
subjects_status (s ∷ rest) = 5

-- the names of the columns of `rules`
abbrev pub rules_header : List (List ℕ)
rules_header =
    codes "place" ∷ codes "commands" ∷ codes "allowed" ∷ codes "denied" ∷ codes "depends" ∷ []

-- the fields of the row of a rule of a policy; what it depends on is what the grants at its place do
abbrev pub rule_fields : Policy → RuleCount → List (List ℕ)
rule_fields p row = place_text p.files row.place ∷ decimal row.commands ∷ decimal row.allowed
    ∷ decimal row.denied ∷ depends_at p row.place ∷ []

-- the header, and a record for each rule, in order
abbrev pub rules_text : Policy → List RuleCount → List ℕ
rules_text p rows = line rules_header ++ flat_map (λ row. line (rule_fields p row)) rows
