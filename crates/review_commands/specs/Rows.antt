-- The text of a report with the request beside each answer.
use Rattle.std.specs.Prelude.{ℕ, List, [], ◌∷◌, ◌++◌, codes, decimal, flat_map, unwrap_or}
use Rattle.audit_collect.specs.declared.arrival.Answer.{Answer}
use Rattle.audit_collect.specs.declared.report.Report.{Report}
use Rattle.audit_collect.specs.declared.report.SenderReport.{SenderReport}
use Rattle.audit_files.specs.Report.{line, verdict_place, verdict_tags, verdict_word}
use Rattle.sudo_grammar.specs.declared.policy.Policy.{Policy}
use Rattle.sudo_match.specs.declared.request.Request.{Request}
use Rattle.sudo_match.specs.declared.request.Verdict.{Verdict}
use Rattle.review_grants.specs.Depends.{verdict_depends}

-- the first record: the names of the columns
abbrev pub header : List (List ℕ)
header = codes "sender" ∷ codes "number" ∷ codes "user" ∷ codes "host" ∷ codes "runas_user" ∷ codes "runas_group"
    ∷ codes "command" ∷ codes "arguments" ∷ codes "verdict" ∷ codes "place" ∷ codes "tags" ∷ codes "depends" ∷ []

-- the number of a request, its user and its host
abbrev pub asker_fields : Request → List (List ℕ)
asker_fields r = decimal r.number ∷ r.user ∷ r.host ∷ []

-- what a request asks for: a target and a group, each empty if none is asked for, a command and its arguments
abbrev pub asked_fields : Request → List (List ℕ)
asked_fields r = unwrap_or r.runas_user [] ∷ unwrap_or r.runas_group [] ∷ r.command ∷ r.arguments ∷ []

-- the fields of a verdict under a policy, with what it depends on
abbrev pub verdict_fields : Policy → Verdict → List (List ℕ)
verdict_fields p v = verdict_word v ∷ verdict_place p.files v ∷ verdict_tags v ∷ verdict_depends p v ∷ []

-- the fields of an answer's record
abbrev pub answer_fields : Policy → List ℕ → Answer → List (List ℕ)
answer_fields p sender a =
    sender ∷ (asker_fields a.request ++ (asked_fields a.request ++ verdict_fields p a.verdict))

-- one record for each answer of a sender, in order
abbrev pub sender_text : Policy → SenderReport → List ℕ
sender_text p s = flat_map (λ a. line (answer_fields p s.name a)) s.answers

-- the header, and each sender's records under a policy, in the order of the roster
abbrev pub report_text : Policy → Report → List ℕ
report_text p r = line header ++ flat_map (sender_text p) r.senders
