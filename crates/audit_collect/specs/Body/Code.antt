-- The encoding by which a proof compares the states of senders. Only proofs of bodies use these.
use Rattle.std.specs.Prelude.{ℕ, List, Option, refl}
use Rattle.std.specs.Ordering.{nat_cmp}
use Rattle.std.specs.FinMap as map
use Rattle.std.specs.Coded.{Coded, code_by, coded×, coded_ℕ, coded_list, coded_option}
use Rattle.audit_collect.specs.declared.arrival.Answer.{Answer}
use Rattle.audit_collect.specs.contracts.arrival.Answer as answer
use Rattle.audit_collect.specs.SenderState.{SenderState}

abbrev pub answer_code : Coded Answer
answer_code = answer.the_row.coded

-- the state of a sender, encoded as its name, its entries and its close count
abbrev pub sender_state_code : Coded SenderState
sender_state_code =
    code_by (List ℕ × (map.FinMap nat_cmp Answer × Option ℕ))
    (coded× (coded_list coded_ℕ) (coded× (map.code coded_ℕ answer_code) (coded_option coded_ℕ)))
    (λ h. (h.name, (h.answers, h.close))) (λ p. record { name = p.0; answers = p.1.0; close = p.1.1 }) (λ _. refl)
