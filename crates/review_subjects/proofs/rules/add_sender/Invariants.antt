use Rattle.std.proofs.Common.{◌≡◌, ◌++◌, drop, flat_map, map}
use Rattle.audit_collect.specs.declared.arrival.Answer.{Answer}
use Rattle.review_subjects.specs.Body.Places.{allowed_place, denied_place}
use Rattle.review_subjects.proofs.rules.add_sender.Given as goal

abbrev pub invariant-loop-answer : goal.invariant-loop-answer
invariant-loop-answer l = record {
  allowed : l.decided.allowed.items ++ flat_map allowed_place (map (λ (a : Answer). a.verdict) (drop l.answer-index l.answer-items))
      ≡ l.initial.decided.allowed.items ++ flat_map allowed_place (map (λ (a : Answer). a.verdict) l.answer-items);
  denied : l.decided.denied.items ++ flat_map denied_place (map (λ (a : Answer). a.verdict) (drop l.answer-index l.answer-items))
      ≡ l.initial.decided.denied.items ++ flat_map denied_place (map (λ (a : Answer). a.verdict) l.answer-items);
}
