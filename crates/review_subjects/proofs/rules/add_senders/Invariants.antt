use Rattle.std.proofs.Common.{◌≡◌, ◌++◌, drop, flat_map}
use Rattle.review_subjects.specs.Body.Places.{allowed_place, denied_place}
use Rattle.review_subjects.specs.Counts.{sender_verdicts}
use Rattle.review_subjects.proofs.rules.add_senders.Given as goal

abbrev pub invariant-loop-sender : goal.invariant-loop-sender
invariant-loop-sender l = record {
  allowed : l.decided.allowed.items ++ flat_map allowed_place (flat_map sender_verdicts (drop l.sender-index l.senders))
      ≡ l.initial.decided.allowed.items ++ flat_map allowed_place (flat_map sender_verdicts l.senders);
  denied : l.decided.denied.items ++ flat_map denied_place (flat_map sender_verdicts (drop l.sender-index l.senders))
      ≡ l.initial.decided.denied.items ++ flat_map denied_place (flat_map sender_verdicts l.senders);
}
