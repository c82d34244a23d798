use Rattle.std.proofs.Common.{◌≡◌, ◌++◌, drop}
use Rattle.std.specs.Prelude.{flat_map}
use Rattle.sudo_policy.specs.Definitions.{alias_named, list_view}
use Rattle.sudo_policy.specs.Body.Judgement.{atom_missing, missing_in}
use Rattle.sudo_policy.proofs.examination.push_uses.Given as goal

abbrev pub invariant-loop-member : goal.invariant-loop-member
invariant-loop-member l = l.findings.items ++ flat_map (λ m. atom_missing l.index l.list.kind l.list.place
    (alias_named m.atom)) (drop l.member-index l.list.members.now) ≡ l.initial.findings.items ++ missing_in l.index (list_view l.list)
