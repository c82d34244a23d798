use Rattle.std.proofs.Common.{◌≡◌, ◌+◌, ◌*◌, ◌≤◌, [], ◌∷◌, length, take}
use Rattle.sudo_policy.specs.Body.Resolving.{rank}
use Rattle.std.specs.Prelude.{option_copied}
use Rattle.sudo_verdict.specs.Decided.{list_decision}
use Rattle.sudo_verdict.specs.Body.Recalling.{Recalls}
use Rattle.sudo_verdict.proofs.decision.+deciding.Given as goal

-- An alias's list is less deep than a list that names it.
abbrev pub decreases-decide : goal.decreases-decide
decreases-decide g l = 2 * rank l.kind l.lists.checked.now l.members.now + 1

abbrev pub decreases-decide_member : goal.decreases-decide_member
decreases-decide_member g l = 2 * rank l.kind l.lists.checked.now (l.member.now ∷ [])

-- the members from there on do not decide
abbrev pub invariant-decide-loop-end : goal.invariant-decide-loop-end
invariant-decide-loop-end g l = record {
  within : l.end ≤ length l.members;
  recalls : Recalls l.kind l.lists.checked.now (option_copied l.numbers) (g.S.Subject.fits l.subject) l.slots;
  same : list_decision l.kind l.lists.checked.now l.members (g.S.Subject.fits l.subject)
      ≡ list_decision l.kind l.lists.checked.now (take l.end l.members) (g.S.Subject.fits l.subject);
}

abbrev pub decreases-decide-loop-end : goal.decreases-decide-loop-end
decreases-decide-loop-end g l = l.end
