use Rattle.std.proofs.Common.{◌≡◌, ◌+◌, ◌*◌, ◌≤◌, Bool, IsTrue, [], ◌∷◌, length}
use Rattle.sudo_grammar.specs.declared.kind.Atom.{Atom}
use Rattle.sudo_policy.specs.Resolving.{resolves}
use Rattle.sudo_policy.specs.Body.Resolving.{rank}
use Rattle.sudo_verdict.specs.Decided.{list_decision}
use Rattle.sudo_verdict.specs.Body.Postings.{Grows}
use Rattle.sudo_verdict.specs.Body.Silence.{IsSilent}
use Rattle.sudo_verdict.proofs.index.postings.Posting.+posting.Given as goal

-- An alias's list is less deep than a list that names it.
abbrev pub decreases-post_members : goal.decreases-post_members
decreases-post_members l = 2 * rank l.kind l.checked.now l.members.now + 1

abbrev pub decreases-post_member : goal.decreases-post_member
decreases-post_member l = 2 * rank l.kind l.checked.now (l.member.now ∷ [])

-- the members passed decide nothing for a test that no atom passes under which the rule stands
abbrev pub invariant-post_members-loop-member : goal.invariant-post_members-loop-member
invariant-post_members-loop-member l = record {
  count : length l.self.rows.rows.items ≡ length l.initial.self.rows.rows.items;
  grows : Grows l.initial.self.rows.rows.items l.self.rows.rows.items;
  resolve : IsTrue (resolves l.kind l.checked l.left);
  shallow : rank l.kind l.checked l.left ≤ rank l.kind l.checked l.members;
  same : (test : Atom → Bool) → IsSilent l.self.rows.rows.items l.rule test
      → list_decision l.kind l.checked l.members test ≡ list_decision l.kind l.checked l.left test;
}

abbrev pub decreases-post_members-loop-member : goal.decreases-post_members-loop-member
decreases-post_members-loop-member l = length l.left
