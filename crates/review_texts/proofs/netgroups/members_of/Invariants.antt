use Rattle.std.proofs.Common.{◌≡◌, [], length}
use Rattle.review_texts.proofs.MemberLists.{behind_all}
use Rattle.review_texts.proofs.netgroups.members_of.Given as goal

abbrev pub invariant-loop-triple : goal.invariant-loop-triple
invariant-loop-triple l =
    behind_all l.fn.sign l.fn.kind l.fn.name l.list l.left ≡ behind_all l.fn.sign l.fn.kind l.fn.name [] l.fn.triples

abbrev pub decreases-loop-triple : goal.decreases-loop-triple
decreases-loop-triple l = length l.left
