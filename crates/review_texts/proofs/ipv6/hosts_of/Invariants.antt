use Rattle.std.proofs.Common.{◌≡◌, [], length}
use Rattle.std.specs.Prelude.{fold}
use Rattle.review_texts.specs.Ipv6.{with_host}
use Rattle.review_texts.proofs.ipv6.hosts_of.Given as goal

abbrev pub invariant-loop-first : goal.invariant-loop-first
invariant-loop-first l = fold (with_host l.fn.member) l.hosts l.left ≡ fold (with_host l.fn.member) [] l.fn.known

abbrev pub decreases-loop-first : goal.decreases-loop-first
decreases-loop-first l = length l.left
