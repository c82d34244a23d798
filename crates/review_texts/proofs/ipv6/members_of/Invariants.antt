use Rattle.std.proofs.Common.{◌≡◌, [], length}
use Rattle.std.specs.Prelude.{fold, map}
use Rattle.review_texts.specs.Netgroups.{host_text, with_member}
use Rattle.review_texts.proofs.ipv6.members_of.Given as goal

abbrev pub invariant-loop-host : goal.invariant-loop-host
invariant-loop-host l =
    fold (with_member l.fn.sign) l.list (map host_text l.left) ≡ fold (with_member l.fn.sign) [] (map host_text l.fn.hosts)

abbrev pub decreases-loop-host : goal.decreases-loop-host
decreases-loop-host l = length l.left
