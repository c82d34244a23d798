use Rattle.std.proofs.Common.{◌≡◌, map, take}
use Rattle.review_roots.specs.Body.Naming.{user_list}
use Rattle.review_roots.proofs.naming.user_lists.Given as goal

abbrev pub invariant-loop-block : goal.invariant-loop-block
invariant-loop-block l = map (λ v. v.items) l.lists.items ≡ map (user_list l.checked) (take l.block-index l.blocks)
