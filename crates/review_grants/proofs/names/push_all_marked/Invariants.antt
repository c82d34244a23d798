use Rattle.std.proofs.Common.{◌≡◌, ◌++◌, drop, flat_map, map, zip}
use Rattle.review_grants.specs.Body.Heads.{separated}
use Rattle.review_grants.proofs.names.push_all_marked.Given as goal

-- with the names that are left, the text is the whole
abbrev pub invariant-loop-mark : goal.invariant-loop-mark
invariant-loop-mark l = l.fn.text.items ++ flat_map separated (zip l.marks (map (λ v. v.items) l.names))
    ≡ l.text.items ++ flat_map separated (zip (drop l.mark-index l.marks) (map (λ v. v.items) l.left))
