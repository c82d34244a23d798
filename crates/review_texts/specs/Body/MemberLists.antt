-- A step along the members of a netgroup; only proofs of bodies use it.
use Rattle.std.specs.Prelude.{ℕ, List, Option, None, Some}
use Rattle.review_texts.specs.Netgroups.{with_member}

-- a list with a further member, if there is one
abbrev pub with_member_if : List ℕ → List ℕ → Option (List ℕ) → List ℕ
with_member_if sign list None = list
with_member_if sign list (Some member) = with_member sign list member
