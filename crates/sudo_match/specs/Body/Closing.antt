-- The meaning of the known positions of unclosed brackets; only proofs of bodies need these definitions.
use Rattle.std.specs.Prelude.{◌≡◌, ℕ, ◌+◌, true, false, List, drop, None}
use Rattle.sudo_text.specs.declared.token.Ch.{Ch}
use Rattle.sudo_match.specs.declared.unclosed.Unclosed.{Unclosed}
use Rattle.sudo_match.specs.Pattern.{items_after}

-- no bracket with an item at this index, other than its first item, is closed
unfoldable pub NeverCloses : List Ch → ℕ → Type 0
NeverCloses cs n = items_after 0 false (drop n cs) ≡ None

-- each flagged position is that of an unclosed bracket
pub record Knows (cs : List Ch) (u : Unclosed) : Type 0 where
  pub first : u.first ≡ true → NeverCloses cs u.at
  pub second : u.second ≡ true → NeverCloses cs (u.at + 1)
  pub third : u.third ≡ true → NeverCloses cs (u.at + 2)
