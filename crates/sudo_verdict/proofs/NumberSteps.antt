-- Numbers of names, of commands and of their beginnings, extended by one more byte.
use Rattle.std.proofs.Common.{◌≡◌, ℕ, ◌+◌, ◌%◌, ◌<◌, arith, Bool, true, false, cond, ◌||◌, List, [], ◌∷◌, length, refl, ap}
use Rattle.std.specs.Prelude.{◌*◌}
use Rattle.sudo_text.specs.declared.token.Ch.{Ch}
use Rattle.sudo_match.specs.Pattern.{is_plain}
use Rattle.sudo_verdict.specs.Numbers.{next_number, number_from, path_number_from}

pub numbered_next : (seed b : ℕ) (bs : List ℕ) → number_from seed (b ∷ bs) ≡ number_from ((seed * 31 + b) % 16384) bs
unfolding number_from
numbered_next seed b bs = refl

pub numbered_end : (seed : ℕ) (bs : List ℕ) → length bs ≡ 0 → number_from seed bs ≡ seed
unfolding number_from
numbered_end seed [] e = refl
numbered_end seed (b ∷ bs) e = cc

pub path-special :
    (folder : Bool) (number : ℕ) (c : Ch) (cs : List Ch) → (is_plain 42 c || (is_plain 63 c || is_plain 91 c)) ≡ true →
    path_number_from folder number (c ∷ cs) ≡ number
unfolding path_number_from
path-special folder number c cs e = ap (λ b. cond b number (path_number_from folder (next_number number c.byte) cs)) e

pub path-more :
    (folder : Bool) (number : ℕ) (c : Ch) (cs : List Ch) → (is_plain 42 c || (is_plain 63 c || is_plain 91 c)) ≡ false →
    path_number_from folder number (c ∷ cs) ≡ path_number_from folder (next_number number c.byte) cs
unfolding path_number_from
path-more folder number c cs e = ap (λ b. cond b number (path_number_from folder (next_number number c.byte) cs)) e

pub path-end : (folder : Bool) (number : ℕ) (cs : List Ch) → length cs ≡ 0
    → path_number_from folder number cs ≡ cond folder number (next_number number 6)
unfolding path_number_from
path-end folder number [] e = refl
path-end folder number (c ∷ cs) e = cc

pub numbered_below : (seed : ℕ) (bs : List ℕ) → seed < 16384 → number_from seed bs < 16384
unfolding number_from
numbered_below seed [] h = h
numbered_below seed (b ∷ bs) h = numbered_below (next_number seed b) bs (omega arith)
