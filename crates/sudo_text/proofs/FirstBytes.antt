-- A word that does not begin with `s` is not `sudoedit`.
use Rattle.std.proofs.Common.{◌≡◌, ℕ, ◌+◌, List, [], ◌∷◌, length, drop, get_or, false, refl, ◌∙◌, ap, arith, get_or-drop}
use Rattle.std.specs.Prelude.{Bool, true, ◌==◌, ◌&&◌, nat_eq, nat_le, codes, slice_index}
use Rattle.std.specs.List.{starts_with}
use Rattle.std.proofs.lemmas.Bool.Decides.{nat_tests}
use Rattle.sudo_text.specs.declared.rules.LineKind.{LineKind}
use Rattle.sudo_text.specs.Rules.{is_sudoedit}

begins_otherwise : (xs : List ℕ) → (get_or xs 0 0 == 115) ≡ false → starts_with nat_eq xs (codes "sudoedit") ≡ false
begins_otherwise [] h = refl
begins_otherwise (b ∷ rest) h = grind (arith, nat_tests)

first_is : (text : List ℕ) (at : ℕ) → get_or (drop at text) 0 0 ≡ get_or text at 0
first_is text at =
    let moved : at + 0 ≡ at = omega arith in
    get_or-drop at text 0 0 ∙ ap (λ n. get_or text n 0) moved

and_false_between : (a b c : Bool) → b ≡ false → (a && b && c) ≡ false
and_false_between true b c h = rw h refl
and_false_between false b c h = refl

pub not_sudoedit : (kind : LineKind) (text : List ℕ) (at : ℕ) → (slice_index text at == 115) ≡ false → is_sudoedit kind text at ≡ false
unfolding is_sudoedit
not_sudoedit kind text at h =
    and_false_between (nat_le (at + 8) (length text)) _ _
    (begins_otherwise (drop at text) (ap (λ n. n == 115) (first_is text at) ∙ h))
