-- The value of a written-out list, from its last atom back.
use Rattle.std.proofs.Common.{◌≡◌, Bool, true, false, List, [], ◌∷◌, ◌++◌, Option, Some, None, refl, length}
use Rattle.std.specs.Prelude.{not, option_map}
use Rattle.sudo_grammar.specs.declared.kind.Atom.{Atom}
use Rattle.sudo_grammar.specs.declared.kind.Signed.{Signed}
use Rattle.sudo_verdict.proofs.Lasts.{last_that-append}
use Rattle.review_subjects.specs.Body.Written.{written_value}

sign : Option Signed → Option Bool
sign o = option_map (λ (s : Signed). not s.negated) o

module _ (test : Atom → Bool) (left rest : List Signed) (s : Signed) (is : left ≡ rest ++ s ∷ []) where
  pub value_found : test s.atom ≡ true → written_value left test ≡ Some (not s.negated)
  value_found fits = rw (is, last_that-append (λ (x : Signed). test x.atom) rest (s ∷ []), fits) refl

  pub value_back : test s.atom ≡ false → written_value left test ≡ written_value rest test
  value_back misses = rw (is, last_that-append (λ (x : Signed). test x.atom) rest (s ∷ []), misses) refl

pub value_end : (test : Atom → Bool) (left : List Signed) → length left ≡ 0 → written_value left test ≡ None
value_end test [] h = refl
value_end test (s ∷ ss) h = cc
