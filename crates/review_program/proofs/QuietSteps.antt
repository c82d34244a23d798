-- A comparison without a record: nothing changes.
use Rattle.std.proofs.Common.{◌≡◌, ◌<◌, ◌∙◌, ℕ, Bool, true, false, List, [], ◌∷◌, Option, Some, None, ap, arith, inl, inr, length, refl}
use Rattle.std.proofs.Common.{subst, sym}
use Rattle.std.specs.Prelude.{◌||◌, if◌then◌else◌}
use Rattle.std.specs.List.{list_any}
use Rattle.sudo_grammar.specs.declared.policy.Policy.{Policy}
use Rattle.sudo_verdict.specs.Questions.{Question}
use Rattle.review_compare.specs.Differences.{Asking, Finds, FoundIf, SameIf, is_asked, question_at}
use Rattle.review_compare.specs.declared.cell.Cell.{Cell}
use Rattle.review_compare.specs.declared.compared.Compared.{Compared}
use Rattle.review_compare.specs.declared.compared.Compared.TheVariants as compared
use Rattle.review_compare.specs.declared.row.Row.{Row}
use Rattle.review_compare.specs.declared.witness.Witness.{Witness}
use Rattle.review_roots.specs.KnownGroups.{known_groups}
use Rattle.review_program.specs.Comparing.{QuietSaysSame, are_shown, is_shown}

neither : (a b : Bool) → (a || b) ≡ false → (a ≡ false) × (b ≡ false)
neither false false e = (refl, refl)
neither false true e = absurd cc
neither true b e = absurd cc

none-of : (b : Bool) (status : ℕ) → status ≡ 0 → status ≡ (if b then 5 else 0) → b ≡ false
none-of true status zero e = absurd (omega (arith, zero, e))
none-of false status zero e = refl

unshown : (asks : Asking) (rows : List Row) (c : Cell) (f : Compared) → list_any (λ (r : Row). is_shown r.found) rows ≡ false →
    Finds asks rows c f → is_shown f ≡ false
unshown asks [] c f none finds = absurd finds
unshown asks (r ∷ rows) c f none finds =
    let both = neither (is_shown r.found) (list_any (λ (r : Row). is_shown r.found) rows) none in
    elim finds [
      | inl here ↦ subst (λ (g : Compared). is_shown g ≡ false) here.1 both.0
      | inr more ↦ unshown asks rows c f both.1 more
    ]

some-shown : (ws : List Witness) → 0 < length ws → are_shown ws ≡ false → ⊥
some-shown [] some none = absurd (omega (arith, some))
some-shown (w ∷ ws) some none = absurd cc

found-same : (old new : Policy) (o : Option Question) (f : Compared) → FoundIf old new o f → is_shown f ≡ false → SameIf old new o
found-same old new None f found none = tt
found-same old new (Some q) compared.Same found none = found
found-same old new (Some q) (compared.Differs ws) found none = absurd (some-shown ws found.0 none)
found-same old new (Some q) (compared.May before after) found none = absurd cc

pub quiet-says-same : QuietSaysSame
quiet-says-same person machine old new d text c made asked =
    let none = none-of (list_any (λ (r : Row). is_shown r.found) made.rows) 0 refl made.status_is in
    elim (made.are.complete c asked) [
      | inl same ↦ same
      | inr (f, finds) ↦ found-same old new (question_at d (known_groups d) c) f (made.are.right c f finds)
          (unshown (is_asked d (known_groups d)) made.rows c f none finds)
    ]
