-- The last grant that applies decides, where its rule has no note.
use Rattle.std.proofs.Common.{◌≡◌, ◌∙◌, Bool, true, false, cond, List, [], ◌∷◌, Option, Some, None, refl, ap, sym}
use Rattle.std.specs.Option.{option_or}
use Rattle.sudo_grammar.specs.declared.policy.Policy.{Policy}
use Rattle.sudo_verdict.specs.Grants.{Grant, applies, grants}
use Rattle.sudo_verdict.specs.Last.{last_that}
use Rattle.sudo_verdict.specs.Verdicts.{decided_by, verdict_by, verdict_if_any, verdict_on}
use Rattle.sudo_verdict.specs.Values.{is_all}
use Rattle.review_texts.specs.declared.note.Note.{Note}
use Rattle.review_texts.specs.declared.note.Note.TheVariants.{Digest, Time, Chroot, Regex}
use Rattle.review_grants.specs.Depends.{depends_at, depends_text, notes_at, verdict_depends}
use Rattle.review_grants.specs.Unnoted.{LastHolds, NoneHolds, VerdictHolds}

-- a test that holds only where another does holds of no item, if that one does not
none-stays : {X : Type 0} (f may : X → Bool) → ((x : X) → f x ≡ true → may x ≡ true) → (xs : List X)
    → last_that may xs ≡ None → last_that f xs ≡ None
none-stays f may below [] none = refl
none-stays {X} f may below (y ∷ ys) none =
    go (last_that may ys) refl (may y) refl (f y) refl none (λ is. none-stays f may below ys is)
  where
    go : (o : Option X) → last_that may ys ≡ o → (b : Bool) → may y ≡ b → (c : Bool) → f y ≡ c
        → option_or o (cond b (Some y) None) ≡ None → (last_that may ys ≡ None → last_that f ys ≡ None)
        → option_or (last_that f ys) (cond c (Some y) None) ≡ None
    go (Some z) is b might c does none rest = cc
    go None is true might c does none rest = cc
    go None is false might true does none rest = absurd (let h : may y ≡ true = below y does in cc)
    go None is false might false does none rest = ap (λ o. option_or o None) (rest is)

-- the last item of which the wider test holds, where the narrower holds of it too
last-stays : {X : Type 0} (f may : X → Bool) (xs : List X) (x : X) → ((y : X) → f y ≡ true → may y ≡ true)
    → (may x ≡ true → f x ≡ true) → last_that may xs ≡ Some x → last_that f xs ≡ Some x
last-stays f may [] x below sure last = cc
last-stays {X} f may (y ∷ ys) x below sure last =
    go (last_that may ys) refl (may y) refl last (λ is. last-stays f may ys x below sure is)
  where
    go : (o : Option X) → last_that may ys ≡ o → (b : Bool) → may y ≡ b → option_or o (cond b (Some y) None) ≡ Some x
        → (last_that may ys ≡ Some x → last_that f ys ≡ Some x) → last_that f (y ∷ ys) ≡ Some x
    go (Some z) is b might last rest =
        let same : z ≡ x = cc in
        ap (λ o. option_or o (cond (f y) (Some y) None)) (rest (is ∙ ap (λ v. Some v) same))
    go None is false might last rest = cc
    go None is true might last rest =
        let same : y ≡ x = cc in
        let passes : f y ≡ true = ap f same ∙ sure (ap may (sym same) ∙ might) in
        ap (λ o. option_or o (cond (f y) (Some y) None)) (none-stays f may below ys is)
        ∙ ap (λ b. cond b (Some y) None) passes ∙ ap (λ v. Some v) same

pub last_holds : LastHolds
last_holds p q f g fails last none =
    last-stays f (applies p q) (grants p) g fails.only (λ does. fails.unnoted g none does) last

pub none_holds : NoneHolds
none_holds p q f fails none = none-stays f (applies p q) fails.only (grants p) none

-- a text without a byte names nothing
no-name : (found : List Note) → depends_text found ≡ [] → found ≡ []
no-name [] h = refl
no-name (Digest ∷ found) h = cc
no-name (Time ∷ found) h = cc
no-name (Chroot ∷ found) h = cc
no-name (Regex ∷ found) h = cc

-- the verdict of a grant depends on what the grants at its place do
of-grant : (p : Policy) (g : Grant) → verdict_depends p (verdict_by g) ≡ depends_at p g.place
of-grant p g = go g.negated
  where
    go : (b : Bool) → verdict_depends p (decided_by g.place g.tags b (is_all g.atom)) ≡ depends_at p g.place
    go true = refl
    go false = refl

pub verdict_holds : VerdictHolds
unfolding verdict_on
verdict_holds p q f fails none = go (last_that (applies p q) (grants p)) refl none
  where
    go : (o : Option Grant) → last_that (applies p q) (grants p) ≡ o → verdict_depends p (verdict_if_any o) ≡ []
        → verdict_if_any (last_that f (grants p)) ≡ verdict_if_any (last_that (applies p q) (grants p))
    go None is depends = ap verdict_if_any (none_holds p q f fails is) ∙ sym (ap verdict_if_any is)
    go (Some g) is depends =
        let unnoted : notes_at p g.place ≡ [] = no-name (notes_at p g.place) (sym (of-grant p g) ∙ depends) in
        ap verdict_if_any (last_holds p q f g fails is unnoted) ∙ sym (ap verdict_if_any is)
