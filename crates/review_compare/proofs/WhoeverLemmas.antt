-- What the runas of blocks answers to whoever asks.
use Rattle.std.proofs.Common.{◌≡◌, ◌<◌, ◌+◌, ◌∙◌, ◌⊎◌, inl, inr, ℕ, Bool, true, false, ◌&&◌, List, [], ◌∷◌, ◌++◌}
use Rattle.std.proofs.Common.{ap, arith, refl, subst, sym, get_or, length, length-append, unwrap_or, Option, Some, None}
use Rattle.std.specs.Prelude.{is_some}
use Rattle.std.proofs.lemmas.List.{get_or_append_left, get_or_push}
use Rattle.std.proofs.lemmas.Slice.Eq.{bytes_eq-Decides}
use Rattle.sudo_grammar.specs.declared.kind.Member.{Member}
use Rattle.sudo_grammar.specs.declared.policy.Policy.{Policy}
use Rattle.sudo_grammar.specs.declared.policy.Runas.{Runas}
use Rattle.sudo_match.specs.declared.people.Group.{Group}
use Rattle.sudo_match.specs.declared.people.Machine.{Machine}
use Rattle.sudo_match.specs.declared.people.Person.{Person}
use Rattle.sudo_match.specs.KnownRows.{KnownRows}
use Rattle.sudo_verdict.specs.Questions.{Question, question_as}
use Rattle.sudo_verdict.specs.RunasForms.{form_allows, group_allowed, is_same_user, runas_allows, target_value}
use Rattle.review_compare.specs.declared.block.Block.{Block}
use Rattle.review_compare.specs.Body.Chosen.{runas_at}
use Rattle.review_compare.specs.Body.SameRunas.{AreAnswers}
use Rattle.review_compare.specs.declared.cell.Ask.{Ask}
use Rattle.review_compare.specs.declared.pair.Pair.{Pair}
use Rattle.review_compare.specs.declared.spot.Listed.{Listed}
use Rattle.review_compare.specs.Differences.{known_at}
use Rattle.review_compare.specs.Body.Whoever.{AllowAlikeBelow, AllowsWhoever, AreAnswered, AreAnsweredBy, AreFormsAlike, HasForm}
use Rattle.review_compare.specs.Body.Whoever.{has_both_lists}
use Rattle.review_compare.proofs.UnchangedLemmas.{less-or}

-- a runas with both lists answers the same to the target and to another user: then it does to each
pub two-for-all : (p : Policy) (d : KnownRows) (t o : Person) (n k : Machine) (g : Option Group) (r : Runas) (a : Bool) →
    has_both_lists r ≡ true → is_same_user t o ≡ false → runas_allows p (question_as d t n (Some t) g) (Some r) ≡ a →
    runas_allows p (question_as d o k (Some t) g) (Some r) ≡ a → AllowsWhoever p d (Some t) g (Some r) a
unfolding runas_allows form_allows
two-for-all p d t o n k g r a both other own its u m = by r.users r.groups both own its
  where
    self : is_same_user t t ≡ true
    self = (bytes_eq-Decides t.name t.name).1 refl

    by : (us gs : Option (List Member)) → (is_some us && is_some gs) ≡ true → form_allows p (question_as d t n (Some t) g) us gs ≡ a →
        form_allows p (question_as d o k (Some t) g) us gs ≡ a → form_allows p (question_as d u m (Some t) g) us gs ≡ a
    by None gs e x y = cc
    by (Some us) None e x y = cc
    by (Some us) (Some gs) e x y = go (is_same_user t u) refl
      where
        answer : Bool → Bool
        answer b = unwrap_or (target_value p us t) (is_some g && b) && group_allowed p gs t g

        go : (b : Bool) → is_same_user t u ≡ b → answer (is_same_user t u) ≡ a
        go true same = ap answer (same ∙ sym self) ∙ x
        go false same = ap answer (same ∙ sym other) ∙ y

-- blocks that answer the same at the forms answer the same everywhere
pub answered-alike : (p : Policy) (bs : List Block) (q r : Question) (forms : List ℕ) (answers : List Bool) →
    length answers ≡ length forms → AreAnswers p bs q forms answers → AreAnswers p bs r forms answers → (i : ℕ) → HasForm p bs forms i →
    runas_at p bs q i ≡ runas_at p bs r i
answered-alike p bs q r forms answers long own its i (j, less, same) =
    let there : j < length answers = omega (arith, less, long) in
    sym (same q) ∙ sym (own j true there) ∙ its j true there ∙ same r

-- one form more
pub form-kept : (p : Policy) (bs : List Block) (forms : List ℕ) (i j : ℕ) → HasForm p bs forms i → HasForm p bs (forms ++ j ∷ []) i
form-kept p bs forms i j (k, less, same) = (
  k,
  omega (arith, less, length-append forms (j ∷ [])),
  λ q. ap (runas_at p bs q) (get_or_append_left forms (j ∷ []) 0 k less) ∙ same q,
)

pub form-last : (p : Policy) (bs : List Block) (forms : List ℕ) (i : ℕ) → HasForm p bs (forms ++ i ∷ []) i
form-last p bs forms i = (
  length forms,
  omega (arith, length-append forms (i ∷ [])),
  λ q. ap (runas_at p bs q) (get_or_push forms i 0 (length forms) refl),
)

-- the forms of one block more
pub forms-more : (p : Policy) (bs : List Block) (is forms more : List ℕ) (at : ℕ) →
    ((i : ℕ) → HasForm p bs forms i → HasForm p bs more i) → ((k : ℕ) → k < at → HasForm p bs forms (get_or is k 0)) →
    HasForm p bs more (get_or is at 0) → (k : ℕ) → k < at + 1 → HasForm p bs more (get_or is k 0)
forms-more p bs is forms more at kept so_far one k less = go (less-or k at less)
  where
    go : (k < at) ⊎ (k ≡ at) → HasForm p bs more (get_or is k 0)
    go (inl before) = kept (get_or is k 0) (so_far k before)
    go (inr here) = subst (λ (j : ℕ). HasForm p bs more (get_or is j 0)) (sym here) one

-- ---- Both policies

-- one pair of blocks more
pub alike-more : (p : Pair) (forms : Listed) (n : ℕ) → AllowAlikeBelow p forms n →
    ((q : Question) → runas_at p.old.checked.now p.old.blocks.items q (get_or forms.old.items n 0)
    ≡ runas_at p.new.checked.now p.new.blocks.items q (get_or forms.new.items n 0)) →
    AllowAlikeBelow p forms (n + 1)
alike-more p forms n so_far one q k less = go (less-or k n less)
  where
    go : (k < n) ⊎ (k ≡ n) → runas_at p.old.checked.now p.old.blocks.items q (get_or forms.old.items k 0)
        ≡ runas_at p.new.checked.now p.new.blocks.items q (get_or forms.new.items k 0)
    go (inl before) = so_far q k before
    go (inr here) =
        ap (λ (j : ℕ). runas_at p.old.checked.now p.old.blocks.items q (get_or forms.old.items j 0)) here ∙ one q
        ∙ sym (ap (λ (j : ℕ). runas_at p.new.checked.now p.new.blocks.items q (get_or forms.new.items j 0)) here)

-- blocks that allow the same answer the same
pub answers-alike : (p : Pair) (forms : Listed) (a : Ask) (old new : List Bool) → AreFormsAlike p forms → new ≡ old →
    AreAnsweredBy p.old.checked.now p.old.blocks.items p.directory.now (known_at p.directory.now.people a.target)
    (known_at p.groups.now a.group) forms.old.items old →
    AreAnswered p forms a old new
answers-alike p forms a old new alike same own =
    subst (AreAnswered p forms a old) (sym same) (record {
      in_old = own;
      in_new = record {
        long = own.long ∙ alike.long;
        are = λ u m k d less.
            own.are u m k d less
            ∙ alike.each (question_as p.directory.now u m (known_at p.directory.now.people a.target) (known_at p.groups.now a.group)) k
            (omega (arith, less, own.long));
      };
    })
