-- Positions and answers of blocks with the same runas, one further.
use Rattle.std.proofs.Common.{◌≡◌, ◌<◌, ◌+◌, ◌∙◌, ◌⊎◌, inl, inr, ℕ, Bool, List}
use Rattle.std.proofs.Common.{[], ◌∷◌, ◌++◌, ap, arith, sym, subst, get_or, length, length-append}
use Rattle.std.proofs.lemmas.List.{get_or_append_left, get_or_push}
use Rattle.sudo_grammar.specs.declared.policy.Policy.{Policy}
use Rattle.sudo_verdict.specs.Questions.{Question}
use Rattle.review_compare.specs.declared.block.Block.{Block}
use Rattle.review_compare.specs.Body.Chosen.{runas_at}
use Rattle.review_compare.specs.Body.SameRunas.{AllowAlike, AreAnswers}
use Rattle.review_compare.proofs.UnchangedLemmas.{less-or}

pub firsts-more : (p : Policy) (bs : List Block) (is ns : List ℕ) (at first : ℕ) → length ns ≡ at →
    ((k : ℕ) → k < at → AllowAlike p bs is (get_or ns k k) k) → AllowAlike p bs is first at →
    (k : ℕ) → k < at + 1 → AllowAlike p bs is (get_or (ns ++ first ∷ []) k k) k
firsts-more p bs is ns at first long so_far one k less = go (less-or k at less)
  where
    go : (k < at) ⊎ (k ≡ at) → AllowAlike p bs is (get_or (ns ++ first ∷ []) k k) k
    go (inl before) =
        subst (λ (j : ℕ). AllowAlike p bs is j k) (sym (get_or_append_left ns (first ∷ []) k k (omega (arith, before, long))))
        (so_far k before)
    go (inr here) =
        subst (λ (j : ℕ). AllowAlike p bs is j k) (sym (get_or_push ns first k k (long ∙ sym here)))
        (subst (AllowAlike p bs is first) (sym here) one)

pub answers-more : (p : Policy) (bs : List Block) (q : Question) (is : List ℕ) (answers : List Bool) (at : ℕ) (b : Bool) →
    length answers ≡ at → AreAnswers p bs q is answers → b ≡ runas_at p bs q (get_or is at 0) → AreAnswers p bs q is (answers ++ b ∷ [])
answers-more p bs q is answers at b long so_far one k d less = go (less-or k (length answers) (omega (arith, less, more)))
  where
    more : length (answers ++ b ∷ []) ≡ length answers + 1
    more = length-append answers (b ∷ [])

    go : (k < length answers) ⊎ (k ≡ length answers) → get_or (answers ++ b ∷ []) k d ≡ runas_at p bs q (get_or is k 0)
    go (inl before) = get_or_append_left answers (b ∷ []) d k before ∙ so_far k d before
    go (inr here) = get_or_push answers b d k (sym here) ∙ one ∙ ap (λ (j : ℕ). runas_at p bs q (get_or is j 0)) (sym (here ∙ long))

-- the answer of a block with the same runas is the answer of this one
pub answer-alike : (p : Policy) (bs : List Block) (q : Question) (is ns : List ℕ) (answers : List Bool) (at : ℕ) (b : Bool) →
    AllowAlike p bs is (get_or ns at at) at → AreAnswers p bs q is answers → get_or ns at at < length answers →
    b ≡ get_or answers (get_or ns at at) b → b ≡ runas_at p bs q (get_or is at 0)
answer-alike p bs q is ns answers at b alike are less known = known ∙ are (get_or ns at at) b less ∙ alike q
