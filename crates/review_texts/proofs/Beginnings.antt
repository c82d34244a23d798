-- Texts that no word begins.
use Rattle.std.proofs.Common.{◌≡◌, ℕ, Bool, true, false, List, [], ◌∷◌, refl, sym, ◌∙◌, ap}
use Rattle.std.specs.Prelude.{◌&&◌, ◌||◌, ◌==◌, ⊤, codes, nat_eq, slice_index}
use Rattle.std.specs.List.{list_any, starts_with}
use Rattle.std.proofs.lemmas.List.Folds.{list_any-append}
use Rattle.review_texts.specs.Body.Beginnings.{begins_as, begin_word, letter_words}
use Rattle.review_texts.specs.Words.{begins_word, is_plus_or_caret, words}

apart : (p q more : Bool) → (p && q) ≡ false → (p && (q && more)) ≡ false
apart true true more none = absurd cc
apart true false more none = refl
apart false q more none = refl

ends : (p : Bool) → (p && false) ≡ false
ends true = refl
ends false = refl

or_left : (p q : Bool) → (p || q) ≡ false → p ≡ false
or_left true q none = absurd cc
or_left false q none = refl

or_right : (p q : Bool) → (p || q) ≡ false → q ≡ false
or_right true q none = absurd cc
or_right false q none = none

or_none : (p q : Bool) → p ≡ false → q ≡ false → (p || q) ≡ false
or_none true q left right = absurd cc
or_none false q left right = right

-- the list has words of at least two bytes
abbrev AreLong : List (List ℕ) → Type 0
AreLong [] = ⊤
AreLong ([] ∷ ws) = ⊥
AreLong ((a ∷ []) ∷ ws) = ⊥
AreLong ((a ∷ b ∷ more) ∷ ws) = AreLong ws

one_none : (first : ℕ) (rest : List ℕ) (a b : ℕ) (more : List ℕ) → begins_as first (slice_index rest 0) (a ∷ b ∷ more) ≡ false
    → starts_with nat_eq (first ∷ rest) (a ∷ b ∷ more) ≡ false
one_none first [] a b more none = ends (nat_eq a first)
one_none first (second ∷ rest) a b more none = apart (nat_eq a first) (nat_eq b second) _ none

all_none : (first : ℕ) (rest : List ℕ) (ws : List (List ℕ)) → AreLong ws
    → list_any (begins_as first (slice_index rest 0)) ws ≡ false → list_any (starts_with nat_eq (first ∷ rest)) ws ≡ false
all_none first rest [] long none = refl
all_none first rest ([] ∷ ws) long none = absurd long
all_none first rest ((a ∷ []) ∷ ws) long none = absurd long
all_none first rest ((a ∷ b ∷ more) ∷ ws) long none =
    let here = or_left (begins_as first (slice_index rest 0) (a ∷ b ∷ more)) (list_any (begins_as first (slice_index rest 0)) ws) none in
    let there = or_right (begins_as first (slice_index rest 0) (a ∷ b ∷ more)) (list_any (begins_as first (slice_index rest 0)) ws) none in
    or_none (starts_with nat_eq (first ∷ rest) (a ∷ b ∷ more)) (list_any (starts_with nat_eq (first ∷ rest)) ws)
    (one_none first rest a b more here) (all_none first rest ws long there)

-- A text of whose first two bytes no word begins.
pub no_word_at : (first : ℕ) (rest text : List ℕ) → text ≡ first ∷ rest → begin_word first (slice_index rest 0) ≡ false
    → begins_word text ≡ false
no_word_at first rest text is none =
    let none_as = or_left (list_any (begins_as first (slice_index rest 0)) words) (is_plus_or_caret first) none in
    let no_sign = or_right (list_any (begins_as first (slice_index rest 0)) words) (is_plus_or_caret first) none in
    ap begins_word is ∙ or_none (list_any (starts_with nat_eq (first ∷ rest)) words) (is_plus_or_caret first)
    (all_none first rest words tt none_as) no_sign

-- The words with a letter, and the two with a percent sign.
no_more : (p q : Bool) → (p || (q || false)) ≡ (p || q)
no_more true q = refl
no_more false true = refl
no_more false false = refl

pub cut_words : (text : List ℕ) → (list_any (starts_with nat_eq text) letter_words
    || (starts_with nat_eq text (codes "%:") || starts_with nat_eq text (codes "%h"))) ≡ list_any (starts_with nat_eq text) words
cut_words text =
    let whole = list_any-append (starts_with nat_eq text) letter_words (codes "%:" ∷ codes "%h" ∷ []) in
    let two = no_more (starts_with nat_eq text (codes "%:")) (starts_with nat_eq text (codes "%h")) in
    sym (whole ∙ ap (λ (b : Bool). list_any (starts_with nat_eq text) letter_words || b) two)
