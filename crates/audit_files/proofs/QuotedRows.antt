-- The text of a record, field by field.
use Rattle.std.proofs.Common.{◌≡◌, ◌<◌, ◌+◌, ◌∙◌, ℕ, suc, Bool, true, false, List, [], ◌∷◌, ◌++◌, length, drop}
use Rattle.std.proofs.Common.{get_or, refl, sym, ap, cond, add-one, append_assoc, append-nil, drop-cons}
use Rattle.std.specs.Prelude.{◌==◌}
use Rattle.std.proofs.lemmas.Bool.{ne_eqb}
use Rattle.csv.specs.Writing.{default_writer, escaped, field_text, fields_text, is_blank, row_text}

escaped-cons : (b : ℕ) (rest : List ℕ) → escaped default_writer (b ∷ rest) ≡ escaped default_writer (b ∷ []) ++ escaped default_writer rest
unfolding escaped
escaped-cons b rest = by (b == 34)
  where
    by : (is_quote : Bool)
        → cond is_quote (34 ∷ b ∷ escaped default_writer rest) (b ∷ escaped default_writer rest) ≡ cond is_quote
        (34 ∷ b ∷ []) (b ∷ []) ++ escaped default_writer rest
    by true = refl
    by false = refl

-- a quote is doubled, and another byte stands for itself
pub escaped_quote : (b : ℕ) → b ≡ 34 → escaped default_writer (b ∷ []) ≡ 34 ∷ 34 ∷ []
unfolding escaped
escaped_quote b e = rw e refl

pub escaped_other : (b : ℕ) → (b ≡ 34 → ⊥) → escaped default_writer (b ∷ []) ≡ b ∷ []
unfolding escaped
escaped_other b ne = let other : (b == 34) ≡ false = ne_eqb b 34 ne in rw other refl

-- one more byte of a field between quotes
pub escaped-next : (done field all : List ℕ) (i : ℕ) → i < length field → done ++ escaped default_writer (drop i field) ≡ all
    → (done ++ escaped default_writer (get_or field i 0 ∷ [])) ++ escaped default_writer (drop (i + 1) field) ≡ all
escaped-next done field all i h e =
    rw add-one
    (append_assoc done (escaped default_writer (get_or field i 0 ∷ [])) (escaped default_writer (drop (suc i) field))
    ∙ ap (λ (t : List ℕ). done ++ t) (sym (escaped-cons (get_or field i 0) (drop (suc i) field))
    ∙ ap (λ (t : List ℕ). escaped default_writer t) (sym (drop-cons field i 0 h)))
    ∙ e)

-- both quotes, and the bytes between them
pub between_quotes : (start field done : List ℕ) → done ++ escaped default_writer [] ≡ (start ++ 34 ∷ []) ++ escaped default_writer field
    → done ++ 34 ∷ [] ≡ start ++ 34 ∷ (escaped default_writer field ++ 34 ∷ [])
unfolding escaped
between_quotes start field done e =
    let same : done ≡ (start ++ 34 ∷ []) ++ escaped default_writer field = sym (append-nil done) ∙ e in
    rw same (simp append_assoc)

regrouped : (s a b c d e t : List ℕ) → (((((s ++ a) ++ b) ++ c) ++ d) ++ e) ++ t ≡ s ++ ((a ++ (b ++ (c ++ (d ++ (e ++ []))))) ++ t)
regrouped s a b c d e t = simp (append_assoc, append-nil)

-- a record of five fields
pub five_fields : (start a b c d e : List ℕ)
    → (((((start ++ field_text default_writer a) ++ 44 ∷ field_text default_writer b) ++ 44
    ∷ field_text default_writer c) ++ 44 ∷ field_text default_writer d) ++ 44 ∷ field_text default_writer e) ++ 10 ∷ []
    ≡ start ++ row_text default_writer (a ∷ b ∷ c ∷ d ∷ e ∷ [])
unfolding fields_text is_blank
five_fields start a b c d e =
    let text = λ (field : List ℕ). field_text default_writer field in
    regrouped start (text a) (44 ∷ text b) (44 ∷ text c) (44 ∷ text d) (44 ∷ text e) (10 ∷ [])
