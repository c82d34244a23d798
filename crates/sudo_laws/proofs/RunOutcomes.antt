-- From each offset a run ends, or it has a flaw.
use Rattle.std.proofs.Common.{◌≡◌, ℕ, zero, suc, ◌+◌, ◌*◌, ◌<◌, ◌≤◌, true, false, not, ◌&&◌, ◌==◌, List, []}
use Rattle.std.proofs.Common.{◌∷◌, ◌++◌, length, drop, get_or, Some, refl, sym, ◌∙◌, ap, subst, inl, inr, arith, get_or-drop}
use Rattle.std.specs.Prelude.{◌⊎◌, nat_le, nat_lt}
use Rattle.std.proofs.lemmas.Bool.{and_parts, cases_lt, true≢false}
use Rattle.std.proofs.lemmas.Bool.Decides.{nat_tests}
use Rattle.sudo_laws.proofs.SpelledLemmas.{first_blank}
use Rattle.sudo_text.proofs.ClosingQuotes.{short}
use Rattle.sudo_text.proofs.RunCharacters.{choose, reach-push, run_ends}
use Rattle.sudo_text.specs.Bytes.{hex_value, is_blank, is_control, is_hex}
use Rattle.sudo_text.specs.Pieces.{Breaks, blanks_at, ends_run, escape_at, escaped, has_hex, hex_at, is_arguments, piece_at}
use Rattle.sudo_text.specs.Pieces.{plain, reach, run_end, skip}
use Rattle.sudo_text.specs.Tokens.{fault_of}
use Rattle.sudo_text.specs.declared.token.Ch.{Ch}

-- The styles of runs and their flaws are types of their crate alone: here they are what functions take.
abbrev pub Domain : {A B : Type 0} → (A → B) → Type 0
Domain {A = A} {B = B} f = A

abbrev pub Style : Type 0
Style = Domain is_arguments

abbrev pub Flaw : Type 0
Flaw = Domain (λ flaw. fault_of (record { file = 0; line = 0 }) flaw 0)

-- ---- One character

-- characters reach an offset
abbrev Reached : Style → List ℕ → ℕ → ℕ → List Ch → Type 0
Reached style text start at cs = reach style text start start cs ≡ Some at

-- why a run ends at an offset
abbrev pub Ends : Style → List ℕ → ℕ → ℕ → Type 0
Ends style text start at = (length text ≤ at) ⊎ ((ends_run style text start at ≡ true) ⊎ (is_arguments style ≡ true))

-- what is at an offset of a run: its end, a character, or a flaw
data Next (style : Style) (text : List ℕ) (start at : ℕ) : Type 0 where
  ends : Ends style text start at
      → ((cs : List Ch) → Reached style text start at cs → run_end style text start cs ≡ Some at) → Next style text start at
  char : (c : Ch) (n : ℕ) → at < n → at < length text
      → ((cs : List Ch) → Reached style text start at cs → Reached style text start n (cs ++ c ∷ [])) → Next style text start at
  breaks : (flaw : Flaw) (offset : ℕ)
      → ((cs : List Ch) → Reached style text start at cs → Breaks style text start flaw offset) → Next style text start at

long : (a b : ℕ) → nat_le a b ≡ true → a ≤ b
long a b h = grind (arith, nat_tests)

next_blank : (text : List ℕ) (at : ℕ) → is_blank (get_or text at 0) ≡ true → at < skip text at
next_blank text at blank =
    let moved : at + 0 ≡ at = omega arith in
    let head : get_or (drop at text) 0 0 ≡ get_or text at 0 = get_or-drop at text 0 0 ∙ ap (λ n. get_or text n 0) moved in
    let some = first_blank (drop at text) (ap is_blank head ∙ blank) in
    omega (arith, some)

escape_next : (style : Style) (text : List ℕ) (start at : ℕ) → at < length text
    → escape_at style text at ≡ piece_at style text start at → Next style text start at
unfolding escape_at hex_at
escape_next style text start at within is =
    let high : ℕ = get_or text (at + 2) 0 in
    let low : ℕ = get_or text (at + 3) 0 in
    choose (nat_le (length text) (at + 1)) _ _ _ is
    (λ w e. breaks _ at (λ cs h. record { chars = cs; end = at; reached = h; broken = sym e }))
    (λ w rest. choose (has_hex style && (get_or text (at + 1) 0 == 120)) _ _ _ rest
    (λ x hex. choose (nat_lt (at + 3) (length text) && is_hex high && is_hex low) _ _ _ hex
    (λ y e. char (escaped (hex_value high * 16 + hex_value low)) (at + 4) (omega arith) within
    (λ cs h. reach-push style text start start at (at + 4) cs _ h (sym e)))
    (λ y e. breaks _ at (λ cs h. record { chars = cs; end = at; reached = h; broken = sym e })))
    (λ x others. choose (is_control (get_or text (at + 1) 0)) _ _ _ others
    (λ y e. breaks _ (at + 1) (λ cs h. record { chars = cs; end = at; reached = h; broken = sym e }))
    (λ y e. char (escaped (get_or text (at + 1) 0)) (at + 2) (omega arith) within
    (λ cs h. reach-push style text start start at (at + 2) cs _ h (sym e)))))

blanks_next : (style : Style) (text : List ℕ) (start at : ℕ) → at < length text → is_arguments style ≡ true
    → is_blank (get_or text at 0) ≡ true → blanks_at text at ≡ piece_at style text start at → Next style text start at
unfolding blanks_at
blanks_next style text start at within style_is blank is =
    choose (nat_lt (skip text at) (length text) && not (ends_run _ text (skip text at) (skip text at))) _ _ _ is
    (λ w e. char (plain 32) (skip text at) (next_blank text at blank) within
    (λ cs h. reach-push style text start start at (skip text at) cs _ h (sym e)))
    (λ w e. ends (inr (inr style_is)) (λ cs h. run_ends style text start at cs h (sym e)))

next_at : (style : Style) (text : List ℕ) (start at : ℕ) → Next style text start at
unfolding piece_at
next_at style text start at =
    let byte : ℕ = get_or text at 0 in
    choose (nat_le (length text) at) _ _ (piece_at style text start at) refl
    (λ w e. ends (inl (long (length text) at w)) (λ cs h. run_ends style text start at cs h (sym e)))
    (λ w rest. choose (byte == 92) _ _ _ rest
    (λ slash e. escape_next style text start at (short (length text) at w) e)
    (λ slash rest2. choose (ends_run style text start at) _ _ _ rest2
    (λ v e. ends (inr (inl v)) (λ cs h. run_ends style text start at cs h (sym e)))
    (λ v rest3. choose (is_control byte) _ _ _ rest3
    (λ u e. breaks _ at (λ cs h. record { chars = cs; end = at; reached = h; broken = sym e }))
    (λ u rest4. choose (is_arguments style && is_blank byte) _ _ _ rest4
    (λ y e. (let parts = and_parts (is_arguments style) (is_blank byte) y in
    blanks_next style text start at (short (length text) at w) parts.0 parts.1 e))
    (λ y e. char (plain byte) (at + 1) (omega arith) (short (length text) at w)
    (λ cs h. reach-push style text start start at (at + 1) cs _ h (sym e)))))))

-- ---- A run

-- a run ends, or it has a flaw
data Outcome (style : Style) (text : List ℕ) (start : ℕ) : Type 0 where
  ended : (cs : List Ch) (end : ℕ) → start ≤ end → Ends style text start end → run_end style text start cs ≡ Some end
      → Outcome style text start
  broken : (flaw : Flaw) (offset : ℕ) → Breaks style text start flaw offset → Outcome style text start

outcome_from : (left : ℕ) (style : Style) (text : List ℕ) (start at : ℕ) (cs : List Ch) → Reached style text start at cs
    → start ≤ at → length text ≤ at + left → Outcome style text start
outcome_from zero style text start at cs reached after enough = elim (next_at style text start at) [
  | ends why end ↦ ended cs at after why (end cs reached)
  | char c n more within next ↦ absurd (omega (arith, within, enough))
  | breaks flaw offset broke ↦ broken flaw offset (broke cs reached)
]
outcome_from (suc left) style text start at cs reached after enough = elim (next_at style text start at) [
  | ends why end ↦ ended cs at after why (end cs reached)
  | char c n more within next ↦
      outcome_from left style text start n (cs ++ c ∷ []) (next cs reached) (omega (arith, after, more)) (omega (arith, enough, more))
  | breaks flaw offset broke ↦ broken flaw offset (broke cs reached)
]

outcome_of : (style : Style) (text : List ℕ) (start : ℕ) → Outcome style text start
unfolding reach
outcome_of style text start = outcome_from (length text) style text start start [] refl (omega arith) (omega arith)

-- what follows from each outcome of a run
pub by_run : {C : Type 0} (style : Style) (text : List ℕ) (start : ℕ)
    → ((cs : List Ch) (end : ℕ) → start ≤ end → run_end style text start cs ≡ Some end → C)
    → ((flaw : Flaw) (offset : ℕ) → Breaks style text start flaw offset → C) → C
by_run style text start on_end on_flaw = elim (outcome_of style text start) [
  | ended cs end after why run ↦ on_end cs end after run
  | broken flaw offset broke ↦ on_flaw flaw offset broke
]

-- a run whose first byte does not end it has a character
not_at_start : (style : Style) (text : List ℕ) (start : ℕ) → start < length text → is_arguments style ≡ false
    → ends_run style text start start ≡ false → Ends style text start start → ⊥
not_at_start style text start within style_is first (inl past) = omega (arith, within, past)
not_at_start style text start within style_is first (inr (inl stop)) = true≢false (sym stop ∙ first)
not_at_start style text start within style_is first (inr (inr style_other)) = true≢false (sym style_other ∙ style_is)

moved : (style : Style) (text : List ℕ) (start end : ℕ) → start < length text → is_arguments style ≡ false
    → ends_run style text start start ≡ false → start ≤ end → Ends style text start end → start < end
moved style text start end within style_is first after why = elim (cases_lt start end) [
  | inl more ↦ more
  | inr back ↦
      let same : end ≡ start = omega (arith, after, back) in
      absurd (not_at_start style text start within style_is first (subst (Ends style text start) same why))
]

pub by_word : {C : Type 0} (style : Style) (text : List ℕ) (start : ℕ) → start < length text
    → ((cs : List Ch) (end : ℕ) → start < end → run_end style text start cs ≡ Some end → C)
    → ((flaw : Flaw) (offset : ℕ) → Breaks style text start flaw offset → C)
    → is_arguments style ≡ false → ends_run style text start start ≡ false → C
by_word style text start within on_end on_flaw style_is first = elim (outcome_of style text start) [
  | ended cs end after why run ↦ on_end cs end (moved style text start end within style_is first after why) run
  | broken flaw offset broke ↦ on_flaw flaw offset broke
]
