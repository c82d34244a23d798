-- The characters of a run, one after the other: a run has only one list of them.
use Rattle.std.proofs.Common.{◌≡◌, ℕ, Bool, List, [], ◌∷◌, ◌++◌, true, false, refl, sym, ap, subst, Option, Some, None}
use Rattle.std.proofs.Common.{inl, inr, ⊎_elim}
use Rattle.std.specs.Prelude.{◌⊎◌, ◌==◌, if◌then◌else◌}
use Rattle.std.specs.Option.{option_and_then}
use Rattle.std.proofs.lemmas.Bool.{eq-eqb, eqb-true, and_parts}
use Rattle.sudo_base.proofs.Options.{none_some}
use Rattle.sudo_text.specs.declared.token.Ch.{Ch}
use Rattle.sudo_text.specs.declared.piece.Style.{Style}
use Rattle.sudo_text.specs.declared.piece.Piece.{Piece}
use Rattle.sudo_text.specs.declared.piece.Piece.TheVariants.{Char, End, Bad}
use Rattle.sudo_text.specs.declared.piece.Flaw.{Flaw}
use Rattle.sudo_text.specs.Pieces.{piece_at, is_end, same_bool, same_ch, follow, reach, run_end}

-- Which way a choice went.
pub which : {A : Type 0} (b : Bool) (x y z : A) → (if b then x else y) ≡ z → ((b ≡ true) × (x ≡ z)) ⊎ ((b ≡ false) × (y ≡ z))
which true x y z e = inl (refl, e)
which false x y z e = inr (refl, e)

pub choose : {C A : Type 0} (b : Bool) (x y z : A) → (if b then x else y) ≡ z → (b ≡ true → x ≡ z → C) → (b ≡ false → y ≡ z → C) → C
choose true x y z e on_true on_false = on_true refl e
choose false x y z e on_true on_false = on_false refl e

pub bad_char : (flaw : Flaw) (offset : ℕ) (c : Ch) (n : ℕ) → Bad flaw offset ≡ Char c n → ⊥
bad_char flaw offset c n e = cc

pub end_char : (c : Ch) (n : ℕ) → End ≡ Char c n → ⊥
end_char c n e = cc

pub bad_end : (flaw : Flaw) (offset : ℕ) → Bad flaw offset ≡ End → ⊥
bad_end flaw offset e = cc

same_bool-self : (b : Bool) → same_bool b b ≡ true
same_bool-self true = refl
same_bool-self false = refl

pub same_ch-self : (c : Ch) → same_ch c c ≡ true
same_ch-self c = rw (eq-eqb c.byte c.byte refl) (same_bool-self c.escaped)

-- What is reached by one more character.
follow-more : (p : Piece) (c : Ch) (on on' : ℕ → Option ℕ) (m m' : Option ℕ) → ((n : ℕ) → on n ≡ m → on' n ≡ m')
    → (m ≡ None → ⊥) → follow p c on ≡ m → follow p c on' ≡ m'
follow-more (Char d next) c on on' m m' more some h =
    elim (same_ch d c) as (λ t. (if t then on next else None) ≡ m → (if t then on' next else None) ≡ m')
    [ true ↦ λ e. more next e | false ↦ λ e. absurd (some (sym e)) ] h
follow-more End c on on' m m' more some h = absurd (some (sym h))
follow-more (Bad flaw offset) c on on' m m' more some h = absurd (some (sym h))

pub reach-push : (style : Style) (text : List ℕ) (start at end next : ℕ) (cs : List Ch) (c : Ch)
    → reach style text start at cs ≡ Some end → piece_at style text start end ≡ Char c next
    → reach style text start at (cs ++ c ∷ []) ≡ Some next
unfolding reach
reach-push style text start at end next [] c h is =
    let e : at ≡ end = cc in
    subst (λ a. follow (piece_at style text start a) c (λ n. Some n) ≡ Some next) (sym e) (rw is (rw (same_ch-self c) refl))
reach-push style text start at end next (d ∷ ds) c h is =
    follow-more (piece_at style text start at) d _ _ (Some end) (Some next)
    (λ n e. reach-push style text start n end next ds c e is) (λ e. cc) h

pub run_ends : (style : Style) (text : List ℕ) (start end : ℕ) (cs : List Ch)
    → reach style text start start cs ≡ Some end → piece_at style text start end ≡ End → run_end style text start cs ≡ Some end
unfolding run_end
run_ends style text start end cs h is = rw h (rw is refl)

pub same_bool-true : (a b : Bool) → same_bool a b ≡ true → a ≡ b
same_bool-true true true h = refl
same_bool-true true false h = cc
same_bool-true false true h = cc
same_bool-true false false h = refl

pub same_ch-true : (c d : Ch) → same_ch c d ≡ true → c ≡ d
same_ch-true c d h =
    let parts = and_parts (c.byte == d.byte) (same_bool c.escaped d.escaped) h in
    let b : c.byte ≡ d.byte = eqb-true c.byte d.byte parts.0 in
    let e : c.escaped ≡ d.escaped = same_bool-true c.escaped d.escaped parts.1 in
    λ i. record { byte = b i; escaped = e i }

-- What a character that is followed was.
pub follow-parts : (p : Piece) (c : Ch) (on : ℕ → Option ℕ) (end : ℕ) → follow p c on ≡ Some end
    → (n : ℕ) × (p ≡ Char c n) × (on n ≡ Some end)
follow-parts (Char d next) c on end h =
    ⊎_elim (λ (w, e). (next, ap (λ x. Char x next) (same_ch-true d c w), e)) (λ (w, e). absurd (none_some _ e))
    (which (same_ch d c) (on next) None (Some end) h)
follow-parts End c on end h = absurd (none_some _ h)
follow-parts (Bad flaw offset) c on end h = absurd (none_some _ h)

is_end-true : (p : Piece) → is_end p ≡ true → p ≡ End
is_end-true (Char c n) h = cc
is_end-true End h = refl
is_end-true (Bad flaw offset) h = cc

run_parts_of : (style : Style) (text : List ℕ) (start end : ℕ) (r : Option ℕ)
    → option_and_then (λ n. if is_end (piece_at style text start n) then Some n else None) r ≡ Some end
    → (r ≡ Some end) × (piece_at style text start end ≡ End)
run_parts_of style text start end None h = absurd (none_some _ h)
run_parts_of style text start end (Some n) h =
    ⊎_elim
    (λ (w, e). let same : n ≡ end = cc e in (e, subst (λ m. piece_at style text start m ≡ End) same (is_end-true _ w)))
    (λ (w, e). absurd (none_some _ e))
    (which (is_end (piece_at style text start n)) (Some n) None (Some end) h)

-- A run's characters reach its end, and nothing goes on there.
pub run_parts : (style : Style) (text : List ℕ) (start end : ℕ) (cs : List Ch) → run_end style text start cs ≡ Some end
    → (reach style text start start cs ≡ Some end) × (piece_at style text start end ≡ End)
unfolding run_end
run_parts style text start end cs h = run_parts_of style text start end (reach style text start start cs) h
