-- Blanks among arguments are one space, with an argument after it.
use Rattle.std.proofs.Common.{◌≡◌, ℕ, zero, suc, ◌+◌, ◌<◌, Bool, List, [], ◌∷◌, length, drop, get_or, true, false}
use Rattle.std.proofs.Common.{refl, sym, ◌∙◌, ap, subst, Some, None, slice_get, cond, arith}
use Rattle.std.proofs.lemmas.List.{get_or-drop}
use Rattle.std.proofs.lemmas.Bool.Decides.{nat_tests}
use Rattle.std.proofs.lemmas.Option.{same_Some}
use Rattle.std.specs.Prelude.{◌==◌, ◌&&◌, not, if◌then◌else◌, nat_le, nat_lt}
use Rattle.std.proofs.lemmas.List.Folds.{length-prefix_len}
use Rattle.std.specs.List.{take_while, prefix_len}
use Rattle.std.proofs.lemmas.Bool.{and_parts, true≢false, false≢true}
use Rattle.sudo_base.proofs.Options.{none_some}
use Rattle.sudo_text.specs.declared.token.Ch.{Ch}
use Rattle.sudo_text.specs.declared.rules.LineKind.{LineKind}
use Rattle.sudo_text.specs.declared.piece.Style.TheVariants as styles
use Rattle.sudo_text.specs.declared.piece.Piece.{Piece}
use Rattle.sudo_text.specs.declared.piece.Piece.TheVariants.{Char, End, Bad}
use Rattle.sudo_text.specs.declared.piece.Flaw.TheVariants as flaws
use Rattle.sudo_text.specs.Bytes.{is_blank, is_control}
use Rattle.sudo_text.specs.Pieces.{plain, escaped, skip, piece_at, escape_at, blanks_at, ends_run, reach, run_end}
use Rattle.sudo_text.specs.Rules.{is_defaults}
use Rattle.sudo_text.specs.Tokens.{has_arguments, command_end}
use Rattle.sudo_text.specs.Runs.{is_plain_blank, HasNoBlankAt, AreSpaced}
use Rattle.sudo_text.proofs.RunCharacters.{choose, bad_char, bad_end, end_char, follow-parts, run_parts}
use Rattle.sudo_text.proofs.ClosingQuotes.{next_is, less}
use Rattle.sudo_text.proofs.Endings.{escape_goes_on}
use Rattle.sudo_text.proofs.Unique.{then_parts}

-- After blanks stands none.
after_blanks : (xs : List ℕ) → is_blank (get_or xs (prefix_len is_blank xs) 0) ≡ false
after_blanks [] = refl
after_blanks (x ∷ xs) = by (is_blank x) refl (after_blanks xs)
  where
    by : (b : Bool) → is_blank x ≡ b → is_blank (get_or xs (prefix_len is_blank xs) 0) ≡ false
        → is_blank (get_or (x ∷ xs) (prefix_len is_blank (x ∷ xs)) 0) ≡ false
    by true e rest =
        let n : ℕ = prefix_len is_blank xs in
        let more : cond (is_blank x) (1 + n) 0 ≡ suc n = ap (λ b. cond b (1 + n) 0) e ∙ omega arith in
        ap (λ k. is_blank (get_or (x ∷ xs) k 0)) more ∙ rest
    by false e rest = ap (λ b. is_blank (get_or (x ∷ xs) (cond b (1 + prefix_len is_blank xs) 0) 0)) e ∙ e

pub skip-no-blank : (text : List ℕ) (at : ℕ) → is_blank (get_or text (skip text at) 0) ≡ false
skip-no-blank text at =
    let n : ℕ = length (take_while is_blank (drop at text)) in
    ap is_blank (sym (get_or-drop at text n 0)
    ∙ ap (λ k. get_or (drop at text) k 0) (length-prefix_len is_blank (drop at text))) ∙ after_blanks (drop at text)

-- An argument, or what ends them, but no blank.
record Opens (text : List ℕ) (at : ℕ) : Type 0 where
  within : at < length text
  goes_on : ends_run styles.Arguments text at at ≡ false
  no_blank : is_blank (get_or text at 0) ≡ false

pub same_char : (c d : Ch) (m n : ℕ) → Char c m ≡ Char d n → c ≡ d
same_char c d m n e = cc

escaped_no_blank : (text : List ℕ) (at : ℕ) (c : Ch) (n : ℕ) → escape_at styles.Arguments text at ≡ Char c n → is_plain_blank c ≡ false
unfolding escape_at
escaped_no_blank text at c n is =
    let next : ℕ = get_or text (at + 1) 0 in
    let last : Piece = if is_control next then Bad flaws.NotPrintable (at + 1) else Char (escaped next) (at + 2) in
    choose (nat_le (length text) (at + 1)) (Bad flaws.BadEscape at) last (Char c n) is
    (λ w e. absurd (bad_char _ _ _ _ e))
    (λ w rest. choose (is_control next) (Bad flaws.NotPrintable (at + 1)) (Char (escaped next) (at + 2)) (Char c n) rest
    (λ v e. absurd (bad_char _ _ _ _ e))
    (λ v e. ap is_plain_blank (sym (same_char _ _ _ _ e))))

-- What a character that is such a blank says.
blanks_open : (text : List ℕ) (at : ℕ) (c : Ch) (n : ℕ) → blanks_at text at ≡ Char c n → (c.byte ≡ 32) × Opens text n
unfolding blanks_at
blanks_open text at c n is =
    let next : ℕ = skip text at in
    choose (nat_lt next (length text) && not (ends_run styles.Arguments text next next)) (Char (plain 32) next) End (Char c n) is
    (λ w e.
    let parts = and_parts (nat_lt next (length text)) (not (ends_run styles.Arguments text next next)) w in
    let there = next_is _ _ _ _ e in (
      ap (λ (d : Ch). d.byte) (sym (same_char _ _ _ _ e)),
      subst (Opens text) there
          (record { within = less _ _ parts.0; goes_on = not_true _ parts.1; no_blank = skip-no-blank text at }),
    ))
    (λ w e. absurd (end_char _ _ e))
  where
    not_true : (b : Bool) → not b ≡ true → b ≡ false
    not_true true h = absurd (false≢true h)
    not_true false h = refl

blank_opens : (text : List ℕ) (start at : ℕ) (c : Ch) (n : ℕ) → piece_at styles.Arguments text start at ≡ Char c n → is_plain_blank c ≡ true
    → (c.byte ≡ 32) × Opens text n
unfolding piece_at
blank_opens text start at c n is blank =
    let byte : ℕ = get_or text at 0 in
    let last : Piece = Char (plain byte) (at + 1) in
    let fourth : Piece = if is_blank byte then blanks_at text at else last in
    let third : Piece = if is_control byte then Bad flaws.NotPrintable at else fourth in
    let second : Piece = if ends_run styles.Arguments text start at then End else third in
    choose (nat_le (length text) at) End (if byte == 92 then escape_at styles.Arguments text at else second) (Char c n) is
    (λ w e. absurd (end_char _ _ e))
    (λ w rest. choose (byte == 92) (escape_at styles.Arguments text at) second (Char c n) rest
    (λ slash e. absurd (true≢false (sym blank ∙ escaped_no_blank text at c n e)))
    (λ slash rest2. choose (ends_run styles.Arguments text start at) End third (Char c n) rest2
    (λ ends e. absurd (end_char _ _ e))
    (λ ends rest3. choose (is_control byte) (Bad flaws.NotPrintable at) fourth (Char c n) rest3
    (λ control e. absurd (bad_char _ _ _ _ e))
    (λ control rest4. choose (is_blank byte) (blanks_at text at) last (Char c n) rest4
    (λ v e. blanks_open text at c n e)
    (λ v e. absurd (true≢false (sym blank ∙ ap is_plain_blank (sym (same_char _ _ _ _ e)) ∙ v)))))))

-- What stands where arguments open.
opens_char : (text : List ℕ) (start at : ℕ) (c : Ch) (n : ℕ) → Opens text at
    → piece_at styles.Arguments text start at ≡ Char c n → is_plain_blank c ≡ false
unfolding piece_at
opens_char text start at c n o is =
    let byte : ℕ = get_or text at 0 in
    let last : Piece = Char (plain byte) (at + 1) in
    let fourth : Piece = if is_blank byte then blanks_at text at else last in
    let third : Piece = if is_control byte then Bad flaws.NotPrintable at else fourth in
    let second : Piece = if ends_run styles.Arguments text start at then End else third in
    choose (nat_le (length text) at) End (if byte == 92 then escape_at styles.Arguments text at else second) (Char c n) is
    (λ w e. absurd (end_char _ _ e))
    (λ w rest. choose (byte == 92) (escape_at styles.Arguments text at) second (Char c n) rest
    (λ slash e. escaped_no_blank text at c n e)
    (λ slash rest2. choose (ends_run styles.Arguments text start at) End third (Char c n) rest2
    (λ ends e. absurd (end_char _ _ e))
    (λ ends rest3. choose (is_control byte) (Bad flaws.NotPrintable at) fourth (Char c n) rest3
    (λ control e. absurd (bad_char _ _ _ _ e))
    (λ control rest4. choose (is_blank byte) (blanks_at text at) last (Char c n) rest4
    (λ v e. absurd (true≢false (sym v ∙ o.no_blank)))
    (λ v e. ap is_plain_blank (sym (same_char _ _ _ _ e)) ∙ v)))))

opens_goes_on : (text : List ℕ) (start at : ℕ) → Opens text at → piece_at styles.Arguments text start at ≡ End → ⊥
unfolding piece_at ends_run
opens_goes_on text start at o is =
    let byte : ℕ = get_or text at 0 in
    let within = o.within in
    let last : Piece = Char (plain byte) (at + 1) in
    let fourth : Piece = if is_blank byte then blanks_at text at else last in
    let third : Piece = if is_control byte then Bad flaws.NotPrintable at else fourth in
    let second : Piece = if ends_run styles.Arguments text start at then End else third in
    choose (nat_le (length text) at) End (if byte == 92 then escape_at styles.Arguments text at else second) End is
    (λ w e. let long : nat_le (length text) at ≡ false = grind (arith, nat_tests) in true≢false (sym w ∙ long))
    (λ w rest. choose (byte == 92) (escape_at styles.Arguments text at) second End rest
    (λ slash e. escape_goes_on styles.Arguments text at e)
    (λ slash rest2. choose (ends_run styles.Arguments text start at) End third End rest2
    (λ ends e. true≢false (sym ends ∙ o.goes_on))
    (λ ends rest3. choose (is_control byte) (Bad flaws.NotPrintable at) fourth End rest3
    (λ control e. bad_end _ _ e)
    (λ control rest4. choose (is_blank byte) (blanks_at text at) last End rest4
    (λ v e. true≢false (sym v ∙ o.no_blank))
    (λ v e. end_char _ _ (sym e))))))

-- Where arguments open, a character that is no such blank comes first.
first_opens : (text : List ℕ) (start at end : ℕ) (cs : List Ch) → Opens text at
    → reach styles.Arguments text start at cs ≡ Some end → piece_at styles.Arguments text start end ≡ End
    → HasNoBlankAt cs 0
unfolding reach
first_opens text start at end [] o h is =
    let same : end ≡ at = cc in
    absurd (opens_goes_on text start at o (ap (piece_at styles.Arguments text start) (sym same) ∙ is))
first_opens text start at end (c ∷ cs) o h is =
    let step = follow-parts (piece_at styles.Arguments text start at) c _ end h in
    record { char = c; there = refl; no_blank = opens_char text start at c step.0 o step.1 }

one_later : (c : Ch) (cs : List Ch) (at : ℕ) → HasNoBlankAt cs at → HasNoBlankAt (c ∷ cs) (suc at)
one_later c cs at h = record { char = h.char; there = h.there; no_blank = h.no_blank }

reach-spaced : (text : List ℕ) (start at end : ℕ) (cs : List Ch) → reach styles.Arguments text start at cs ≡ Some end
    → piece_at styles.Arguments text start end ≡ End → AreSpaced cs
unfolding reach
reach-spaced text start at end [] h is = record {
  space = λ i c there blank. absurd (none_char c there);
  followed = λ i c there blank. absurd (none_char c there);
}
  where
    none_char : (c : Ch) → None ≡ Some c → ⊥
    none_char c e = cc
reach-spaced text start at end (x ∷ xs) h is =
    let step = follow-parts (piece_at styles.Arguments text start at) x _ end h in
    let rest = reach-spaced text start step.0 end xs step.2 is in
    record { space = space step rest; followed = followed step rest }
  where
    Step : Type 0
    Step = (n : ℕ) × (piece_at styles.Arguments text start at ≡ Char x n) × (reach styles.Arguments text start n xs ≡ Some end)

    space : Step → AreSpaced xs → (i : ℕ) (c : Ch) → slice_get (x ∷ xs) i ≡ Some c → is_plain_blank c ≡ true → c.byte ≡ 32
    space step rest zero c there blank =
        let same = same_Some x c there in
        (blank_opens text start at c step.0 (step.1 ∙ ap (λ d. Char d step.0) same) blank).0
    space step rest (suc i) c there blank = rest.space i c there blank

    followed : Step → AreSpaced xs → (i : ℕ) (c : Ch) → slice_get (x ∷ xs) i ≡ Some c → is_plain_blank c ≡ true
        → HasNoBlankAt (x ∷ xs) (suc i)
    followed step rest zero c there blank =
        let same = same_Some x c there in
        let opens = (blank_opens text start at c step.0 (step.1 ∙ ap (λ d. Char d step.0) same) blank).1 in
        one_later x xs 0 (first_opens text start step.0 end xs opens step.2 is)
    followed step rest (suc i) c there blank = one_later x xs (suc i) (rest.followed i c there blank)

pub blanks_spaced : (text : List ℕ) (start end : ℕ) (cs : List Ch) → run_end styles.Arguments text start cs ≡ Some end → AreSpaced cs
blanks_spaced text start end cs run =
    let parts = run_parts styles.Arguments text start end cs run in
    reach-spaced text start start end cs parts.0 parts.1

-- Arguments open after the path of a command that has them.
arguments_open : (kind : LineKind) (text : List ℕ) (end : ℕ) → has_arguments kind text end ≡ true → Opens text (skip text end)
unfolding has_arguments
arguments_open kind text end h =
    let next : ℕ = skip text end in
    let outer = and_parts (not (is_defaults kind) && nat_lt end next && nat_lt next (length text))
    (not (ends_run styles.Arguments text next next)) h in
    let inner = and_parts (not (is_defaults kind) && nat_lt end next) (nat_lt next (length text)) outer.0 in
    record { within = less _ _ inner.1; goes_on = not_true _ outer.1; no_blank = skip-no-blank text end }
  where
    not_true : (b : Bool) → not b ≡ true → b ≡ false
    not_true true h = absurd (false≢true h)
    not_true false h = refl

pub command_spaced : (kind : LineKind) (text : List ℕ) (at end : ℕ) (path cs : List Ch)
    → command_end kind text at path (Some cs) ≡ Some end → HasNoBlankAt cs 0 × AreSpaced cs
unfolding command_end
command_spaced kind text at end path cs h =
    let a = then_parts (run_end styles.Path text at path) _ end h in
    choose (has_arguments kind text a.0) (run_end styles.Arguments text (skip text a.0) cs) None (Some end) a.2
    (λ on run.
    let parts = run_parts styles.Arguments text (skip text a.0) end cs run in (
      first_opens text (skip text a.0) (skip text a.0) end cs (arguments_open kind text a.0 on) parts.0 parts.1,
      blanks_spaced text (skip text a.0) end cs run,
    ))
    (λ off e. absurd (none_some end e))
