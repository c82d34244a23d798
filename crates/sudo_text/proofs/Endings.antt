-- A run ends at the first byte that ends it and that no backslash escapes.
use Rattle.std.proofs.Common.{◌≡◌, ℕ, zero, suc, ◌+◌, ◌-◌, ◌<◌, ◌≤◌, Bool, List, [], ◌∷◌, length, drop, get_or, true}
use Rattle.std.proofs.Common.{false, refl, sym, ◌∙◌, ap, subst, inl, inr, Some, None, ◌*◌, cond, arith}
use Rattle.std.proofs.lemmas.List.{get_or-drop}
use Rattle.std.proofs.lemmas.List.Folds.{length-prefix_len}
use Rattle.std.proofs.lemmas.Bool.{cases_lt, eqb-true, eq-eqb, and_parts, true≢false, false≢true}
use Rattle.std.proofs.lemmas.Bool.Decides.{nat_tests}
use Rattle.std.specs.Prelude.{◌==◌, ◌&&◌, ◌⊎◌, not, if◌then◌else◌, nat_le, nat_lt, IsTrue}
use Rattle.std.specs.List.{take_while, prefix_len}
use Rattle.std.proofs.Math.Bool.{and-false}
use Rattle.sudo_base.proofs.Options.{none_some}
use Rattle.sudo_text.specs.declared.token.Ch.{Ch}
use Rattle.sudo_text.specs.declared.piece.Style.{Style}
use Rattle.sudo_text.specs.declared.piece.Style.TheVariants as styles
use Rattle.sudo_text.specs.declared.piece.Piece.{Piece}
use Rattle.sudo_text.specs.declared.piece.Piece.TheVariants.{Char, End, Bad}
use Rattle.sudo_text.specs.declared.piece.Flaw.TheVariants as flaws
use Rattle.sudo_text.specs.Bytes.{is_blank, is_hex, is_control, hex_value}
use Rattle.sudo_text.specs.Pieces.{plain, escaped, skip, is_mark_byte, is_assignment, ends_word, ends_run, has_hex}
use Rattle.sudo_text.specs.Pieces.{is_arguments, hex_at, escape_at, blanks_at, piece_at, reach, run_end}
use Rattle.sudo_text.specs.Tokens.{takes_next, quoted_end}
use Rattle.sudo_text.specs.Runs.{IsFirstClosingQuote, IsBehindFirstQuote, LeadsOut, IsWholeRun}
use Rattle.sudo_text.proofs.RunCharacters.{choose, bad_char, bad_end, end_char, follow-parts, run_parts}
use Rattle.sudo_text.proofs.ClosingQuotes.{next_is, hex_not_escape}
use Rattle.sudo_text.proofs.Unique.{then_parts}
use Rattle.sudo_text.proofs.Quotes.{taken_from, taken_start, taken_next, one_if, taken_by_pairs, untaken}

-- A backslash ends no run.
backslash_stays : (style : Style) (text : List ℕ) (start at : ℕ) → get_or text at 0 ≡ 92 → ends_run style text start at ≡ false
unfolding ends_run ends_word
backslash_stays styles.Quoted text start at e = rw e refl
backslash_stays styles.Word text start at e = rw e (and-false (not (at == start)))
backslash_stays styles.DefaultsWord text start at e = rw e (and-false (not (at == start)))
backslash_stays styles.Value text start at e = rw e (and-false (not (at == start)))
backslash_stays styles.Path text start at e = rw e (and-false (not (at == start)))
backslash_stays styles.Arguments text start at e = rw e refl
backslash_stays styles.Include text start at e = rw e (and-false (not (at == start)))

-- Nor does a hexadecimal digit, where there are such escapes.
record NoEnder (b : ℕ) : Type 0 where
  blank : is_blank b ≡ false
  mark : is_mark_byte b ≡ false
  quote : (b == 34) ≡ false
  sign : (b == 35) ≡ false
  comma : (b == 44) ≡ false
  plus : (b == 43) ≡ false
  minus : (b == 45) ≡ false

hex_no_ender : (b : ℕ) → is_hex b ≡ true → NoEnder b
hex_no_ender b h = record {
  blank = grind (arith, nat_tests);
  mark = grind (arith, nat_tests);
  quote = grind (arith, nat_tests);
  sign = grind (arith, nat_tests);
  comma = grind (arith, nat_tests);
  plus = grind (arith, nat_tests);
  minus = grind (arith, nat_tests);
}

no_word_end : (text : List ℕ) (start at : ℕ) → NoEnder (get_or text at 0) → ends_word text start at ≡ false
unfolding ends_word
no_word_end text start at h = rw (h.blank, h.mark, h.quote, h.sign) refl

no_assignment : (text : List ℕ) (at : ℕ) → NoEnder (get_or text at 0) → is_assignment text at ≡ false
no_assignment text at h = rw (h.plus, h.minus) refl

hex_stays : (style : Style) (text : List ℕ) (start at : ℕ) → has_hex style ≡ true → is_hex (get_or text at 0) ≡ true
    → ends_run style text start at ≡ false
unfolding ends_run
hex_stays styles.Quoted text start at on h = (hex_no_ender (get_or text at 0) h).quote
hex_stays styles.Word text start at on h = rw (no_word_end text start at (hex_no_ender (get_or text at 0) h))
    (and-false (not (at == start)))
hex_stays styles.DefaultsWord text start at on h =
    let none = hex_no_ender (get_or text at 0) h in
    rw (no_word_end text start at none, no_assignment text at none) (and-false (not (at == start)))
hex_stays styles.Value text start at on h =
    let none = hex_no_ender (get_or text at 0) h in
    rw (none.blank, none.comma, none.quote, none.sign) (and-false (not (at == start)))
hex_stays styles.Path text start at on h = absurd (false≢true on)
hex_stays styles.Arguments text start at on h = absurd (false≢true on)
hex_stays styles.Include text start at on h = absurd (false≢true on)

-- Nor does a blank among arguments.
blank_stays : (style : Style) (text : List ℕ) (start at : ℕ) → is_arguments style ≡ true
    → is_blank (get_or text at 0) ≡ true → ends_run style text start at ≡ false
unfolding ends_run
blank_stays styles.Arguments text start at on h =
    let byte : ℕ = get_or text at 0 in
    let a : (byte == 44) ≡ false = grind (arith, nat_tests) in
    let b : (byte == 58) ≡ false = grind (arith, nat_tests) in
    let c : (byte == 35) ≡ false = grind (arith, nat_tests) in
    rw (a, b, c) refl
blank_stays styles.Quoted text start at on h = absurd (false≢true on)
blank_stays styles.Word text start at on h = absurd (false≢true on)
blank_stays styles.DefaultsWord text start at on h = absurd (false≢true on)
blank_stays styles.Value text start at on h = absurd (false≢true on)
blank_stays styles.Path text start at on h = absurd (false≢true on)
blank_stays styles.Include text start at on h = absurd (false≢true on)

blank_no_backslash : (b : ℕ) → is_blank b ≡ true → (b == 92) ≡ false
blank_no_backslash b h = grind (arith, nat_tests)

-- From one offset to another no byte ends the run, where a backslash takes the byte at the first or not, and then the one at the last.
pub record Moves (style : Style) (text : List ℕ) (start at next : ℕ) (taken later : Bool) : Type 0 where
  pub after : at ≤ next
  leaves : taken_from text start at ≡ taken → taken_from text start next ≡ later
  none : taken_from text start at ≡ taken → (i : ℕ) → at ≤ i → i < next → taken_from text start i ≡ false
      → ends_run style text start i ≡ true → ⊥

stay : (style : Style) (text : List ℕ) (start at next : ℕ) → at ≡ next → Moves style text start at next false false
stay style text start at next same =
    record {
      after = omega arith;
      leaves = λ e. ap (taken_from text start) (sym same)
          ∙ e;
      none = λ e i low high free ends. absurd (omega arith);
    }

move_one : (style : Style) (text : List ℕ) (start at next : ℕ) (taken later : Bool) → next ≡ at + 1 → start ≤ at
    → (taken ≡ false → ends_run style text start at ≡ false) → takes_next taken (get_or text at 0) ≡ later
    → Moves style text start at next taken later
move_one style text start at next taken later is from on takes =
    let byte : ℕ = get_or text at 0 in
    let more : next ≡ suc at = omega arith in
    record {
      after = omega arith;
      leaves = λ e. ap (taken_from text start) more ∙ taken_next text start at from ∙ ap (λ t. takes_next t byte) e ∙ takes;
      none = λ e i low high free ends.
          let here : i ≡ at = omega arith in
          let untaken : taken ≡ false = sym e ∙ ap (taken_from text start) (sym here) ∙ free in
          true≢false (sym ends ∙ ap (ends_run style text start) here ∙ on untaken);
    }

move_on : (style : Style) (text : List ℕ) (start at mid next : ℕ) (taken middle later : Bool)
    → Moves style text start at mid taken middle → Moves style text start mid next middle later
    → Moves style text start at next taken later
move_on style text start at mid next taken middle later a b =
    let low = a.after in
    let high = b.after in
    record {
      after = omega arith;
      leaves = λ e. b.leaves (a.leaves e);
      none = λ e i from to. elim (cases_lt i mid) [
        | inl h ↦ a.none e i from (omega arith)
        | inr h ↦ b.none (a.leaves e) i (omega arith) to
      ];
    }

-- An escape.
escape_moves : (style : Style) (text : List ℕ) (start at : ℕ) (c : Ch) (n : ℕ) → start ≤ at → (get_or text at 0 == 92) ≡ true
    → escape_at style text at ≡ Char c n → Moves style text start at n false false
unfolding escape_at hex_at
escape_moves style text start at c n from slash is =
    let two : Moves style text start at (at + 2) false false
    = move_on style text start at (at + 1) (at + 2) false true false
    (move_one style text start at (at + 1) false true refl from (λ e. backslash_stays style text start at (eqb-true _ _ slash)) slash)
    (move_one style text start (at + 1) (at + 2) true false (omega arith) (omega arith) (λ e. absurd (true≢false e)) refl) in
    let next : ℕ = get_or text (at + 1) 0 in
    let high : ℕ = get_or text (at + 2) 0 in
    let low : ℕ = get_or text (at + 3) 0 in
    let byte : Ch = escaped (hex_value high * 16 + hex_value low) in
    let last : Piece = if is_control next then Bad flaws.NotPrintable (at + 1) else Char (escaped next) (at + 2) in
    choose (nat_le (length text) (at + 1)) (Bad flaws.BadEscape at)
    (if has_hex style && (next == 120) then hex_at text at else last) (Char c n) is
    (λ w e. absurd (bad_char _ _ _ _ e))
    (λ w rest. choose (has_hex style && (next == 120)) (hex_at text at) last (Char c n) rest
    (λ x hex. choose (nat_lt (at + 3) (length text) && is_hex high && is_hex low) (Char byte (at + 4)) (Bad flaws.BadHex at) (Char c n) hex
    (λ fits e.
    let on = (and_parts (has_hex style) (next == 120) x).0 in
    let front = and_parts (nat_lt (at + 3) (length text) && is_hex high) (is_hex low) fits in
    let room = and_parts (nat_lt (at + 3) (length text)) (is_hex high) front.0 in
    subst (λ m. Moves style text start at m false false) (next_is _ _ _ _ e)
    (move_on style text start at (at + 2) (at + 4) false false false two
    (move_on style text start (at + 2) (at + 3) (at + 4) false false false
    (move_one style text start (at + 2) (at + 3) false false (omega arith) (omega arith)
    (λ u. hex_stays style text start (at + 2) on room.1) (hex_not_escape high room.1))
    (move_one style text start (at + 3) (at + 4) false false (omega arith) (omega arith)
    (λ u. hex_stays style text start (at + 3) on front.1) (hex_not_escape low front.1)))))
    (λ fits e. absurd (bad_char _ _ _ _ e)))
    (λ x others. choose (is_control next) (Bad flaws.NotPrintable (at + 1)) (Char (escaped next) (at + 2)) (Char c n) others
    (λ w2 e. absurd (bad_char _ _ _ _ e))
    (λ w2 e. subst (λ m. Moves style text start at m false false) (next_is _ _ _ _ e) two)))

-- Blanks.
prefix_blank : (xs : List ℕ) (k : ℕ) → k < prefix_len is_blank xs → is_blank (get_or xs k 0) ≡ true
prefix_blank [] k h = absurd (omega arith)
prefix_blank (x ∷ xs) k h = by (is_blank x) refl k h (λ i. prefix_blank xs i)
  where
    by : (b : Bool) → is_blank x ≡ b → (k : ℕ) → k < prefix_len is_blank (x ∷ xs)
        → ((i : ℕ) → i < prefix_len is_blank xs → is_blank (get_or xs i 0) ≡ true) → is_blank (get_or (x ∷ xs) k 0) ≡ true
    by true e zero h rest = e
    by true e (suc k) h rest =
        let n : ℕ = prefix_len is_blank xs in
        let more : cond (is_blank x) (1 + n) 0 ≡ suc n = ap (λ b. cond b (1 + n) 0) e ∙ omega arith in
        rest k (omega (arith, more))
    by false e k h rest =
        let none : cond (is_blank x) (1 + prefix_len is_blank xs) 0 ≡ 0 = ap (λ b. cond b (1 + prefix_len is_blank xs) 0) e in
        absurd (omega (arith, none))

skipped_blank : (text : List ℕ) (at i : ℕ) → i < length (take_while is_blank (drop at text)) → is_blank (get_or text (at + i) 0) ≡ true
skipped_blank text at i h =
    let len = length-prefix_len is_blank (drop at text) in
    ap is_blank (sym (get_or-drop at text i 0)) ∙ prefix_blank (drop at text) i (omega (arith, len))

blanks_move : (style : Style) (text : List ℕ) (start at left : ℕ) → is_arguments style ≡ true → start ≤ at
    → ((i : ℕ) → i < left → is_blank (get_or text (at + i) 0) ≡ true)
    → Moves style text start at (at + left) false false
blanks_move style text start at zero on from blank = stay style text start at (at + 0) (omega arith)
blanks_move style text start at (suc left) on from blank =
    let none : at + 0 ≡ at = omega arith in
    let here : is_blank (get_or text at 0) ≡ true = ap (λ n. is_blank (get_or text n 0)) (sym none) ∙ blank 0 (omega arith) in
    let end : at + 1 + left ≡ at + suc left = omega arith in
    let rest = blanks_move style text start (at + 1) left on (omega arith) (λ i h.
    let moved : at + 1 + i ≡ at + suc i = omega arith in
    ap (λ n. is_blank (get_or text n 0)) moved ∙ blank (suc i) (omega arith)) in
    move_on style text start at (at + 1) (at + suc left) false false false
    (move_one style text start at (at + 1) false false refl from (λ u. blank_stays style text start at on here)
    (blank_no_backslash (get_or text at 0) here))
    (subst (λ m. Moves style text start (at + 1) m false false) end rest)

skip_moves : (style : Style) (text : List ℕ) (start at : ℕ) (c : Ch) (n : ℕ) → is_arguments style ≡ true → start ≤ at
    → blanks_at text at ≡ Char c n → Moves style text start at n false false
unfolding blanks_at
skip_moves style text start at c n on from is =
    let next : ℕ = skip text at in
    choose (nat_lt next (length text) && not (ends_run styles.Arguments text next next)) (Char (plain 32) next) End (Char c n) is
    (λ w e. subst (λ m. Moves style text start at m false false) (next_is _ _ _ _ e)
    (blanks_move style text start at (length (take_while is_blank (drop at text))) on from (skipped_blank text at)))
    (λ w e. absurd (end_char _ _ e))

pub piece_moves : (style : Style) (text : List ℕ) (start at : ℕ) (c : Ch) (n : ℕ) → start ≤ at
    → piece_at style text start at ≡ Char c n → Moves style text start at n false false
unfolding piece_at
piece_moves style text start at c n from is =
    let byte : ℕ = get_or text at 0 in
    let last : Piece = Char (plain byte) (at + 1) in
    let fourth : Piece = if is_arguments style && is_blank byte then blanks_at text at else last in
    let third : Piece = if is_control byte then Bad flaws.NotPrintable at else fourth in
    let second : Piece = if ends_run style text start at then End else third in
    choose (nat_le (length text) at) End (if byte == 92 then escape_at style text at else second) (Char c n) is
    (λ w e. absurd (end_char _ _ e))
    (λ w rest. choose (byte == 92) (escape_at style text at) second (Char c n) rest
    (λ slash e. escape_moves style text start at c n from slash e)
    (λ slash rest2. choose (ends_run style text start at) End third (Char c n) rest2
    (λ ends e. absurd (end_char _ _ e))
    (λ ends rest3. choose (is_control byte) (Bad flaws.NotPrintable at) fourth (Char c n) rest3
    (λ control e. absurd (bad_char _ _ _ _ e))
    (λ control rest4. choose (is_arguments style && is_blank byte) (blanks_at text at) last (Char c n) rest4
    (λ v e. skip_moves style text start at c n (and_parts (is_arguments style) (is_blank byte) v).0 from e)
    (λ v e. subst (λ m. Moves style text start at m false false) (next_is _ _ _ _ e)
    (move_one style text start at (at + 1) false false refl from (λ u. ends) slash))))))

pub reach-moves : (style : Style) (text : List ℕ) (start at end : ℕ) (cs : List Ch) → start ≤ at
    → reach style text start at cs ≡ Some end → Moves style text start at end false false
unfolding reach
reach-moves style text start at end [] from h = stay style text start at end cc
reach-moves style text start at end (c ∷ cs) from h =
    let step = follow-parts (piece_at style text start at) c _ end h in
    let first = piece_moves style text start at c step.0 from step.1 in
    let after = first.after in
    move_on style text start at step.0 end false false false first (reach-moves style text start step.0 end cs (omega arith) step.2)

-- Where a run stops.
pub escape_goes_on : (style : Style) (text : List ℕ) (at : ℕ) → escape_at style text at ≡ End → ⊥
unfolding escape_at hex_at
escape_goes_on style text at is =
    let next : ℕ = get_or text (at + 1) 0 in
    let high : ℕ = get_or text (at + 2) 0 in
    let low : ℕ = get_or text (at + 3) 0 in
    let last : Piece = if is_control next then Bad flaws.NotPrintable (at + 1) else Char (escaped next) (at + 2) in
    choose (nat_le (length text) (at + 1)) (Bad flaws.BadEscape at) (if has_hex style && (next == 120) then hex_at text at else last) End is
    (λ w e. bad_end _ _ e)
    (λ w rest. choose (has_hex style && (next == 120)) (hex_at text at) last End rest
    (λ x hex. choose (nat_lt (at + 3) (length text) && is_hex high && is_hex low)
    (Char (escaped (hex_value high * 16 + hex_value low)) (at + 4)) (Bad flaws.BadHex at) End hex
    (λ y e. end_char _ _ (sym e)) (λ y e. bad_end _ _ e))
    (λ x others. choose (is_control next) (Bad flaws.NotPrintable (at + 1)) (Char (escaped next) (at + 2)) End others
    (λ y e. bad_end _ _ e) (λ y e. end_char _ _ (sym e))))

long : (a b : ℕ) → nat_le a b ≡ true → a ≤ b
long a b h = grind (arith, nat_tests)

not_both : (a b : ℕ) (c : Bool) → (nat_lt a b && not c) ≡ false → (b ≤ a) ⊎ (c ≡ true)
not_both a b true h = inr refl
not_both a b false h = inl (elim (cases_lt a b) [
  | inl lt ↦ absurd (true≢false (sym (let e : nat_lt a b ≡ true = grind (arith, nat_tests) in rw e refl) ∙ h))
  | inr le ↦ omega arith
])

leads_out : (text : List ℕ) (at : ℕ) → is_blank (get_or text at 0) ≡ true → blanks_at text at ≡ End → LeadsOut text at
unfolding blanks_at
leads_out text at blank is =
    let next : ℕ = skip text at in
    choose (nat_lt next (length text) && not (ends_run styles.Arguments text next next)) (Char (plain 32) next) End End is
    (λ w e. absurd (end_char _ _ (sym e)))
    (λ w e. (blank, not_both next (length text) (ends_run styles.Arguments text next next) w))

end_parts : (style : Style) (text : List ℕ) (start at : ℕ) → piece_at style text start at ≡ End
    → (length text ≤ at) ⊎ ((ends_run style text start at ≡ true) ⊎ (IsTrue (is_arguments style) × LeadsOut text at))
unfolding piece_at
end_parts style text start at is =
    let byte : ℕ = get_or text at 0 in
    let last : Piece = Char (plain byte) (at + 1) in
    let fourth : Piece = if is_arguments style && is_blank byte then blanks_at text at else last in
    let third : Piece = if is_control byte then Bad flaws.NotPrintable at else fourth in
    let second : Piece = if ends_run style text start at then End else third in
    choose (nat_le (length text) at) End (if byte == 92 then escape_at style text at else second) End is
    (λ w e. inl (long _ _ w))
    (λ w rest. choose (byte == 92) (escape_at style text at) second End rest
    (λ slash e. absurd (escape_goes_on style text at e))
    (λ slash rest2. choose (ends_run style text start at) End third End rest2
    (λ ends e. inr (inl ends))
    (λ ends rest3. choose (is_control byte) (Bad flaws.NotPrintable at) fourth End rest3
    (λ control e. absurd (bad_end _ _ e))
    (λ control rest4. choose (is_arguments style && is_blank byte) (blanks_at text at) last End rest4
    (λ v e. let parts = and_parts (is_arguments style) (is_blank byte) v in inr (inr (parts.0, leads_out text at parts.1 e)))
    (λ v e. absurd (end_char _ _ (sym e)))))))

-- What a whole run says of the bytes before its end.
record Reached (style : Style) (text : List ℕ) (start end : ℕ) : Type 0 where
  after : start ≤ end
  free : taken_from text start end ≡ false
  none : (i : ℕ) → start ≤ i → i < end → taken_from text start i ≡ false → ends_run style text start i ≡ true → ⊥
  stops : piece_at style text start end ≡ End

reached : (style : Style) (text : List ℕ) (start end : ℕ) (cs : List Ch) → run_end style text start cs ≡ Some end
    → Reached style text start end
reached style text start end cs run =
    let parts = run_parts style text start end cs run in
    let moves = reach-moves style text start start end cs (omega arith) parts.0 in
    let begins = taken_start text start in
    record { after = moves.after; free = moves.leaves begins; none = moves.none begins; stops = parts.1 }

pub whole_run : (style : Style) (text : List ℕ) (start end : ℕ) (cs : List Ch)
    → run_end style text start cs ≡ Some end → IsWholeRun style text start end
whole_run style text start end cs run =
    let r = reached style text start end cs run in
    let after = r.after in
    let len : ℕ = end - start in
    let behind : end ≡ start + len = omega arith in
    record {
      len = len;
      behind = behind;
      first = λ i lt is.
          let free = untaken (taken_from text start (start + i)) (sym (taken_by_pairs text start i) ∙ is.even) in
          r.none (start + i) (omega arith) (omega arith) free is.ends;
      last = elim (end_parts style text start end r.stops) [
        | inl h ↦ inl h
        | inr (inl h) ↦ inr (inl (record {
          ends = subst (λ n. ends_run style text start n ≡ true) behind h;
          even = taken_by_pairs text start len ∙ ap one_if (ap (taken_from text start) (sym behind) ∙ r.free);
        }))
        | inr (inr h) ↦ inr (inr h)
      ];
    }

-- A run between quotes.
pub runs_end_at_quotes : (text : List ℕ) (start len : ℕ) (cs : List Ch)
    → run_end styles.Quoted text start cs ≡ Some (start + len) → get_or text (start + len) 0 ≡ 34
    → IsFirstClosingQuote (drop start text) len
unfolding ends_run
runs_end_at_quotes text start len cs run quote =
    let r = reached styles.Quoted text start (start + len) cs run in
    record {
      is = record { quote = get_or-drop start text len 0 ∙ quote; even = taken_by_pairs text start len ∙ ap one_if r.free };
      first = λ i lt is.
          let free = untaken (taken_from text start (start + i)) (sym (taken_by_pairs text start i) ∙ is.even) in
          let ends : ends_run styles.Quoted text start (start + i) ≡ true = eq-eqb _ _ (sym (get_or-drop start text i 0) ∙ is.quote) in
          r.none (start + i) (omega arith) (omega arith) free ends;
    }

pub words_end_at_quotes : (text : List ℕ) (at end : ℕ) (cs : List Ch) → quoted_end text at cs ≡ Some end → IsBehindFirstQuote text at end
unfolding quoted_end
words_end_at_quotes text at end cs h =
    let a = then_parts (run_end styles.Quoted text (at + 1) cs) _ end h in
    let after = (reached styles.Quoted text (at + 1) a.0 cs a.1).after in
    let len : ℕ = a.0 - (at + 1) in
    let last : a.0 ≡ at + 1 + len = omega arith in
    choose (get_or text a.0 0 == 34) (Some (a.0 + 1)) None (Some end) a.2
    (λ quote e.
    let same : a.0 + 1 ≡ end = cc e in
    record {
      len = len;
      behind = omega (arith, same);
      is = runs_end_at_quotes text (at + 1) len cs (a.1 ∙ ap Some last) (ap (λ n. get_or text n 0) (sym last)
          ∙ eqb-true (get_or text a.0 0) 34 quote);
    })
    (λ quote e. absurd (none_some end e))
