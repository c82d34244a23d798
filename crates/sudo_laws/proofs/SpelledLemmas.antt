-- The bytes of a run spell its characters.
use Rattle.std.proofs.Common.{◌≡◌, ℕ, suc, ◌+◌, ◌*◌, ◌<◌, Bool, true, false, not, cond, ◌&&◌, ◌==◌, if◌then◌else◌}
use Rattle.std.proofs.Common.{List, [], ◌∷◌, ◌++◌, length, take, drop, get_or, Some, None, refl, sym, ◌∙◌, ap, subst, drop-cons, arith}
use Rattle.std.proofs.Common.{append_assoc, length-append}
use Rattle.std.specs.Prelude.{◌≢◌, nat_le, nat_lt}
use Rattle.std.specs.List.{prefix_len, take_while}
use Rattle.std.proofs.lemmas.List.{take-append-drop}
use Rattle.std.proofs.lemmas.List.Folds.{length-prefix_len}
use Rattle.std.proofs.lemmas.Bool.{and_parts, eqb-false, eqb-true}
use Rattle.std.proofs.lemmas.Bool.Decides.{nat_tests}
use Rattle.sudo_laws.proofs.TestLemmas.{Each, each_both, each_first, each_none, each_one, each_rest}
use Rattle.sudo_laws.specs.Spelled.{Spells, SpellsAll, blanks, escape, itself, next, none, number}
use Rattle.sudo_match.proofs.ItemLemmas.{drop-drop}
use Rattle.sudo_text.proofs.ArgumentBlanks.{same_char}
use Rattle.sudo_text.proofs.ClosingQuotes.{less, next_is, short}
use Rattle.sudo_text.proofs.RunCharacters.{bad_char, choose, end_char, follow-parts, run_parts, same_ch-self}
use Rattle.sudo_text.specs.Bytes.{hex_value, is_blank, is_control, is_hex}
use Rattle.sudo_text.specs.Pieces.{blanks_at, ends_run, escape_at, escaped, follow, has_hex, hex_at, is_arguments, piece_at}
use Rattle.sudo_text.specs.Pieces.{plain, reach, run_end, same_ch, skip}
use Rattle.sudo_text.specs.declared.token.Ch.{Ch}

-- ---- One character

-- bytes from an offset on spell a character, up to another offset
pub record Step (hex spaced : Bool) (text : List ℕ) (at : ℕ) (c : Ch) (n : ℕ) : Type 0 where
  pub bytes : List ℕ
  pub spell : Spells hex spaced c bytes
  pub parts : drop at text ≡ bytes ++ drop n text
  pub moves : n ≡ at + length bytes

byte_parts : (text : List ℕ) (at n : ℕ) → at < length text → suc at ≡ n → drop at text ≡ get_or text at 0 ∷ drop n text
byte_parts text at n within more = drop-cons text at 0 within ∙ ap (λ m. get_or text at 0 ∷ drop m text) more

step_to : (hex spaced : Bool) (text : List ℕ) (at : ℕ) (c d : Ch) (n m : ℕ) → c ≡ d → n ≡ m → Step hex spaced text at c n
    → Step hex spaced text at d m
step_to hex spaced text at c d n m char to step =
    subst (λ x. Step hex spaced text at x m) char (subst (λ k. Step hex spaced text at c k) to step)

one_byte : (hex spaced : Bool) (text : List ℕ) (at : ℕ) → at < length text → (get_or text at 0 == 92) ≡ false
    → is_control (get_or text at 0) ≡ false → Step hex spaced text at (plain (get_or text at 0)) (at + 1)
one_byte hex spaced text at within slash control = record {
  bytes = get_or text at 0 ∷ [];
  spell = itself (get_or text at 0) (eqb-false (get_or text at 0) 92 slash) control;
  parts = byte_parts text at (at + 1) within (omega arith);
  moves = omega arith;
}

-- a byte that is no `x`, where that matters
no_x : (hex : Bool) (b : ℕ) → (hex && (b == 120)) ≡ false → hex ≡ true → b ≢ 120
no_x true b h style = eqb-false b 120 h
no_x false b h style = cc

two_bytes : (hex spaced : Bool) (text : List ℕ) (at : ℕ) → at + 1 < length text → get_or text at 0 ≡ 92
    → (hex && (get_or text (at + 1) 0 == 120)) ≡ false → is_control (get_or text (at + 1) 0) ≡ false
    → Step hex spaced text at (escaped (get_or text (at + 1) 0)) (at + 2)
two_bytes hex spaced text at within slash other control = record {
  bytes = 92 ∷ get_or text (at + 1) 0 ∷ [];
  spell = escape (get_or text (at + 1) 0) control (no_x hex (get_or text (at + 1) 0) other);
  parts = byte_parts text at (at + 1) (omega (arith, within)) (omega arith)
      ∙ ap (λ b. b ∷ drop (at + 1) text) slash
      ∙ ap (λ xs. 92 ∷ xs) (byte_parts text (at + 1) (at + 2) within (omega arith));
  moves = omega arith;
}

four_bytes : (hex spaced : Bool) (text : List ℕ) (at : ℕ) → at + 3 < length text → get_or text at 0 ≡ 92
    → get_or text (at + 1) 0 ≡ 120 → hex ≡ true → is_hex (get_or text (at + 2) 0) ≡ true → is_hex (get_or text (at + 3) 0) ≡ true
    → Step hex spaced text at (escaped (hex_value (get_or text (at + 2) 0) * 16 + hex_value (get_or text (at + 3) 0))) (at + 4)
four_bytes hex spaced text at within slash x style first second = record {
  bytes = 92 ∷ 120 ∷ get_or text (at + 2) 0 ∷ get_or text (at + 3) 0 ∷ [];
  spell = number (get_or text (at + 2) 0) (get_or text (at + 3) 0) style first second;
  parts = byte_parts text at (at + 1) (omega (arith, within)) (omega arith)
      ∙ ap (λ b. b ∷ drop (at + 1) text) slash
      ∙ ap (λ xs. 92 ∷ xs) (byte_parts text (at + 1) (at + 2) (omega (arith, within)) (omega arith)
      ∙ ap (λ b. b ∷ drop (at + 2) text) x
      ∙ ap (λ xs. 120 ∷ xs) (byte_parts text (at + 2) (at + 3) (omega (arith, within)) (omega arith)
      ∙ ap (λ xs. get_or text (at + 2) 0 ∷ xs) (byte_parts text (at + 3) (at + 4) within (omega arith))));
  moves = omega arith;
}

-- ---- Blanks

blanks_front : (xs : List ℕ) → xs ≡ take_while is_blank xs ++ drop (length (take_while is_blank xs)) xs
blanks_front xs =
    sym (take-append-drop (prefix_len is_blank xs) xs)
    ∙ ap (λ n. take_while is_blank xs ++ drop n xs) (sym (length-prefix_len is_blank xs))

-- as many as the blanks before it and one
more_blanks : (x : ℕ) (xs : List ℕ) → is_blank x ≡ true → prefix_len is_blank (x ∷ xs) ≡ suc (prefix_len is_blank xs)
more_blanks x xs here = ap (λ b. cond b (1 + prefix_len is_blank xs) 0) here ∙ omega arith

blanks_each : (xs : List ℕ) → Each is_blank true (take_while is_blank xs)
blanks_each [] = each_none is_blank true
blanks_each (x ∷ xs) = by (is_blank x) refl (blanks_each xs)
  where
    by : (b : Bool) → is_blank x ≡ b → Each is_blank true (take_while is_blank xs)
        → Each is_blank true (take_while is_blank (x ∷ xs))
    by true here rest =
        subst (λ n. Each is_blank true (take n (x ∷ xs))) (sym (more_blanks x xs here))
        (each_one is_blank true x (take_while is_blank xs) here rest)
    by false here rest =
        subst (λ n. Each is_blank true (take n (x ∷ xs))) (sym (ap (λ b. cond b (1 + prefix_len is_blank xs) 0) here))
        (each_none is_blank true)

spell_blanks : (hex spaced : Bool) (bs : List ℕ) → spaced ≡ true → Each is_blank true bs → 0 < length bs → Spells hex spaced (plain 32) bs
spell_blanks hex spaced [] style all some = absurd (omega (arith, some))
spell_blanks hex spaced (b ∷ bs) style all some = blanks b bs style all

pub first_blank : (xs : List ℕ) → is_blank (get_or xs 0 0) ≡ true → 0 < length (take_while is_blank xs)
first_blank [] h = cc
first_blank (x ∷ xs) h =
    let whole = length-prefix_len is_blank (x ∷ xs) in
    let more = more_blanks x xs h in
    omega (arith, whole, more)

some_blanks : (hex spaced : Bool) (text : List ℕ) (at : ℕ) → spaced ≡ true → at < length text → is_blank (get_or text at 0) ≡ true
    → Step hex spaced text at (plain 32) (skip text at)
some_blanks hex spaced text at style within blank =
    let rest : List ℕ = drop at text in
    let head : get_or rest 0 0 ≡ get_or text at 0 = ap (λ xs. get_or xs 0 0) (byte_parts text at (at + 1) within (omega arith)) in
    record {
      bytes = take_while is_blank rest;
      spell = spell_blanks hex spaced (take_while is_blank rest) style (blanks_each rest) (first_blank rest (ap is_blank head ∙ blank));
      parts = blanks_front rest
          ∙ ap (λ xs. take_while is_blank rest ++ xs) (drop-drop (length (take_while is_blank rest)) at text);
      moves = refl;
    }

-- ---- The piece at an offset

-- (the type of a piece is one of its crate alone: `follow` says what it is)
some_is : (n m : ℕ) → Some n ≡ Some m → n ≡ m
some_is n m e = cc

escape_step : (style : _) (text : List ℕ) (at : ℕ) (c : Ch) (n : ℕ) (spaced : Bool) → get_or text at 0 ≡ 92
    → follow (escape_at style text at) c (λ m. Some m) ≡ Some n → Step (has_hex style) spaced text at c n
unfolding escape_at hex_at
escape_step style text at c n spaced slash is =
    let high : ℕ = get_or text (at + 2) 0 in
    let low : ℕ = get_or text (at + 3) 0 in
    let piece = follow-parts (escape_at style text at) c (λ m. Some m) n is in
    let to : piece.0 ≡ n = some_is piece.0 n piece.2 in
    choose (nat_le (length text) (at + 1)) _ _ _ piece.1 (λ w e. absurd (bad_char _ _ _ _ e))
    (λ w rest. choose (has_hex style && (get_or text (at + 1) 0 == 120)) _ _ _ rest
    (λ x hex. choose (nat_lt (at + 3) (length text) && is_hex high && is_hex low) _ _ _ hex
    (λ y e. (let style_is = and_parts (has_hex style) (get_or text (at + 1) 0 == 120) x in
    let digits = and_parts (nat_lt (at + 3) (length text) && is_hex high) (is_hex low) y in
    let within = and_parts (nat_lt (at + 3) (length text)) (is_hex high) digits.0 in
    step_to (has_hex style) spaced text at _ c (at + 4) n (same_char _ _ _ _ e) (next_is _ _ _ _ e ∙ to)
    (four_bytes (has_hex style) spaced text at (less (at + 3) (length text) within.0) slash
    (eqb-true (get_or text (at + 1) 0) 120 style_is.1) style_is.0 within.1 digits.1)))
    (λ y e. absurd (bad_char _ _ _ _ e)))
    (λ x others. choose (is_control (get_or text (at + 1) 0)) _ _ _ others (λ y e. absurd (bad_char _ _ _ _ e))
    (λ y e. step_to (has_hex style) spaced text at _ c (at + 2) n (same_char _ _ _ _ e) (next_is _ _ _ _ e ∙ to)
    (two_bytes (has_hex style) spaced text at (short (length text) (at + 1) w) slash x y))))

blanks_step : (hex spaced : Bool) (text : List ℕ) (at : ℕ) (c : Ch) (n : ℕ) → spaced ≡ true → at < length text
    → is_blank (get_or text at 0) ≡ true → follow (blanks_at text at) c (λ m. Some m) ≡ Some n → Step hex spaced text at c n
unfolding blanks_at
blanks_step hex spaced text at c n style within blank is =
    let piece = follow-parts (blanks_at text at) c (λ m. Some m) n is in
    let to : piece.0 ≡ n = some_is piece.0 n piece.2 in
    choose (nat_lt (skip text at) (length text) && not (ends_run _ text (skip text at) (skip text at))) _ _ _ piece.1
    (λ w e. step_to hex spaced text at _ c (skip text at) n (same_char _ _ _ _ e) (next_is _ _ _ _ e ∙ to)
    (some_blanks hex spaced text at style within blank))
    (λ w e. absurd (end_char _ _ e))

-- a character is followed
itself_followed : (c : Ch) (k : ℕ) → (if same_ch c c then Some k else None) ≡ Some k
itself_followed c k = ap (λ b. if b then Some k else None) (same_ch-self c)

followed : (p q : _) (c : Ch) (k n : ℕ) → p ≡ q → follow q c (λ m. Some m) ≡ Some k → k ≡ n → follow p c (λ m. Some m) ≡ Some n
followed p q c k n is one to = ap (λ x. follow x c (λ m. Some m)) is ∙ one ∙ ap Some to

piece_step : (style : _) (text : List ℕ) (start at : ℕ) (c : Ch) (n : ℕ)
    → follow (piece_at style text start at) c (λ m. Some m) ≡ Some n → Step (has_hex style) (is_arguments style) text at c n
unfolding piece_at
piece_step style text start at c n is =
    let byte : ℕ = get_or text at 0 in
    let piece = follow-parts (piece_at style text start at) c (λ m. Some m) n is in
    let to : piece.0 ≡ n = some_is piece.0 n piece.2 in
    choose (nat_le (length text) at) _ _ _ piece.1 (λ w e. absurd (end_char _ _ e))
    (λ w rest. choose (byte == 92) _ _ _ rest
    (λ slash e. escape_step style text at c n (is_arguments style) (eqb-true byte 92 slash)
    (followed _ _ c piece.0 n e (itself_followed c piece.0) to))
    (λ slash rest2. choose (ends_run style text start at) _ _ _ rest2 (λ v e. absurd (end_char _ _ e))
    (λ v rest3. choose (is_control byte) _ _ _ rest3 (λ u e. absurd (bad_char _ _ _ _ e))
    (λ control rest4. choose (is_arguments style && is_blank byte) _ _ _ rest4
    (λ y e. (let blank = and_parts (is_arguments style) (is_blank byte) y in
    blanks_step (has_hex style) (is_arguments style) text at c n blank.0 (short (length text) at w) blank.1
    (followed _ _ c piece.0 n e (itself_followed c piece.0) to)))
    (λ y e. step_to (has_hex style) (is_arguments style) text at _ c (at + 1) n (same_char _ _ _ _ e) (next_is _ _ _ _ e ∙ to)
    (one_byte (has_hex style) (is_arguments style) text at (short (length text) at w) slash control))))))

-- ---- All characters

-- bytes spell characters, up to an offset
record Run (hex spaced : Bool) (text : List ℕ) (at : ℕ) (cs : List Ch) (end : ℕ) : Type 0 where
  bytes : List ℕ
  spell : SpellsAll hex spaced cs bytes
  parts : drop at text ≡ bytes ++ drop end text
  moves : end ≡ at + length bytes

one_more : (hex spaced : Bool) (text : List ℕ) (at n end : ℕ) (c : Ch) (cs : List Ch) → Step hex spaced text at c n
    → Run hex spaced text n cs end → Run hex spaced text at (c ∷ cs) end
one_more hex spaced text at n end c cs step run =
    let first = step.moves in
    let second = run.moves in
    record {
      bytes = step.bytes ++ run.bytes;
      spell = next c cs step.bytes run.bytes step.spell run.spell;
      parts = step.parts ∙ ap (λ xs. step.bytes ++ xs) run.parts ∙ sym (append_assoc step.bytes run.bytes (drop end text));
      moves = omega (arith, first, second, length-append step.bytes run.bytes);
    }

run_from : (style : _) (text : List ℕ) (start at : ℕ) (cs : List Ch) (end : ℕ) → reach style text start at cs ≡ Some end
    → Run (has_hex style) (is_arguments style) text at cs end
unfolding reach
run_from style text start at [] end h =
    let same : at ≡ end = some_is at end h in
    record { bytes = []; spell = none; parts = ap (λ n. drop n text) same; moves = sym same ∙ omega arith }
run_from style text start at (c ∷ cs) end h =
    let piece = follow-parts (piece_at style text start at) c _ end h in
    one_more (has_hex style) (is_arguments style) text at piece.0 end c cs
    (piece_step style text start at c piece.0 (followed _ _ c piece.0 piece.0 piece.1 (itself_followed c piece.0) refl))
    (run_from style text start piece.0 cs end piece.2)

-- ---- No control byte

hex_printable : (b : ℕ) → is_hex b ≡ true → is_control b ≡ false
hex_printable b h = grind (arith, nat_tests)

blank_printable : (b : ℕ) → is_blank b ≡ true → is_control b ≡ false
blank_printable b h = grind (arith, nat_tests)

blanks_printable : (bs : List ℕ) → Each is_blank true bs → Each is_control false bs
blanks_printable [] all = each_none is_control false
blanks_printable (b ∷ bs) all =
    each_one is_control false b bs (blank_printable b (each_first is_blank true b bs all))
    (blanks_printable bs (each_rest is_blank true b bs all))

char_printable : (hex spaced : Bool) (c : Ch) (bs : List ℕ) → Spells hex spaced c bs → Each is_control false bs
char_printable hex spaced c bs (itself b slash control) = each_one is_control false b [] control (each_none is_control false)
char_printable hex spaced c bs (escape b control other) =
    each_one is_control false 92 (b ∷ []) refl (each_one is_control false b [] control (each_none is_control false))
char_printable hex spaced c bs (number high low style first second) =
    each_one is_control false 92 (120 ∷ high ∷ low ∷ []) refl
    (each_one is_control false 120 (high ∷ low ∷ []) refl
    (each_one is_control false high (low ∷ []) (hex_printable high first)
    (each_one is_control false low [] (hex_printable low second) (each_none is_control false))))
char_printable hex spaced c bs (blanks b rest style all) = blanks_printable (b ∷ rest) all

pub all_printable : (hex spaced : Bool) (cs : List Ch) (bs : List ℕ) → SpellsAll hex spaced cs bs → Each is_control false bs
all_printable hex spaced cs bs none = each_none is_control false
all_printable hex spaced cs bs (next c more first rest spell others) =
    each_both is_control false first rest (char_printable hex spaced c first spell) (all_printable hex spaced more rest others)

-- ---- Both laws

pub taken : (front back : List ℕ) → take (length front) (front ++ back) ≡ front
taken [] back = refl
taken (b ∷ front) back = ap (λ xs. b ∷ xs) (taken front back)

run_bytes : (hex spaced : Bool) (text : List ℕ) (start len : ℕ) (cs : List Ch) (run : Run hex spaced text start cs (start + len))
    → run.bytes ≡ take len (drop start text)
run_bytes hex spaced text start len cs run =
    let moves = run.moves in
    let same : length run.bytes ≡ len = omega (arith, moves) in
    sym (taken run.bytes (drop (start + len) text))
    ∙ ap (λ n. take n (run.bytes ++ drop (start + len) text)) same
    ∙ ap (take len) (sym run.parts)

pub run_spells : (style : _) (text : List ℕ) (start len : ℕ) (cs : List Ch) → run_end style text start cs ≡ Some (start + len)
    → SpellsAll (has_hex style) (is_arguments style) cs (take len (drop start text))
run_spells style text start len cs h =
    let run = run_from style text start start cs (start + len) (run_parts style text start (start + len) cs h).0 in
    subst (SpellsAll (has_hex style) (is_arguments style) cs) (run_bytes _ _ text start len cs run) run.spell

pub run_printable : (style : _) (text : List ℕ) (start len : ℕ) (cs : List Ch) → run_end style text start cs ≡ Some (start + len)
    → Each is_control false (take len (drop start text))
run_printable style text start len cs h =
    all_printable (has_hex style) (is_arguments style) cs (take len (drop start text)) (run_spells style text start len cs h)
