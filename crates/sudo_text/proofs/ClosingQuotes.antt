-- A quoted word ends at its closing quote.
use Rattle.std.proofs.Common.{◌≡◌, ℕ, ◌+◌, ◌<◌, Bool, List, [], ◌∷◌, length, drop, get_or, true, false, refl, sym}
use Rattle.std.proofs.Common.{◌∙◌, ap, subst, Some, ◌*◌, add-one, drop-cons, arith}
use Rattle.std.proofs.lemmas.List.{drop_all}
use Rattle.sudo_text.specs.declared.piece.Flaw.TheVariants as flaws
use Rattle.sudo_text.specs.Bytes.{hex_value}
use Rattle.sudo_text.specs.Pieces.{plain, escaped}
use Rattle.std.proofs.lemmas.Bool.Decides.{nat_tests}
use Rattle.std.specs.Prelude.{◌==◌, ◌&&◌, if◌then◌else◌, nat_le, nat_lt}
use Rattle.std.proofs.lemmas.Bool.{and_parts, false≢true}
use Rattle.sudo_text.specs.declared.token.Ch.{Ch}
use Rattle.sudo_text.specs.declared.piece.Style.TheVariants as styles
use Rattle.sudo_text.specs.declared.piece.Piece.{Piece}
use Rattle.sudo_text.specs.declared.piece.Piece.TheVariants.{Char, End, Bad}
use Rattle.sudo_text.proofs.RunCharacters.{choose, bad_char, bad_end, end_char, follow-parts, run_parts}
use Rattle.sudo_text.specs.Bytes.{is_hex, is_control}
use Rattle.sudo_text.specs.Pieces.{piece_at, escape_at, hex_at, ends_run, reach, run_end}
use Rattle.sudo_text.specs.Tokens.{closes, takes_next, has_closing, quoted_end}

pub closing_at : (taken : Bool) (text : List ℕ) (i : ℕ) → i < length text
    → has_closing taken (drop i text) ≡ (if closes taken (get_or text i 0) then true else has_closing
    (takes_next taken (get_or text i 0)) (drop (i + 1) text))
closing_at taken text i lt = rw (add-one, drop-cons text i 0) refl

-- The byte does not close, so what follows does.
pub closing_on : (taken : Bool) (text : List ℕ) (i : ℕ) → i < length text → closes taken (get_or text i 0) ≡ false
    → has_closing taken (drop i text) ≡ has_closing (takes_next taken (get_or text i 0)) (drop (i + 1) text)
closing_on taken text i lt on =
    let P : Bool → Type 0 = λ t. (if t then true else has_closing (takes_next taken (get_or text i 0))
    (drop (i + 1) text)) ≡ has_closing (takes_next taken (get_or text i 0)) (drop (i + 1) text) in
    closing_at taken text i lt ∙ subst P (sym on) refl

closing_to : (taken next : Bool) (text : List ℕ) (i j : ℕ) → j ≡ i + 1 → i < length text → closes taken (get_or text i 0) ≡ false
    → takes_next taken (get_or text i 0) ≡ next → has_closing taken (drop i text) ≡ has_closing next (drop j text)
closing_to taken next text i j is lt on takes =
    closing_on taken text i lt on ∙ (λ k. has_closing (takes k) (drop (sym is k) text))

pub hex_not_quote : (b : ℕ) → is_hex b ≡ true → (b == 34) ≡ false
hex_not_quote b h = grind (arith, nat_tests)

pub hex_not_escape : (b : ℕ) → is_hex b ≡ true → (b == 92) ≡ false
hex_not_escape b h = grind (arith, nat_tests)

pub escape_not_quote : (b : ℕ) → (b == 92) ≡ true → (b == 34) ≡ false
escape_not_quote b h = grind (arith, nat_tests)

pub short : (a b : ℕ) → nat_le a b ≡ false → b < a
short a b h = grind (arith, nat_tests)

pub less : (a b : ℕ) → nat_lt a b ≡ true → a < b
less a b h = grind (arith, nat_tests)

pub next_is : (c d : Ch) (m n : ℕ) → Char c m ≡ Char d n → m ≡ n
next_is c d m n e = cc

-- An escape in a quoted word is no closing quote.
escape_keeps : (text : List ℕ) (at : ℕ) (c : Ch) (n : ℕ) → at < length text → (get_or text at 0 == 92) ≡ true
    → escape_at styles.Quoted text at ≡ Char c n → has_closing false (drop at text) ≡ has_closing false (drop n text)
unfolding escape_at hex_at
escape_keeps text at c n lt slash is =
    let first : (at + 1 < length text) → has_closing false (drop at text) ≡ has_closing false (drop (at + 2) text)
    = λ more. closing_to false true text at (at + 1) refl lt (escape_not_quote _ slash) slash
    ∙ closing_to true false text (at + 1) (at + 2) (omega arith) more refl refl in
    let next : ℕ = get_or text (at + 1) 0 in
    let high : ℕ = get_or text (at + 2) 0 in
    let low : ℕ = get_or text (at + 3) 0 in
    let byte : Ch = escaped (hex_value high * 16 + hex_value low) in
    let last : Piece = if is_control next then Bad flaws.NotPrintable (at + 1) else Char (escaped next) (at + 2) in
    choose (nat_le (length text) (at + 1)) (Bad flaws.BadEscape at) (if next == 120 then hex_at text at else last) (Char c n) is
    (λ w e. absurd (bad_char _ _ _ _ e))
    (λ w rest. choose (next == 120) (hex_at text at) last (Char c n) rest
    (λ x hex. choose (nat_lt (at + 3) (length text) && is_hex high && is_hex low) (Char byte (at + 4)) (Bad flaws.BadHex at) (Char c n) hex
    (λ fits e.
    let front = and_parts (nat_lt (at + 3) (length text) && is_hex high) (is_hex low) fits in
    let room = and_parts (nat_lt (at + 3) (length text)) (is_hex high) front.0 in
    let lt3 : at + 3 < length text = less _ _ room.0 in
    first (omega (arith, lt3))
    ∙ closing_to false false text (at + 2) (at + 3) (omega arith) (omega (arith, lt3)) (hex_not_quote high room.1)
    (hex_not_escape high room.1)
    ∙ closing_to false false text (at + 3) (at + 4) (omega arith) lt3 (hex_not_quote low front.1) (hex_not_escape low front.1)
    ∙ ap (λ m. has_closing false (drop m text)) (next_is _ _ _ _ e))
    (λ fits e. absurd (bad_char _ _ _ _ e)))
    (λ x others. choose (is_control next) (Bad flaws.NotPrintable (at + 1)) (Char (escaped next) (at + 2)) (Char c n) others
    (λ w2 e. absurd (bad_char _ _ _ _ e))
    (λ w2 e. first (short _ _ w) ∙ ap (λ m. has_closing false (drop m text)) (next_is _ _ _ _ e))))

-- A character of a quoted word is no closing quote.
piece_keeps : (text : List ℕ) (start at : ℕ) (c : Ch) (n : ℕ) → piece_at styles.Quoted text start at ≡ Char c n
    → has_closing false (drop at text) ≡ has_closing false (drop n text)
unfolding piece_at ends_run
piece_keeps text start at c n is =
    let byte : ℕ = get_or text at 0 in
    let last : Piece = Char (plain byte) (at + 1) in
    let third : Piece = if is_control byte then Bad flaws.NotPrintable at else last in
    let second : Piece = if byte == 34 then End else third in
    choose (nat_le (length text) at) End (if byte == 92 then escape_at styles.Quoted text at else second) (Char c n) is
    (λ w e. absurd (end_char _ _ e))
    (λ w rest. choose (byte == 92) (escape_at styles.Quoted text at) second (Char c n) rest
    (λ slash e. escape_keeps text at c n (short _ _ w) slash e)
    (λ slash rest2. choose (byte == 34) End third (Char c n) rest2
    (λ quote e. absurd (end_char _ _ e))
    (λ quote rest3. choose (is_control byte) (Bad flaws.NotPrintable at) last (Char c n) rest3
    (λ control e. absurd (bad_char _ _ _ _ e))
    (λ control e. closing_to false false text at (at + 1) refl (short _ _ w) quote slash
    ∙ ap (λ m. has_closing false (drop m text)) (next_is _ _ _ _ e)))))

pub reach-keeps : (text : List ℕ) (start at end : ℕ) (cs : List Ch) → reach styles.Quoted text start at cs ≡ Some end
    → has_closing false (drop at text) ≡ has_closing false (drop end text)
unfolding reach
reach-keeps text start at end [] h = let e : at ≡ end = cc in ap (λ m. has_closing false (drop m text)) e
reach-keeps text start at end (c ∷ cs) h =
    let step = follow-parts (piece_at styles.Quoted text start at) c _ end h in
    piece_keeps text start at c step.0 step.1 ∙ reach-keeps text start step.0 end cs step.2

hex_not_end : (text : List ℕ) (at : ℕ) → hex_at text at ≡ End → ⊥
unfolding hex_at
hex_not_end text at h =
    let high : ℕ = get_or text (at + 2) 0 in
    let low : ℕ = get_or text (at + 3) 0 in
    choose (nat_lt (at + 3) (length text) && is_hex high && is_hex low)
    (Char (escaped (hex_value high * 16 + hex_value low)) (at + 4)) (Bad flaws.BadHex at) End h
    (λ w e. end_char _ _ (sym e)) (λ w e. bad_end _ _ e)

escape_not_end : (text : List ℕ) (at : ℕ) → escape_at styles.Quoted text at ≡ End → ⊥
unfolding escape_at
escape_not_end text at h =
    let next : ℕ = get_or text (at + 1) 0 in
    let last : Piece = if is_control next then Bad flaws.NotPrintable (at + 1) else Char (escaped next) (at + 2) in
    choose (nat_le (length text) (at + 1)) (Bad flaws.BadEscape at) (if next == 120 then hex_at text at else last) End h
    (λ w e. bad_end _ _ e)
    (λ w rest. choose (next == 120) (hex_at text at) last End rest
    (λ x e. hex_not_end text at e)
    (λ x rest2. choose (is_control next) (Bad flaws.NotPrintable (at + 1)) (Char (escaped next) (at + 2)) End rest2
    (λ y e. bad_end _ _ e) (λ y e. end_char _ _ (sym e))))

none_after : (text : List ℕ) (at : ℕ) → nat_le (length text) at ≡ true → has_closing false (drop at text) ≡ false
none_after text at long = ap (has_closing false) (drop_all at text (grind (arith, nat_tests)))

-- Where nothing goes on and a double quote is still to come, it stands there.
pub end_is_quote : (text : List ℕ) (start at : ℕ) → piece_at styles.Quoted text start at ≡ End → has_closing false (drop at text) ≡ true
    → (at < length text) × ((get_or text at 0 == 34) ≡ true)
unfolding piece_at ends_run
end_is_quote text start at is more =
    let byte : ℕ = get_or text at 0 in
    let last : Piece = Char (plain byte) (at + 1) in
    let third : Piece = if is_control byte then Bad flaws.NotPrintable at else last in
    let second : Piece = if byte == 34 then End else third in
    choose (nat_le (length text) at) End (if byte == 92 then escape_at styles.Quoted text at else second) End is
    (λ w e. absurd (false≢true (sym (none_after text at w) ∙ more)))
    (λ w rest. choose (byte == 92) (escape_at styles.Quoted text at) second End rest
    (λ slash e. absurd (escape_not_end text at e))
    (λ slash rest2. choose (byte == 34) End third End rest2
    (λ quote e. (short _ _ w, quote))
    (λ quote rest3. choose (is_control byte) (Bad flaws.NotPrintable at) last End rest3
    (λ control e. absurd (bad_end _ _ e))
    (λ control e. absurd (end_char _ _ (sym e))))))

-- The run between double quotes ends at a double quote.
pub quote_ends : (text : List ℕ) (start end : ℕ) (cs : List Ch) → run_end styles.Quoted text start cs ≡ Some end
    → has_closing false (drop start text) ≡ true
    → (end < length text) × ((get_or text end 0 == 34) ≡ true)
quote_ends text start end cs run more =
    let parts = run_parts styles.Quoted text start end cs run in
    end_is_quote text start end parts.1 (sym (reach-keeps text start start end cs parts.0) ∙ more)

pub quoted_ends : (text : List ℕ) (at end : ℕ) (cs : List Ch) → run_end styles.Quoted text (at + 1) cs ≡ Some end
    → has_closing false (drop (at + 1) text) ≡ true
    → quoted_end text at cs ≡ Some (end + 1)
unfolding quoted_end
quoted_ends text at end cs run more =
    let q = quote_ends text (at + 1) end cs run more in
    rw run (rw q.1 refl)
