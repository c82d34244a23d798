-- The characters of a run without a backslash are its bytes.
use Rattle.std.proofs.Common.{◌≡◌, ◌≢◌, ℕ, zero, suc, ◌+◌, ◌-◌, ◌<◌, ◌≤◌, List, [], ◌∷◌, length, take, drop, map}
use Rattle.std.proofs.Common.{get_or, false, refl, sym, ◌∙◌, ap, Some, ◌*◌, drop-cons, arith}
use Rattle.std.proofs.lemmas.Bool.{eqb-true, and_parts, true≢false}
use Rattle.std.specs.Prelude.{◌==◌, ◌&&◌, if◌then◌else◌, nat_le, nat_lt}
use Rattle.sudo_text.specs.declared.token.Ch.{Ch}
use Rattle.sudo_text.specs.declared.piece.Style.{Style}
use Rattle.sudo_text.specs.declared.piece.Piece.{Piece}
use Rattle.sudo_text.specs.declared.piece.Piece.TheVariants.{Char, End, Bad}
use Rattle.sudo_text.specs.declared.piece.Flaw.TheVariants as flaws
use Rattle.sudo_text.specs.Bytes.{is_blank, is_hex, is_control, hex_value}
use Rattle.sudo_text.specs.Pieces.{plain, escaped, ends_run, has_hex, is_arguments, hex_at, escape_at, blanks_at, piece_at, reach, run_end}
use Rattle.sudo_text.proofs.RunCharacters.{choose, bad_char, end_char, follow-parts, run_parts}
use Rattle.sudo_text.proofs.ClosingQuotes.{short, next_is}
use Rattle.sudo_text.proofs.ArgumentBlanks.{same_char}
use Rattle.sudo_text.proofs.Endings.{piece_moves, reach-moves}

escape_after : (style : Style) (text : List ℕ) (at : ℕ) (c : Ch) (n : ℕ) → escape_at style text at ≡ Char c n → at < n
unfolding escape_at hex_at
escape_after style text at c n is =
    let next : ℕ = get_or text (at + 1) 0 in
    let high : ℕ = get_or text (at + 2) 0 in
    let low : ℕ = get_or text (at + 3) 0 in
    let last : Piece = if is_control next then Bad flaws.NotPrintable (at + 1) else Char (escaped next) (at + 2) in
    choose (nat_le (length text) (at + 1)) (Bad flaws.BadEscape at)
    (if has_hex style && (next == 120) then hex_at text at else last) (Char c n) is
    (λ w e. absurd (bad_char _ _ _ _ e))
    (λ w rest. choose (has_hex style && (next == 120)) (hex_at text at) last (Char c n) rest
    (λ x hex. choose (nat_lt (at + 3) (length text) && is_hex high && is_hex low)
    (Char (escaped (hex_value high * 16 + hex_value low)) (at + 4)) (Bad flaws.BadHex at) (Char c n) hex
    (λ y e. let there = next_is _ _ _ _ e in omega (arith, there)) (λ y e. absurd (bad_char _ _ _ _ e)))
    (λ x others. choose (is_control next) (Bad flaws.NotPrintable (at + 1)) (Char (escaped next) (at + 2)) (Char c n) others
    (λ y e. absurd (bad_char _ _ _ _ e)) (λ y e. let there = next_is _ _ _ _ e in omega (arith, there))))

-- One byte as it stands, where it is no backslash.
record IsPlainAt (text : List ℕ) (at : ℕ) (c : Ch) (n : ℕ) : Type 0 where
  within : at < length text
  next : n ≡ at + 1
  char : c ≡ plain (get_or text at 0)

plain_piece : (style : Style) (text : List ℕ) (start at end : ℕ) (c : Ch) (n : ℕ) → is_arguments style ≡ false
    → (at < end → get_or text at 0 ≢ 92) → n ≤ end
    → piece_at style text start at ≡ Char c n → IsPlainAt text at c n
unfolding piece_at
plain_piece style text start at end c n off none before is =
    let byte : ℕ = get_or text at 0 in
    let last : Piece = Char (plain byte) (at + 1) in
    let fourth : Piece = if is_arguments style && is_blank byte then blanks_at text at else last in
    let third : Piece = if is_control byte then Bad flaws.NotPrintable at else fourth in
    let second : Piece = if ends_run style text start at then End else third in
    choose (nat_le (length text) at) End (if byte == 92 then escape_at style text at else second) (Char c n) is
    (λ w e. absurd (end_char _ _ e))
    (λ w rest. choose (byte == 92) (escape_at style text at) second (Char c n) rest
    (λ slash e. let after = escape_after style text at c n e in absurd (none (omega arith) (eqb-true byte 92 slash)))
    (λ slash rest2. choose (ends_run style text start at) End third (Char c n) rest2
    (λ ends e. absurd (end_char _ _ e))
    (λ ends rest3. choose (is_control byte) (Bad flaws.NotPrintable at) fourth (Char c n) rest3
    (λ control e. absurd (bad_char _ _ _ _ e))
    (λ control rest4. choose (is_arguments style && is_blank byte) (blanks_at text at) last (Char c n) rest4
    (λ v e. absurd (true≢false (sym (and_parts (is_arguments style) (is_blank byte) v).0 ∙ off)))
    (λ v e. record { within = short _ _ w; next = sym (next_is _ _ _ _ e); char = sym (same_char _ _ _ _ e) })))))

plain-reach : (style : Style) (text : List ℕ) (start at len : ℕ) (cs : List Ch) → is_arguments style ≡ false
    → start ≤ at → ((i : ℕ) → i < len → get_or text (at + i) 0 ≢ 92)
    → reach style text start at cs ≡ Some (at + len) → cs ≡ map plain (take len (drop at text))
unfolding reach
plain-reach style text start at zero [] off from none h = refl
plain-reach style text start at (suc len) [] off from none h =
    let same : at ≡ at + suc len = cc h in
    absurd (omega arith)
plain-reach style text start at len (c ∷ cs) off from none h =
    let step = follow-parts (piece_at style text start at) c _ (at + len) h in
    let next : ℕ = step.0 in
    let first = (piece_moves style text start at c next from step.1).after in
    let before = (reach-moves style text start next (at + len) cs (omega arith) step.2).after in
    let zero_more : at + 0 ≡ at = omega arith in
    let one = plain_piece style text start at (at + len) c next off
    (λ lt e. none 0 (omega arith) (ap (λ n. get_or text n 0) zero_more ∙ e)) before step.1 in
    let after = one.next in
    let left : ℕ = len - 1 in
    let less : suc left ≡ len = omega arith in
    let there : next ≡ suc at = omega arith in
    let end : at + len ≡ next + left = omega arith in
    let tail = plain-reach style text start next left cs off (omega arith)
    (λ i lt e. let moved : at + suc i ≡ next + i = omega arith in none (suc i) (omega arith) (ap (λ n. get_or text n 0) moved ∙ e))
    (step.2 ∙ ap Some end) in
    let byte : ℕ = get_or text at 0 in
    (λ i. one.char i ∷ tail i)
    ∙ ap (λ n. plain byte ∷ map plain (take left (drop n text))) there
    ∙ ap (λ xs. map plain (take (suc left) xs)) (sym (drop-cons text at 0 one.within))
    ∙ ap (λ k. map plain (take k (drop at text))) less

pub plain-run : (style : Style) (text : List ℕ) (start len : ℕ) (cs : List Ch) → is_arguments style ≡ false
    → ((i : ℕ) → i < len → get_or text (start + i) 0 ≢ 92)
    → run_end style text start cs ≡ Some (start + len) → cs ≡ map plain (take len (drop start text))
plain-run style text start len cs off none run =
    let parts = run_parts style text start (start + len) cs run in
    plain-reach style text start start len cs off (omega arith) none parts.0
