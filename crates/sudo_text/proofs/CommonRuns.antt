-- The common bytes of a run are its characters.
use Rattle.std.proofs.Common.{◌≡◌, ℕ, suc, ◌+◌, ◌-◌, ◌<◌, Bool, List, [], ◌∷◌, ◌++◌, length, take, drop, map, get_or}
use Rattle.std.proofs.Common.{true, false, refl, sym, ◌∙◌, ap, subst, Some, arith, drop-cons, get_or-drop}
use Rattle.std.proofs.Common.{append_assoc, length-drop, add-one}
use Rattle.std.specs.Prelude.{◌==◌, ◌&&◌, not, nat_le, cond, if◌then◌else◌}
use Rattle.std.specs.List.{take_while}
use Rattle.std.proofs.lemmas.Bool.Decides.{nat_tests}
use Rattle.std.proofs.lemmas.List.{append-nil}
use Rattle.std.proofs.lemmas.List.Sums.{take_while-cons}
use Rattle.std.proofs.lemmas.List.Folds.{length-prefix_len}
use Rattle.std.proofs.Math.Bool.{and-false}
use Rattle.sudo_text.specs.declared.token.Ch.{Ch}
use Rattle.sudo_text.specs.declared.piece.Style.{Style}
use Rattle.sudo_text.specs.declared.piece.Style.TheVariants as styles
use Rattle.sudo_text.specs.declared.piece.Piece.TheVariants.{Char}
use Rattle.sudo_text.specs.Bytes.{is_blank, is_control}
use Rattle.sudo_text.specs.Body.Common.{is_common, is_defaults_word, common_bytes}
use Rattle.sudo_text.specs.Pieces.{plain, ends_word, ends_run, is_arguments, piece_at, reach}
use Rattle.sudo_text.proofs.RunCharacters.{reach-push}

-- What a common byte is not.
record IsBare (b : ℕ) : Type 0 where
  space : (b == 32) ≡ false
  tab : (b == 9) ≡ false
  blank : is_blank b ≡ false
  control : is_control b ≡ false
  backslash : (b == 92) ≡ false
  quote : (b == 34) ≡ false
  hash : (b == 35) ≡ false
  bang : (b == 33) ≡ false
  equals : (b == 61) ≡ false
  comma : (b == 44) ≡ false
  colon : (b == 58) ≡ false
  left : (b == 40) ≡ false
  right : (b == 41) ≡ false

bare : (b : ℕ) → is_common b ≡ true → IsBare b
bare b h = record {
  space = grind (arith, nat_tests);
  tab = grind (arith, nat_tests);
  blank = grind (arith, nat_tests);
  control = grind (arith, nat_tests);
  backslash = grind (arith, nat_tests);
  quote = grind (arith, nat_tests);
  hash = grind (arith, nat_tests);
  bang = grind (arith, nat_tests);
  equals = grind (arith, nat_tests);
  comma = grind (arith, nat_tests);
  colon = grind (arith, nat_tests);
  left = grind (arith, nat_tests);
  right = grind (arith, nat_tests);
}

no_word_end : (text : List ℕ) (start at : ℕ) → IsBare (get_or text at 0) → ends_word text start at ≡ false
unfolding ends_word
no_word_end text start at b =
    simp (b.space, b.tab, b.quote, b.hash, b.bang, b.equals, b.comma, b.colon, b.left, b.right)

no_end : (style : Style) (text : List ℕ) (start at : ℕ) → is_defaults_word style ≡ false → IsBare (get_or text at 0)
    → ends_run style text start at ≡ false
unfolding ends_run
no_end styles.Quoted text start at other b = b.quote
no_end styles.Word text start at other b = rw (no_word_end text start at b) (and-false (not (at == start)))
no_end styles.DefaultsWord text start at other b = cc
no_end styles.Value text start at other b = simp (b.space, b.tab, b.comma, b.quote, b.hash) (and-false (not (at == start)))
no_end styles.Path text start at other b = simp (b.space, b.tab, b.comma, b.colon, b.equals, b.hash) (and-false (not (at == start)))
no_end styles.Arguments text start at other b = simp (b.comma, b.colon, b.hash)
no_end styles.Include text start at other b = simp (b.space, b.tab, b.quote) (and-false (not (at == start)))

within : (m n : ℕ) → n < m → nat_le m n ≡ false
within m n h = grind (arith, nat_tests)

-- A common byte is a plain character.
common_piece : (style : Style) (text : List ℕ) (start at : ℕ) → is_defaults_word style ≡ false → at < length text
    → is_common (get_or text at 0) ≡ true
    → piece_at style text start at ≡ Char (plain (get_or text at 0)) (at + 1)
unfolding piece_at
common_piece style text start at other there common =
    let b = bare (get_or text at 0) common in
    let blanks : (is_arguments style && is_blank (get_or text at 0)) ≡ false = rw b.blank (and-false (is_arguments style)) in
    rw (within (length text) at there) (rw b.backslash (rw (no_end style text start at other b) (rw b.control (rw blanks refl))))

common_case : (b : Bool) (P : Bool → Type 0) → (b ≡ true → P true) → (b ≡ false → P false) → P b
common_case true P on_true on_false = on_true refl
common_case false P on_true on_false = on_false refl

common_byte : (text : List ℕ) (at b : ℕ) (rest : List ℕ) → drop at text ≡ b ∷ rest → get_or text at 0 ≡ b
common_byte text at b rest is =
    let moved : at + 0 ≡ at = omega arith in
    ap (λ n. get_or text n 0) (sym moved) ∙ sym (get_or-drop at text 0 0) ∙ ap (λ xs. get_or xs 0 0) is

common_rest : (text : List ℕ) (at b : ℕ) (rest : List ℕ) → drop at text ≡ b ∷ rest → at < length text → drop (suc at) text ≡ rest
common_rest text at b rest is there = ap (λ xs. drop 1 xs) (sym (drop-cons text at 0 there) ∙ is)

reach-none : (style : Style) (text : List ℕ) (start at : ℕ) (cs : List Ch) → reach style text start start cs ≡ Some at
    → reach style text start start (cs ++ []) ≡ Some (at + 0)
reach-none style text start at cs h =
    let none : at ≡ at + 0 = omega arith in
    ap (reach style text start start) (append-nil cs) ∙ h ∙ ap Some none

common_reach : (style : Style) (text : List ℕ) (start at : ℕ) (cs : List Ch) (bs : List ℕ)
    → is_defaults_word style ≡ false → drop at text ≡ bs
    → reach style text start start cs ≡ Some at
    → reach style text start start (cs ++ map plain (take_while is_common bs)) ≡ Some (at + length (take_while is_common bs))
common_reach style text start at cs [] other bs h = reach-none style text start at cs h
common_reach style text start at cs (b ∷ rest) other bs h =
    let there : at < length text = omega (arith, length-drop at text, ap length bs) in
    let byte : get_or text at 0 ≡ b = common_byte text at b rest bs in
    let behind : drop (suc at) text ≡ rest = common_rest text at b rest bs there in
    let Reached : List ℕ → Type 0 = λ xs. reach style text start start (cs ++ map plain xs) ≡ Some (at + length xs) in
    subst Reached (sym (take_while-cons is_common b rest))
    (common_case (is_common b) (λ t. Reached (cond t (b ∷ take_while is_common rest) []))
    (λ common.
    let piece : piece_at style text start at ≡ Char (plain b) (suc at) =
    subst (λ x. piece_at style text start at ≡ Char (plain x) (suc at)) byte
    (common_piece style text start at other there (ap is_common byte ∙ common)
    ∙ ap (λ n. Char (plain (get_or text at 0)) n) (add-one at)) in
    let on = common_reach style text start (suc at) (cs ++ plain b ∷ []) rest other behind
    (reach-push style text start start at (suc at) cs (plain b) h piece) in
    let count : suc at + length (take_while is_common rest) ≡ at + suc (length (take_while is_common rest)) = omega arith in
    ap (reach style text start start) (sym (append_assoc cs (plain b ∷ []) (map plain (take_while is_common rest)))) ∙ on ∙ ap Some count)
    (λ other_byte. reach-none style text start at cs h))

-- The common bytes from an offset on are the next characters of the run.
pub reach-common : (style : Style) (text : List ℕ) (start at : ℕ) (cs : List Ch) → reach style text start start cs ≡ Some at
    → reach style text start start (cs ++ map plain (common_bytes style text at)) ≡ Some (at + length (common_bytes style text at))
reach-common style text start at cs h =
    common_case (is_defaults_word style)
    (λ t. reach style text start start (cs ++ map plain (if t then [] else take_while is_common (drop at text)))
    ≡ Some (at + length (if t then [] else take_while is_common (drop at text))))
    (λ word. reach-none style text start at cs h)
    (λ other. common_reach style text start at cs (drop at text) other refl h)

-- They are cut out of the text by their length.
pub common_cut : (style : Style) (text : List ℕ) (at end : ℕ) → end ≡ at + length (common_bytes style text at)
    → take (end - at) (drop at text) ≡ common_bytes style text at
common_cut style text at end is =
    let count : end - at ≡ length (common_bytes style text at) = omega arith in
    ap (λ n. take n (drop at text)) count ∙
    common_case (is_defaults_word style)
    (λ t. take (length (if t then [] else take_while is_common (drop at text))) (drop at text) ≡
    (if t then [] else take_while is_common (drop at text)))
    (λ word. refl)
    (λ other. ap (λ n. take n (drop at text)) (length-prefix_len is_common (drop at text)))

-- The characters that are reached once the common bytes are appended.
pub reach-pushed : (style : Style) (text : List ℕ) (start at end : ℕ) (cs ds : List Ch) → end ≡ at + length (common_bytes style text at)
    → ds ≡ cs ++ map plain (take (end - at) (drop at text)) → reach style text start start cs ≡ Some at
    → reach style text start start ds ≡ Some end
reach-pushed style text start at end cs ds is pushed h =
    ap (reach style text start start) (pushed ∙ ap (λ bs. cs ++ map plain bs) (common_cut style text at end is))
    ∙ reach-common style text start at cs h ∙ ap Some (sym is)
