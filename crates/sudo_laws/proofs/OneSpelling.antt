-- Bytes spell one list of characters, and the text of a name spells characters of its bytes.
use Rattle.std.proofs.Common.{◌≡◌, ◌≢◌, ℕ, ◌+◌, ◌-◌, ◌≤◌, ◌*◌, ◌/◌, ◌%◌, ◌<◌, Bool, true, false, ◌&&◌, if◌then◌else◌, List, []}
use Rattle.std.proofs.Common.{◌∷◌, ◌++◌, refl, sym, ◌∙◌, ap, subst, inl, inr, ◌⊎◌, arith}
use Rattle.std.specs.Prelude.{nat_le, nat_lt}
use Rattle.std.proofs.lemmas.Bool.{cases_Bool}
use Rattle.std.proofs.lemmas.Bool.Decides.{nat_tests}
use Rattle.sudo_grammar.specs.Words.{bytes_of}
use Rattle.sudo_laws.specs.Spelled.{Spells, SpellsAll, blanks, escape, itself, next, none, number}
use Rattle.sudo_parser.specs.Texts.{byte_text, hex_digit, is_ascii_control, name_text, needs_backslash}
use Rattle.sudo_text.specs.Bytes.{hex_value, is_control, is_hex}
use Rattle.sudo_text.specs.Pieces.{escaped, plain}
use Rattle.sudo_text.specs.declared.token.Ch.{Ch}

-- ---- One list of characters

-- two spellings at the beginning of one text
record SameFirst (c d : Ch) (r s : List ℕ) : Type 0 where
  char : c ≡ d
  rest : r ≡ s

first_same : (hex : Bool) (c d : Ch) (xs ys r s : List ℕ) → Spells hex false c xs → Spells hex false d ys → xs ++ r ≡ ys ++ s
    → SameFirst c d r s
first_same hex c d xs ys r s (blanks b bs style all) second e = absurd (let f : false ≡ true = style in cc)
first_same hex c d xs ys r s first (blanks b bs style all) e = absurd (let f : false ≡ true = style in cc)
first_same hex c d xs ys r s (itself b slash control) (itself b2 slash2 control2) e =
    let same : b ≡ b2 = cc in record { char = ap plain same; rest = cc }
first_same hex c d xs ys r s (itself b slash control) (escape b2 control2 other2) e = absurd (let is : b ≡ 92 = cc in slash is)
first_same hex c d xs ys r s (itself b slash control) (number h2 l2 style2 high2 low2) e = absurd (let is : b ≡ 92 = cc in slash is)
first_same hex c d xs ys r s (escape b control other) (itself b2 slash2 control2) e = absurd (let is : b2 ≡ 92 = cc in slash2 is)
first_same hex c d xs ys r s (escape b control other) (escape b2 control2 other2) e =
    let same : b ≡ b2 = cc in record { char = ap escaped same; rest = cc }
first_same hex c d xs ys r s (escape b control other) (number h2 l2 style2 high2 low2) e =
    absurd (let is : b ≡ 120 = cc in other style2 is)
first_same hex c d xs ys r s (number h l style high low) (itself b2 slash2 control2) e = absurd (let is : b2 ≡ 92 = cc in slash2 is)
first_same hex c d xs ys r s (number h l style high low) (escape b2 control2 other2) e =
    absurd (let is : b2 ≡ 120 = cc in other2 style is)
first_same hex c d xs ys r s (number h l style high low) (number h2 l2 style2 high2 low2) e =
    let one : h ≡ h2 = cc in
    let two : l ≡ l2 = cc in
    record {
      char = ap (λ n. escaped (hex_value n * 16 + hex_value l)) one ∙ ap (λ n. escaped (hex_value h2 * 16 + hex_value n)) two;
      rest = cc;
    }

some_first : (hex : Bool) (c : Ch) (xs rest : List ℕ) → Spells hex false c xs → xs ++ rest ≡ [] → ⊥
some_first hex c xs rest (itself b slash control) e = cc
some_first hex c xs rest (escape b control other) e = cc
some_first hex c xs rest (number h l style high low) e = cc
some_first hex c xs rest (blanks b bs style all) e = cc

spelled_same : (hex : Bool) (cs ds : List Ch) (xs ys : List ℕ) → SpellsAll hex false cs xs → SpellsAll hex false ds ys → xs ≡ ys
    → cs ≡ ds
spelled_same hex cs ds xs ys none none e = refl
spelled_same hex cs ds xs ys none (next d more first rest spell others) e = absurd (some_first hex d first rest spell (sym e))
spelled_same hex cs ds xs ys (next c more first rest spell others) none e = absurd (some_first hex c first rest spell e)
spelled_same hex cs ds xs ys (next c more first rest spell others) (next d more2 first2 rest2 spell2 others2) e =
    let k = first_same hex c d first first2 rest rest2 spell spell2 e in
    ap (λ x. x ∷ more) k.char ∙ ap (λ zs. d ∷ zs) (spelled_same hex more more2 rest rest2 others others2 k.rest)

pub one_spelling : (hex : Bool) (cs ds : List Ch) (bytes : List ℕ) → SpellsAll hex false cs bytes → SpellsAll hex false ds bytes
    → cs ≡ ds
one_spelling hex cs ds bytes first second = spelled_same hex cs ds bytes bytes first second refl

-- ---- The text of a name

-- a character of this byte is spelled
pub record ByteSpelled (b : ℕ) (bytes : List ℕ) : Type 0 where
  pub char : Ch
  pub byte : char.byte ≡ b
  pub spell : Spells true false char bytes
  -- it is escaped, or a byte without a special meaning
  pub form : (char ≡ escaped b) ⊎ ((char ≡ plain b) × (needs_backslash b ≡ false))

hex_is : (n : ℕ) → n < 16 → is_hex (hex_digit n) ≡ true
hex_is n h = elim (cases_Bool (nat_lt n 10)) [
  | inl few ↦ ap (λ b. is_hex (if b then 48 + n else 87 + n)) few ∙ digit n few
  | inr many ↦ ap (λ b. is_hex (if b then 48 + n else 87 + n)) many ∙ letter n h many
]
  where
    digit : (n : ℕ) → nat_lt n 10 ≡ true → is_hex (48 + n) ≡ true
    digit n h = grind (arith, nat_tests)

    letter : (n : ℕ) → n < 16 → nat_lt n 10 ≡ false → is_hex (87 + n) ≡ true
    letter n h many = grind (arith, nat_tests)

value_is : (n : ℕ) → n < 16 → hex_value (hex_digit n) ≡ n
value_is n h = elim (cases_Bool (nat_lt n 10)) [
  | inl few ↦ ap (λ b. hex_value (if b then 48 + n else 87 + n)) few ∙ digit n few
  | inr many ↦ ap (λ b. hex_value (if b then 48 + n else 87 + n)) many ∙ letter n h many
]
  where
    digit : (n : ℕ) → nat_lt n 10 ≡ true → hex_value (48 + n) ≡ n
    digit n h =
        let own : (nat_le 48 (48 + n) && nat_le (48 + n) 57) ≡ true = grind (arith, nat_tests) in
        ap (λ b. if b then 48 + n - 48 else (if nat_le 97 (48 + n) && nat_le (48 + n) 102 then 48 + n - 97 + 10
        else (if nat_le 65 (48 + n) && nat_le (48 + n) 70 then 48 + n - 65 + 10 else 0))) own
        ∙ omega arith

    letter : (n : ℕ) → n < 16 → nat_lt n 10 ≡ false → hex_value (87 + n) ≡ n
    letter n h many =
        let first : (nat_le 48 (87 + n) && nat_le (87 + n) 57) ≡ false = grind (arith, nat_tests) in
        let own : (nat_le 97 (87 + n) && nat_le (87 + n) 102) ≡ true = grind (arith, nat_tests) in
        let least : 10 ≤ n = grind (arith, nat_tests) in
        ap (λ b. if b then 87 + n - 48 else (if nat_le 97 (87 + n) && nat_le (87 + n) 102 then 87 + n - 97 + 10
        else (if nat_le 65 (87 + n) && nat_le (87 + n) 70 then 87 + n - 65 + 10 else 0))) first
        ∙ ap (λ b. if b then 87 + n - 97 + 10 else (if nat_le 65 (87 + n) && nat_le (87 + n) 70 then 87 + n - 65 + 10 else 0)) own
        ∙ omega (arith, least)

control_small : (b : ℕ) → is_ascii_control b ≡ true → b < 128
control_small b h = grind (arith, nat_tests)

pub control_spelled : (b : ℕ) → is_ascii_control b ≡ true → ByteSpelled b (92 ∷ 120 ∷ hex_digit (b / 16) ∷ hex_digit (b % 16) ∷ [])
control_spelled b h =
    let small = control_small b h in
    let high : b / 16 < 16 = omega (arith, small) in
    let low : b % 16 < 16 = omega arith in
    let value : hex_value (hex_digit (b / 16)) * 16 + hex_value (hex_digit (b % 16)) ≡ b =
    ap (λ n. n * 16 + hex_value (hex_digit (b % 16))) (value_is (b / 16) high)
    ∙ ap (λ n. b / 16 * 16 + n) (value_is (b % 16) low)
    ∙ omega arith in
    record {
      char = escaped b;
      byte = refl;
      spell = subst (λ n. Spells true false (escaped n) (92 ∷ 120 ∷ hex_digit (b / 16) ∷ hex_digit (b % 16) ∷ [])) value
          (number (hex_digit (b / 16)) (hex_digit (b % 16)) refl (hex_is (b / 16) high) (hex_is (b % 16) low));
      form = inl refl;
    }

pub escape_fine : (b : ℕ) → needs_backslash b ≡ true → (is_control b ≡ false) × (b ≢ 120)
escape_fine b h = (grind (arith, nat_tests), λ e. x_fine b h e)
  where
    x_fine : (b : ℕ) → needs_backslash b ≡ true → b ≡ 120 → ⊥
    x_fine b h e = (let known : needs_backslash 120 ≡ true = subst (λ n. needs_backslash n ≡ true) e h in cc)

pub plain_fine : (b : ℕ) → needs_backslash b ≡ false → is_ascii_control b ≡ false → (b ≢ 92) × (is_control b ≡ false)
plain_fine b h k = (λ e. slash_fine b h e, grind (arith, nat_tests))
  where
    slash_fine : (b : ℕ) → needs_backslash b ≡ false → b ≡ 92 → ⊥
    slash_fine b h e = (let known : needs_backslash 92 ≡ false = subst (λ n. needs_backslash n ≡ false) e h in cc)

pub escaped_spelled : (b : ℕ) → is_control b ≡ false → b ≢ 120 → ByteSpelled b (92 ∷ b ∷ [])
escaped_spelled b control other = record { char = escaped b; byte = refl; spell = escape b control (λ e. other); form = inl refl }

pub byte_spelled : (b : ℕ) → ByteSpelled b (byte_text b)
byte_spelled b = by (needs_backslash b) refl (is_ascii_control b) refl
  where
    by : (x : Bool) → needs_backslash b ≡ x → (y : Bool) → is_ascii_control b ≡ y
        → ByteSpelled b (if x then 92 ∷ b ∷ [] else if y then 92 ∷ 120 ∷ hex_digit (b / 16) ∷ hex_digit (b % 16) ∷ [] else b ∷ [])
    by true h y k = let f = escape_fine b h in escaped_spelled b f.0 f.1
    by false h true k = control_spelled b k
    by false h false k = let f = plain_fine b h k in record { char = plain b; byte = refl; spell = itself b f.0 f.1; form = inr (refl, h) }

-- characters of these bytes are spelled
pub record NameSpelled (name bytes : List ℕ) : Type 0 where
  pub chars : List Ch
  pub bytes_are : bytes_of chars ≡ name
  pub spell : SpellsAll true false chars bytes

one_more : (b : ℕ) (name first rest : List ℕ) → ByteSpelled b first → NameSpelled name rest → NameSpelled (b ∷ name) (first ++ rest)
one_more b name first rest one more = record {
  chars = one.char ∷ more.chars;
  bytes_are = ap (λ x. x ∷ bytes_of more.chars) one.byte ∙ ap (λ xs. b ∷ xs) more.bytes_are;
  spell = next one.char more.chars first rest one.spell more.spell;
}

pub name_spelled : (name : List ℕ) → NameSpelled name (name_text name)
name_spelled [] = record { chars = []; bytes_are = refl; spell = none }
name_spelled (b ∷ name) = one_more b name (byte_text b) (name_text name) (byte_spelled b) (name_spelled name)
