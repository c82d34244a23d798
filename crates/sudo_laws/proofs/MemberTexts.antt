-- The characters that the text of a member spells are read as that member.
use Rattle.std.proofs.Common.{◌≡◌, ◌≢◌, ℕ, ◌+◌, ◌-◌, ◌*◌, ◌/◌, ◌%◌, ◌^◌, ◌<◌, ◌≤◌, Bool, true, false, not, ◌&&◌, ◌||◌, ◌==◌}
use Rattle.std.proofs.Common.{if◌then◌else◌, List, [], ◌∷◌, ◌++◌, map, Option, Some, None, Result, Ok, refl, sym, ◌∙◌, ap, subst}
use Rattle.std.proofs.Common.{inl, inr, ◌⊎◌, length, arith}
use Rattle.std.specs.Prelude.{bytes_eq, codes, decimal}
use Rattle.std.specs.Cmp.Lexicographic.{bytes_decides}
use Rattle.std.specs.List.{list_all}
use Rattle.std.proofs.lemmas.Bool.{and_from, and_parts, lt-ltb}
use Rattle.std.proofs.lemmas.Bool.Decides.{nat_tests}
use Rattle.std.proofs.lemmas.Fmt.{decimal_by_steps}
use Rattle.sudo_grammar.specs.Members.{atom_of, decimal_after, group_of, id_of, in_range, number_of, ok_number, other_atom, plain_atom}
use Rattle.sudo_grammar.specs.Members.{user_of, word_atom}
use Rattle.sudo_grammar.specs.Words.{begins_upper, bytes_of, has_no_escape, is_name, is_name_byte}
use Rattle.sudo_grammar.specs.declared.fault.Refusal.{Refusal}
use Rattle.sudo_grammar.specs.declared.kind.Atom.{Atom}
use Rattle.sudo_grammar.specs.declared.kind.Atom.TheVariants as atoms
use Rattle.sudo_grammar.specs.declared.kind.Kind.{Kind}
use Rattle.sudo_grammar.specs.declared.kind.Kind.TheVariants as kinds
use Rattle.sudo_laws.proofs.OneSpelling.{byte_spelled, name_spelled}
use Rattle.sudo_laws.specs.Spelled.{ReadAsUser, SpellSome, Spells, SpellsAll, escape, itself, next, none}
use Rattle.sudo_policy.proofs.SoundLemmas.{all_append}
use Rattle.sudo_parser.specs.Texts.{atom_text, byte_text, first_text, hex_digit, name_text, needs_backslash, is_ascii_control}
use Rattle.sudo_text.specs.Bytes.{is_control, is_digit}
use Rattle.sudo_text.specs.Pieces.{escaped, plain}
use Rattle.sudo_text.specs.declared.token.Ch.{Ch}
use Rattle.sudo_text.specs.declared.token.TokenKind.{TokenKind}
use Rattle.sudo_text.specs.declared.token.TokenKind.TheVariants.{Word}

-- ---- Words

abbrev atom_by : Kind → TokenKind → Option (List ℕ) → Result Atom Refusal
atom_by kind token o = elim o [ Some w ↦ plain_atom kind token w | None ↦ other_atom kind token ]

pub plain_bytes : (name : List ℕ) → bytes_of (map plain name) ≡ name
plain_bytes [] = refl
plain_bytes (b ∷ name) = ap (λ xs. b ∷ xs) (plain_bytes name)

pub plain_no_escape : (name : List ℕ) → has_no_escape (map plain name) ≡ true
plain_no_escape [] = refl
plain_no_escape (b ∷ name) = plain_no_escape name

-- a word that is no name of an alias, and not ALL
pub word_read : (kind : Kind) (chars : List Ch) (name : List ℕ) → bytes_of chars ≡ name → is_name name ≡ false
    → bytes_eq name (codes "ALL") ≡ false → atom_of kind (Word false chars) ≡ word_atom kind false chars
word_read kind chars name bytes no_name no_all = by (has_no_escape chars)
  where
    by : (b : Bool) → atom_by kind (Word false chars) (if b then Some (bytes_of chars) else None) ≡ word_atom kind false chars
    by true =
        ap (λ w. plain_atom kind (Word false chars) w) bytes
        ∙ ap (λ b. if b then Ok atoms.All else if is_name name then Ok (atoms.Alias name) else word_atom kind false chars) no_all
        ∙ ap (λ b. if b then Ok (atoms.Alias name) else word_atom kind false chars) no_name
    by false = refl

-- ---- Aliases

name_byte_fine : (b : ℕ) → is_name_byte b ≡ true → (needs_backslash b ≡ false) × (is_ascii_control b ≡ false)
name_byte_fine b h = (grind (arith, nat_tests), grind (arith, nat_tests))

name_byte_plain : (b : ℕ) → is_name_byte b ≡ true → (b ≢ 92) × (is_control b ≡ false)
name_byte_plain b h = (λ e. slash b h e, grind (arith, nat_tests))
  where
    slash : (b : ℕ) → is_name_byte b ≡ true → b ≡ 92 → ⊥
    slash b h e = (let known : is_name_byte 92 ≡ true = subst (λ n. is_name_byte n ≡ true) e h in cc)

plain_text : (b : ℕ) → is_name_byte b ≡ true → byte_text b ≡ b ∷ []
plain_text b h =
    let fine = name_byte_fine b h in
    let control : List ℕ = 92 ∷ 120 ∷ hex_digit (b / 16) ∷ hex_digit (b % 16) ∷ [] in
    ap (λ x. if x then 92 ∷ b ∷ [] else if is_ascii_control b then control else b ∷ []) fine.0
    ∙ ap (λ x. if x then control else b ∷ []) fine.1

plain_spelled : (name : List ℕ) → list_all is_name_byte name ≡ true → SpellsAll true false (map plain name) (name_text name)
plain_spelled [] h = none
plain_spelled (b ∷ name) h =
    let parts = and_parts (is_name_byte b) (list_all is_name_byte name) h in
    let fine = name_byte_plain b parts.0 in
    subst (λ first. SpellsAll true false (plain b ∷ map plain name) (first ++ name_text name)) (sym (plain_text b parts.0))
    (next (plain b) (map plain name) (b ∷ []) (name_text name) (itself b fine.0 fine.1) (plain_spelled name parts.1))

not_false : (b : Bool) → not b ≡ true → b ≡ false
not_false true h = cc
not_false false h = refl

pub alias_read : (kind : Kind) (name : List ℕ) → is_name name ≡ true
    → SpellSome (atom_text (atoms.Alias name)) (λ chars. atom_of kind (Word false chars) ≡ Ok (atoms.Alias name))
alias_read kind name is =
    let parts = and_parts (begins_upper name && list_all is_name_byte name) (not (bytes_eq name (codes "ALL"))) is in
    let bytes = and_parts (begins_upper name) (list_all is_name_byte name) parts.0 in (
      map plain name,
      plain_spelled name bytes.1,
      ap (λ b. atom_by kind (Word false (map plain name)) (if b then Some (bytes_of (map plain name)) else None)) (plain_no_escape name)
          ∙ ap (λ w. plain_atom kind (Word false (map plain name)) w) (plain_bytes name)
          ∙ ap (λ b. if b then Ok atoms.All
          else if is_name name then Ok (atoms.Alias name) else other_atom kind (Word false (map plain name)))
          (not_false (bytes_eq name (codes "ALL")) parts.1)
          ∙ ap (λ b. if b then Ok (atoms.Alias name) else other_atom kind (Word false (map plain name))) is,
    )

-- ---- Users

-- the first character of a user's text
record FirstSpelled (b : ℕ) : Type 0 where
  char : Ch
  byte : char.byte ≡ b
  spell : Spells true false char (first_text b)
  user : (cs : List Ch) → user_of (char ∷ cs) ≡ Ok (atoms.Name (bytes_of (char ∷ cs)))

-- a character that begins the name of a user
begins_user : (c : Ch) (b : ℕ) → (c ≡ escaped b) ⊎ ((c ≡ plain b) × (((b == 43) || ((b == 37) || (b == 35))) ≡ false)) → (cs : List Ch)
    → user_of (c ∷ cs) ≡ Ok (atoms.Name (bytes_of (c ∷ cs)))
begins_user c b (inl is) cs =
    subst (λ d. user_of (d ∷ cs) ≡ Ok (atoms.Name (bytes_of (d ∷ cs)))) (sym is) refl
begins_user c b (inr is) cs =
    subst (λ d. user_of (d ∷ cs) ≡ Ok (atoms.Name (bytes_of (d ∷ cs)))) (sym is.0)
    (by (b == 43) refl (b == 37) refl (b == 35) refl is.1)
  where
    by : (x : Bool) → (b == 43) ≡ x → (y : Bool) → (b == 37) ≡ y → (z : Bool) → (b == 35) ≡ z → (x || (y || z)) ≡ false
        → user_of (plain b ∷ cs) ≡ Ok (atoms.Name (bytes_of (plain b ∷ cs)))
    by true plus y percent z sign h = cc
    by false plus true percent z sign h = cc
    by false plus false percent true sign h = cc
    by false plus false percent false sign h = rw (plus, percent, sign) refl

first_spelled : (b : ℕ) → FirstSpelled b
first_spelled b = by ((b == 37) || (b == 43)) refl
  where
    fine : (b : ℕ) → ((b == 37) || (b == 43)) ≡ true → is_control b ≡ false
    fine b h = grind (arith, nat_tests)

    no_x : (b : ℕ) → ((b == 37) || (b == 43)) ≡ true → b ≡ 120 → ⊥
    no_x b h e = (let known : ((120 == 37) || (120 == 43)) ≡ true = subst (λ n. ((n == 37) || (n == 43)) ≡ true) e h in cc)

    no_sign : (b : ℕ) → ((b == 37) || (b == 43)) ≡ false → needs_backslash b ≡ false → ((b == 43) || ((b == 37) || (b == 35))) ≡ false
    no_sign b h k = grind (arith, nat_tests)

    form_of : (b : ℕ) (c : Ch) → ((b == 37) || (b == 43)) ≡ false → (c ≡ escaped b) ⊎ ((c ≡ plain b) × (needs_backslash b ≡ false))
        → (c ≡ escaped b) ⊎ ((c ≡ plain b) × (((b == 43) || ((b == 37) || (b == 35))) ≡ false))
    form_of b c h (inl is) = inl is
    form_of b c h (inr is) = inr (is.0, no_sign b h is.1)

    by : (x : Bool) → ((b == 37) || (b == 43)) ≡ x → FirstSpelled b
    by true h = record {
      char = escaped b;
      byte = refl;
      spell = subst (Spells true false (escaped b)) (sym (ap (λ t. if t then 92 ∷ b ∷ [] else byte_text b) h))
          (escape b (fine b h) (λ e. no_x b h));
      user = begins_user (escaped b) b (inl refl);
    }
    by false h =
        let s = byte_spelled b in
        record {
          char = s.char;
          byte = s.byte;
          spell = subst (Spells true false s.char) (sym (ap (λ t. if t then 92 ∷ b ∷ [] else byte_text b) h)) s.spell;
          user = begins_user s.char b (form_of b s.char h s.form);
        }

or_parts : (a b : Bool) → (a || b) ≡ false → (a ≡ false) × (b ≡ false)
or_parts true b h = cc
or_parts false b h = (refl, h)

-- a word of users and of users to run as
as_user : (chars : List Ch) (name : List ℕ) (atom : Atom) → bytes_of chars ≡ name → is_name name ≡ false
    → bytes_eq name (codes "ALL") ≡ false → user_of chars ≡ Ok atom → ReadAsUser false chars atom
as_user chars name atom bytes no_name no_all is =
    (word_read kinds.User chars name bytes no_name no_all ∙ is, word_read kinds.Runas chars name bytes no_name no_all ∙ is)

pub user_read : (first : ℕ) (rest : List ℕ) → (is_name (first ∷ rest) || bytes_eq (first ∷ rest) (codes "ALL")) ≡ false
    → SpellSome (atom_text (atoms.Name (first ∷ rest))) (λ chars. ReadAsUser false chars (atoms.Name (first ∷ rest)))
user_read first rest plain_one =
    let lacks = or_parts (is_name (first ∷ rest)) (bytes_eq (first ∷ rest) (codes "ALL")) plain_one in
    let one = first_spelled first in
    let more = name_spelled rest in
    let built : List Ch = one.char ∷ more.chars in
    let text : atom_text (atoms.Name (first ∷ rest)) ≡ first_text first ++ name_text rest =
    ap (λ b. if b then 34 ∷ (first ∷ rest) ++ 34 ∷ [] else first_text first ++ name_text rest) plain_one in
    let bytes : bytes_of built ≡ first ∷ rest = ap (λ x. x ∷ bytes_of more.chars) one.byte ∙ ap (λ xs. first ∷ xs) more.bytes_are in (
      built,
      subst (SpellsAll true false built) (sym text) (next one.char more.chars (first_text first) (name_text rest) one.spell more.spell),
      as_user built (first ∷ rest) (atoms.Name (first ∷ rest)) bytes lacks.0 lacks.1
          (one.user more.chars ∙ ap (λ n. Ok (atoms.Name n)) bytes),
    )

-- ---- Users between double quotes

-- what is written between double quotes has bytes of names alone
quoted_bytes : (name : List ℕ) → (is_name name || bytes_eq name (codes "ALL")) ≡ true → list_all is_name_byte name ≡ true
quoted_bytes name h = by (is_name name) refl h
  where
    by : (b : Bool) → is_name name ≡ b → (b || bytes_eq name (codes "ALL")) ≡ true → list_all is_name_byte name ≡ true
    by true is h =
        let parts = and_parts (begins_upper name && list_all is_name_byte name) (not (bytes_eq name (codes "ALL"))) is in
        (and_parts (begins_upper name) (list_all is_name_byte name) parts.0).1
    by false is h =
        subst (λ n. list_all is_name_byte n ≡ true) (sym ((bytes_decides name (codes "ALL")).0 h)) refl

bytes_spelled : (name : List ℕ) → list_all is_name_byte name ≡ true → SpellsAll true false (map plain name) name
bytes_spelled [] h = none
bytes_spelled (b ∷ name) h =
    let parts = and_parts (is_name_byte b) (list_all is_name_byte name) h in
    let fine = name_byte_plain b parts.0 in
    next (plain b) (map plain name) (b ∷ []) name (itself b fine.0 fine.1) (bytes_spelled name parts.1)

no_user_sign : (b : ℕ) → is_name_byte b ≡ true → ((b == 43) || ((b == 37) || (b == 35))) ≡ false
no_user_sign b h = grind (arith, nat_tests)

pub quoted_read : (first : ℕ) (rest : List ℕ) → (is_name (first ∷ rest) || bytes_eq (first ∷ rest) (codes "ALL")) ≡ true
    → (atom_text (atoms.Name (first ∷ rest)) ≡ 34 ∷ (first ∷ rest) ++ 34 ∷ [])
    × SpellSome (first ∷ rest) (λ chars. ReadAsUser true chars (atoms.Name (first ∷ rest)))
quoted_read first rest quoted =
    let name : List ℕ = first ∷ rest in
    let all = quoted_bytes name quoted in
    let user : user_of (map plain name) ≡ Ok (atoms.Name name) =
    begins_user (plain first) first (inr (refl, no_user_sign first (and_parts (is_name_byte first) (list_all is_name_byte rest) all).0))
    (map plain rest) ∙ ap (λ n. Ok (atoms.Name n)) (plain_bytes name) in (
      ap (λ b. if b then 34 ∷ name ++ 34 ∷ [] else first_text first ++ name_text rest) quoted,
      (map plain name, bytes_spelled name all, (user, user)),
    )

-- ---- Groups

pub group_read : (name : List ℕ) → group_of name ≡ Ok (atoms.Group name)
    → SpellSome (atom_text (atoms.Group name)) (λ chars. ReadAsUser false chars (atoms.Group name))
group_read name is =
    let more = name_spelled name in
    let built : List Ch = plain 37 ∷ more.chars in (
      built,
      next (plain 37) more.chars (37 ∷ []) (name_text name) (itself 37 (λ e. cc) refl) more.spell,
      as_user built (37 ∷ name) (atoms.Group name) (ap (λ xs. 37 ∷ xs) more.bytes_are) refl refl (ap group_of more.bytes_are ∙ is),
    )

-- ---- IDs

-- the digits of a number, and its value
pub record Digits (n : ℕ) (ds : List ℕ) : Type 0 where
  pub all : list_all is_digit ds ≡ true
  pub value : decimal_after 0 ds ≡ n
  pub some : 0 < length ds

after_more : (v : ℕ) (ds : List ℕ) (d : ℕ) → decimal_after v (ds ++ d ∷ []) ≡ 10 * decimal_after v ds + (d - 48)
after_more v [] d = refl
after_more v (b ∷ ds) d = after_more (10 * v + (b - 48)) ds d

pub digits_are : (n : ℕ) → n < 2 ^ 64 → Digits n (decimal n)
digits_are n small = decimal_by_steps Digits one more n small
  where
    digit : (n : ℕ) → n < 10 → is_digit (48 + n) ≡ true
    digit n h = grind (arith, nat_tests)

    one : (n : ℕ) → n < 10 → Digits n ((48 + n) ∷ [])
    one n h = record { all = and_from (is_digit (48 + n)) true (digit n h) refl; value = omega arith; some = omega arith }

    more : (n : ℕ) (ds : List ℕ) → 10 ≤ n → Digits (n / 10) ds → Digits n (ds ++ (48 + n % 10) ∷ [])
    more n ds least d =
        let last : n % 10 < 10 = omega arith in
        let value = d.value in
        let some = d.some in
        record {
          all = all_append is_digit ds ((48 + n % 10) ∷ [])
              ∙ and_from (list_all is_digit ds) (is_digit (48 + n % 10) && true) d.all
              (and_from (is_digit (48 + n % 10)) true (digit (n % 10) last) refl);
          value = after_more 0 ds (48 + n % 10) ∙ ap (λ v. 10 * v + (48 + n % 10 - 48)) value ∙ omega arith;
          some = longer ds ((48 + n % 10) ∷ []) some;
        }
      where
        longer : (xs ys : List ℕ) → 0 < length xs → 0 < length (xs ++ ys)
        longer [] ys h = absurd (omega (arith, h))
        longer (x ∷ xs) ys h = omega arith

pub value_read : (n : ℕ) (ds : List ℕ) → Digits n ds → n < 2 ^ 32 → number_of ds ≡ Some n
value_read n [] d small = absurd (let some = d.some in omega (arith, some))
value_read n (b ∷ bs) d small =
    ap (λ t. in_range (if t then Some (decimal_after 0 (b ∷ bs)) else None)) d.all
    ∙ ap (λ v. in_range (Some v)) d.value
    ∙ ap (λ t. if t then Some n else None) (lt-ltb n 4294967296 small)

digit_plain : (b : ℕ) → is_digit b ≡ true → (b ≢ 92) × (is_control b ≡ false)
digit_plain b h = (λ e. slash b h e, grind (arith, nat_tests))
  where
    slash : (b : ℕ) → is_digit b ≡ true → b ≡ 92 → ⊥
    slash b h e = (let known : is_digit 92 ≡ true = subst (λ n. is_digit n ≡ true) e h in cc)

digits_spelled : (ds : List ℕ) → list_all is_digit ds ≡ true → SpellsAll true false (map plain ds) ds
digits_spelled [] h = none
digits_spelled (b ∷ ds) h =
    let parts = and_parts (is_digit b) (list_all is_digit ds) h in
    let fine = digit_plain b parts.0 in
    next (plain b) (map plain ds) (b ∷ []) ds (itself b fine.0 fine.1) (digits_spelled ds parts.1)

in_64 : (id : ℕ) → id < 2 ^ 32 → id < 2 ^ 64
in_64 id h = omega (arith, h)

id_read : (make : ℕ → Atom) (id : ℕ) → id < 2 ^ 32 → id_of make (bytes_of (map plain (decimal id))) ≡ Ok (make id)
id_read make id small =
    ap (id_of make) (plain_bytes (decimal id)) ∙ ap (ok_number make) (value_read id (decimal id) (digits_are id (in_64 id small)) small)

pub uid_read : (id : ℕ) → id < 2 ^ 32 → SpellSome (atom_text (atoms.Uid id)) (λ chars. ReadAsUser false chars (atoms.Uid id))
uid_read id small =
    let digits = digits_are id (in_64 id small) in
    let back : List Ch = map plain (decimal id) in
    let built : List Ch = plain 35 ∷ back in (
      built,
      next (plain 35) back (35 ∷ []) (decimal id) (itself 35 (λ e. cc) refl) (digits_spelled (decimal id) digits.all),
      as_user built (35 ∷ decimal id) (atoms.Uid id) (ap (λ xs. 35 ∷ xs) (plain_bytes (decimal id))) refl refl (id_read atoms.Uid id small),
    )

pub gid_read : (id : ℕ) → id < 2 ^ 32 → SpellSome (atom_text (atoms.Gid id)) (λ chars. ReadAsUser false chars (atoms.Gid id))
gid_read id small =
    let digits = digits_are id (in_64 id small) in
    let back : List Ch = map plain (decimal id) in
    let built : List Ch = plain 37 ∷ plain 35 ∷ back in (
      built,
      next (plain 37) (plain 35 ∷ back) (37 ∷ []) (35 ∷ decimal id) (itself 37 (λ e. cc) refl)
          (next (plain 35) back (35 ∷ []) (decimal id) (itself 35 (λ e. cc) refl) (digits_spelled (decimal id) digits.all)),
      as_user built (37 ∷ 35 ∷ decimal id) (atoms.Gid id) (ap (λ xs. 37 ∷ 35 ∷ xs) (plain_bytes (decimal id))) refl refl
          (id_read atoms.Gid id small),
    )
