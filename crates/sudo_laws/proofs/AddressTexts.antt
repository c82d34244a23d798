-- The text of an address, and of a network, is read as that address or network.
use Rattle.std.proofs.Common.{◌≡◌, ◌≢◌, ℕ, suc, ◌+◌, ◌*◌, ◌/◌, ◌%◌, ◌^◌, ◌<◌, ◌≤◌, Bool, true, false, not, ◌&&◌, ◌||◌, ◌==◌, cond}
use Rattle.std.proofs.Common.{if◌then◌else◌, List, [], ◌∷◌, ◌++◌, map, take, drop, length, Some, None, Ok, Err, refl, sym, ◌∙◌}
use Rattle.std.proofs.Common.{ap, subst, option_map, option_and_then, add-one, append_assoc, append-nil, length-append, arith}
use Rattle.std.specs.Prelude.{bytes_eq, codes, decimal, nat_lt}
use Rattle.std.specs.List.{list_all, list_any, position_or_len}
use Rattle.std.proofs.lemmas.Bool.{and_from, and_parts, lt-ltb}
use Rattle.std.proofs.lemmas.Bool.Decides.{nat_tests}
use Rattle.std.proofs.lemmas.Fmt.{length-decimal-le}
use Rattle.sudo_grammar.specs.Members.{address_of, address_of_groups, address_of_numbers, address_or_host, atom_of, cut_at, dotted_groups}
use Rattle.sudo_grammar.specs.Members.{decimal_after, in_range, is_below_256, is_octet, mask_or, net_with, network_of, number_of}
use Rattle.sudo_grammar.specs.Members.{is_slash, octet_of, plain_host_of, spelled_mask, unquoted_host_of}
use Rattle.sudo_grammar.specs.Words.{bytes_of, is_name_byte, is_upper}
use Rattle.sudo_grammar.specs.declared.fault.Refusal.TheVariants as refusals
use Rattle.sudo_grammar.specs.declared.fault.Unsupported.TheVariants as forms
use Rattle.sudo_grammar.specs.declared.kind.Atom.TheVariants as atoms
use Rattle.sudo_grammar.specs.declared.kind.Kind.TheVariants as kinds
use Rattle.sudo_laws.proofs.MemberTexts.{digits_are, plain_bytes, plain_no_escape, value_read, word_read}
use Rattle.sudo_laws.proofs.SpelledLemmas.{taken}
use Rattle.sudo_laws.proofs.TestLemmas.{Each, each_both, each_first, each_none, each_one, each_rest}
use Rattle.sudo_laws.specs.Spelled.{SpellSome, SpellsAll, itself, next, none}
use Rattle.sudo_parser.specs.Texts.{address_text, atom_text}
use Rattle.sudo_policy.proofs.SoundLemmas.{all_append}
use Rattle.sudo_text.specs.Bytes.{is_control, is_digit}
use Rattle.sudo_text.specs.Pieces.{plain}
use Rattle.sudo_text.specs.declared.token.TokenKind.TheVariants.{Word}

-- ---- Cuts

first_place : (p : ℕ → Bool) (front back : List ℕ) (x : ℕ) → Each p false front → p x ≡ true
    → position_or_len p (front ++ x ∷ back) ≡ length front
first_place p [] back x lacks here = ap (λ b. cond (not b) (1 + position_or_len p back) 0) here
first_place p (y ∷ front) back x lacks here =
    ap (λ b. cond (not b) (1 + position_or_len p (front ++ x ∷ back)) 0) (each_first p false y front lacks)
    ∙ ap (λ n. 1 + n) (first_place p front back x (each_rest p false y front lacks) here)
    ∙ one_more (length front)
  where
    one_more : (n : ℕ) → 1 + n ≡ suc n
    one_more n = omega arith

no_place : (p : ℕ → Bool) (xs : List ℕ) → Each p false xs → position_or_len p xs ≡ length xs
no_place p [] lacks = refl
no_place p (y ∷ xs) lacks =
    ap (λ b. cond (not b) (1 + position_or_len p xs) 0) (each_first p false y xs lacks)
    ∙ ap (λ n. 1 + n) (no_place p xs (each_rest p false y xs lacks))
    ∙ one_more (length xs)
  where
    one_more : (n : ℕ) → 1 + n ≡ suc n
    one_more n = omega arith

abbrev is_sep : ℕ → ℕ → Bool
is_sep sep b = b == sep

left_out : (front back : List ℕ) (x : ℕ) → drop (suc (length front)) (front ++ x ∷ back) ≡ back
left_out [] back x = refl
left_out (y ∷ front) back x = left_out front back x

cut_here : (sep : ℕ) (front back : List ℕ) → (sep == sep) ≡ true → Each (is_sep sep) false front
    → cut_at sep (front ++ sep ∷ back) ≡ Some (front, back)
cut_here sep front back same lacks =
    let whole : List ℕ = front ++ sep ∷ back in
    let inside : length front < length whole = omega (arith, length-append front (sep ∷ back)) in
    ap (λ n. option_map (λ i. (take i whole, drop (i + 1) whole)) (cond (nat_lt n (length whole)) (Some n) None))
    (first_place (is_sep sep) front back sep lacks same)
    ∙ ap (λ b. option_map (λ i. (take i whole, drop (i + 1) whole)) (cond b (Some (length front)) None))
    (lt-ltb (length front) (length whole) inside)
    ∙ ap (λ xs. Some (xs, drop (length front + 1) whole)) (taken front (sep ∷ back))
    ∙ ap (λ xs. Some (front, xs)) (ap (λ n. drop n whole) (add-one (length front)) ∙ left_out front back sep)

cut_nowhere : (sep : ℕ) (xs : List ℕ) → Each (is_sep sep) false xs → cut_at sep xs ≡ None
cut_nowhere sep xs lacks =
    ap (λ n. option_map (λ i. (take i xs, drop (i + 1) xs)) (cond (nat_lt n (length xs)) (Some n) None)) (no_place (is_sep sep) xs lacks)
    ∙ ap (λ b. option_map (λ i. (take i xs, drop (i + 1) xs)) (cond b (Some (length xs)) None)) (not_less (length xs))
  where
    not_less : (n : ℕ) → nat_lt n n ≡ false
    not_less n = grind (arith, nat_tests)

-- ---- Groups

digits_no : (sep : ℕ) (ds : List ℕ) → ((b : ℕ) → is_digit b ≡ true → (b == sep) ≡ false) → list_all is_digit ds ≡ true
    → Each (is_sep sep) false ds
digits_no sep [] other h = each_none (is_sep sep) false
digits_no sep (b ∷ ds) other h =
    let parts = and_parts (is_digit b) (list_all is_digit ds) h in
    each_one (is_sep sep) false b ds (other b parts.0) (digits_no sep ds other parts.1)

no_dot : (b : ℕ) → is_digit b ≡ true → (b == 46) ≡ false
no_dot b h = grind (arith, nat_tests)

small_64 : (n : ℕ) → n < 256 → n < 2 ^ 64
small_64 n h = omega (arith, h)

small_32 : (n : ℕ) → n < 256 → n < 2 ^ 32
small_32 n h = omega (arith, h)

octet_read : (n : ℕ) → n < 256 → octet_of (decimal n) ≡ Some n
octet_read n small =
    let d = digits_are n (small_64 n small) in
    let long : length (decimal n) ≤ 3 = length-decimal-le 3 n (omega arith) (omega (arith, small)) (small_64 n small) in
    let some = d.some in
    let octet : is_octet (decimal n) ≡ true =
    and_from (nat_lt 0 (length (decimal n)) && nat_lt (length (decimal n)) 4) (list_all is_digit (decimal n))
    (and_from (nat_lt 0 (length (decimal n))) (nat_lt (length (decimal n)) 4) (lt-ltb 0 (length (decimal n)) some)
    (lt-ltb (length (decimal n)) 4 (omega (arith, long)))) d.all in
    ap (λ b. if b then number_of (decimal n) else None) octet ∙ value_read n (decimal n) d (small_32 n small)

-- four groups are taken apart
groups_read : (a b c d : ℕ) → a < 256 → b < 256 → c < 256 → dotted_groups
    (decimal a ++ (46 ∷ decimal b ++ (46 ∷ decimal c ++ (46 ∷ decimal d)))) ≡ Some (decimal a, decimal b, decimal c, decimal d)
groups_read a b c d small_a small_b small_c =
    let lacks : (n : ℕ) → n < 256 → Each (is_sep 46) false (decimal n) =
    λ n small. digits_no 46 (decimal n) no_dot (digits_are n (small_64 n small)).all in
    let last : List ℕ = decimal c ++ (46 ∷ decimal d) in
    let mid : List ℕ = decimal b ++ (46 ∷ last) in
    ap (option_and_then (λ p. option_and_then (λ q. option_map (λ r. (p.0, q.0, r.0, r.1)) (cut_at 46 q.1)) (cut_at 46 p.1)))
    (cut_here 46 (decimal a) mid refl (lacks a small_a))
    ∙ ap (option_and_then (λ q. option_map (λ r. (decimal a, q.0, r.0, r.1)) (cut_at 46 q.1)))
    (cut_here 46 (decimal b) last refl (lacks b small_b))
    ∙ ap (option_map (λ r. (decimal a, decimal b, r.0, r.1))) (cut_here 46 (decimal c) (decimal d) refl (lacks c small_c))

below : (n : ℕ) → n < 256 → is_below_256 n ≡ true
below n small = lt-ltb n 256 small

numbers_read : (a b c d : ℕ) → a < 256 → b < 256 → c < 256 → d < 256
    → address_of_groups (decimal a, decimal b, decimal c, decimal d) ≡ Some (Ok (16777216 * a + 65536 * b + 256 * c + d))
numbers_read a b c d small_a small_b small_c small_d =
    ap (option_and_then (λ w. option_and_then (λ x. option_and_then (λ y. option_map (λ z. address_of_numbers w x y z)
    (octet_of (decimal d))) (octet_of (decimal c))) (octet_of (decimal b)))) (octet_read a small_a)
    ∙ ap (option_and_then (λ x. option_and_then (λ y. option_map (λ z. address_of_numbers a x y z) (octet_of (decimal d)))
    (octet_of (decimal c)))) (octet_read b small_b)
    ∙ ap (option_and_then (λ y. option_map (λ z. address_of_numbers a b y z) (octet_of (decimal d)))) (octet_read c small_c)
    ∙ ap (option_map (λ z. address_of_numbers a b c z)) (octet_read d small_d)
    ∙ ap (λ t. Some (if t then Ok (16777216 * a + 65536 * b + 256 * c + d) else Err refusals.BadNumber))
    (and_from ((is_below_256 a && is_below_256 b) && is_below_256 c) (is_below_256 d)
    (and_from (is_below_256 a && is_below_256 b) (is_below_256 c)
    (and_from (is_below_256 a) (is_below_256 b) (below a small_a) (below b small_b))
    (below c small_c)) (below d small_d))

address_parts : (n : ℕ) → n < 2 ^ 32
    → 16777216 * (n / 16777216) + 65536 * (n / 65536 % 256) + 256 * (n / 256 % 256) + n % 256 ≡ n
address_parts n small = omega (arith, small)

address_read : (n : ℕ) → n < 2 ^ 32 → address_of (address_text n) ≡ Some (Ok n)
address_read n small =
    let first : n / 16777216 < 256 = omega (arith, small) in
    let second : n / 65536 % 256 < 256 = omega arith in
    let third : n / 256 % 256 < 256 = omega arith in
    let fourth : n % 256 < 256 = omega arith in
    ap (option_and_then address_of_groups) (groups_read (n / 16777216) (n / 65536 % 256) (n / 256 % 256) (n % 256) first second third)
    ∙ numbers_read (n / 16777216) (n / 65536 % 256) (n / 256 % 256) (n % 256) first second third fourth
    ∙ ap (λ v. Some (Ok v)) (address_parts n small)

-- ---- Characters

-- a digit, a dot or a slash
abbrev is_address_byte : ℕ → Bool
is_address_byte b = is_digit b || ((b == 46) || (b == 47))

byte_plain : (b : ℕ) → is_address_byte b ≡ true → (b ≢ 92) × (is_control b ≡ false)
byte_plain b h = (λ e. slash b h e, grind (arith, nat_tests))
  where
    slash : (b : ℕ) → is_address_byte b ≡ true → b ≡ 92 → ⊥
    slash b h e = (let known : is_address_byte 92 ≡ true = subst (λ n. is_address_byte n ≡ true) e h in cc)

bytes_spelled : (bs : List ℕ) → list_all is_address_byte bs ≡ true → SpellsAll true false (map plain bs) bs
bytes_spelled [] h = none
bytes_spelled (b ∷ bs) h =
    let parts = and_parts (is_address_byte b) (list_all is_address_byte bs) h in
    let fine = byte_plain b parts.0 in
    next (plain b) (map plain bs) (b ∷ []) bs (itself b fine.0 fine.1) (bytes_spelled bs parts.1)

digits_all : (ds : List ℕ) → list_all is_digit ds ≡ true → list_all is_address_byte ds ≡ true
digits_all [] h = refl
digits_all (d ∷ ds) h =
    let parts = and_parts (is_digit d) (list_all is_digit ds) h in
    and_from (is_address_byte d) (list_all is_address_byte ds) (one d parts.0) (digits_all ds parts.1)
  where
    one : (d : ℕ) → is_digit d ≡ true → is_address_byte d ≡ true
    one d h = ap (λ b. b || ((d == 46) || (d == 47))) h

both_all : (xs ys : List ℕ) → list_all is_address_byte xs ≡ true → list_all is_address_byte ys ≡ true
    → list_all is_address_byte (xs ++ ys) ≡ true
both_all xs ys first second = all_append is_address_byte xs ys ∙ and_from _ _ first second

number_all : (n : ℕ) → n < 256 → list_all is_address_byte (decimal n) ≡ true
number_all n small = digits_all (decimal n) (digits_are n (small_64 n small)).all

text_all : (n : ℕ) → n < 2 ^ 32 → list_all is_address_byte (address_text n) ≡ true
text_all n small =
    both_all (decimal (n / 16777216)) _ (number_all (n / 16777216) (omega (arith, small)))
    (both_all (decimal (n / 65536 % 256)) _ (number_all (n / 65536 % 256) (omega arith))
    (both_all (decimal (n / 256 % 256)) _ (number_all (n / 256 % 256) (omega arith)) (number_all (n % 256) (omega arith))))

-- a text begins with a digit
abbrev BeginsDigit : List ℕ → Type 0
BeginsDigit text = (d : ℕ) × (rest : List ℕ) × (text ≡ d ∷ rest) × (is_digit d ≡ true)

begins_digit : (n : ℕ) (rest : List ℕ) → n < 2 ^ 64 → BeginsDigit (decimal n ++ rest)
begins_digit n rest small = let d = digits_are n small in by (decimal n) d.all d.some
  where
    by : (ds : List ℕ) → list_all is_digit ds ≡ true → 0 < length ds → BeginsDigit (ds ++ rest)
    by [] h some = absurd (omega (arith, some))
    by (d ∷ ds) h some = (d, ds ++ rest, refl, (and_parts (is_digit d) (list_all is_digit ds) h).0)

-- the word of such a text, in a list of hosts
host_read : (text : List ℕ) → BeginsDigit text → atom_of kinds.Host (Word false (map plain text)) ≡ plain_host_of (map plain text) text
    (cut_at 47 text)
host_read text (d, rest, is, digit) =
    subst (λ t. atom_of kinds.Host (Word false (map plain t)) ≡ plain_host_of (map plain t) t (cut_at 47 t)) (sym is) whole
  where
    no_upper : (d : ℕ) → is_digit d ≡ true → is_upper d ≡ false
    no_upper d h = grind (arith, nat_tests)

    no_a : (d : ℕ) → is_digit d ≡ true → (d == 65) ≡ false
    no_a d h = grind (arith, nat_tests)

    no_plus : (d : ℕ) → is_digit d ≡ true → (d == 43) ≡ false
    no_plus d h = grind (arith, nat_tests)

    whole : atom_of kinds.Host (Word false (map plain (d ∷ rest)))
        ≡ plain_host_of (map plain (d ∷ rest)) (d ∷ rest) (cut_at 47 (d ∷ rest))
    whole =
        word_read kinds.Host (map plain (d ∷ rest)) (d ∷ rest) (plain_bytes (d ∷ rest))
        (ap (λ b. (b && list_all is_name_byte (d ∷ rest)) && not (bytes_eq (d ∷ rest) (codes "ALL"))) (no_upper d digit))
        (ap (λ b. b && bytes_eq rest (codes "LL")) (no_a d digit))
        ∙ ap (λ b. if b then Err (refusals.Unsupported forms.Netgroup) else unquoted_host_of (map plain (d ∷ rest))) (no_plus d digit)
        ∙ ap (λ b. if b
        then plain_host_of (map plain (d ∷ rest)) (bytes_of (map plain (d ∷ rest))) (cut_at 47 (bytes_of (map plain (d ∷ rest))))
        else if list_any is_slash (map plain (d ∷ rest)) then Err refusals.BadNumber else Ok (atoms.Host (map plain (d ∷ rest)) false))
        (plain_no_escape (d ∷ rest))
        ∙ ap (λ bytes. plain_host_of (map plain (d ∷ rest)) bytes (cut_at 47 bytes)) (plain_bytes (d ∷ rest))

-- ---- Addresses and networks

no_slash : (b : ℕ) → (is_digit b || (b == 46)) ≡ true → (b == 47) ≡ false
no_slash b h = grind (arith, nat_tests)

each_append : (sep : ℕ) (xs ys : List ℕ) → Each (is_sep sep) false xs → Each (is_sep sep) false ys → Each (is_sep sep) false (xs ++ ys)
each_append sep xs ys first second = each_both (is_sep sep) false xs ys first second

digit_no_slash : (b : ℕ) → is_digit b ≡ true → (b == 47) ≡ false
digit_no_slash b h = grind (arith, nat_tests)

number_no_slash : (n : ℕ) → n < 256 → Each (is_sep 47) false (decimal n)
number_no_slash n small = digits_no 47 (decimal n) digit_no_slash (digits_are n (small_64 n small)).all

text_no_slash : (n : ℕ) → n < 2 ^ 32 → Each (is_sep 47) false (address_text n)
text_no_slash n small =
    each_append 47 (decimal (n / 16777216)) _ (number_no_slash (n / 16777216) (omega (arith, small)))
    (each_one (is_sep 47) false 46 _ refl
    (each_append 47 (decimal (n / 65536 % 256)) _ (number_no_slash (n / 65536 % 256) (omega arith))
    (each_one (is_sep 47) false 46 _ refl
    (each_append 47 (decimal (n / 256 % 256)) _ (number_no_slash (n / 256 % 256) (omega arith))
    (each_one (is_sep 47) false 46 _ refl (number_no_slash (n % 256) (omega arith)))))))

text_begins : (n : ℕ) (rest : List ℕ) → n < 2 ^ 32 → BeginsDigit (address_text n ++ rest)
text_begins n rest small =
    subst BeginsDigit (sym (append_assoc (decimal (n / 16777216)) _ rest)) (begins_digit (n / 16777216) _ (omega (arith, small)))

pub address_back : (addr : ℕ) → addr < 2 ^ 32
    → SpellSome (atom_text (atoms.Address addr)) (λ chars. atom_of kinds.Host (Word false chars) ≡ Ok (atoms.Address addr))
address_back addr small =
    let text : List ℕ = address_text addr in (
      map plain text,
      bytes_spelled text (text_all addr small),
      host_read text (subst BeginsDigit (append-nil text) (text_begins addr [] small))
          ∙ ap (plain_host_of (map plain text) text) (cut_nowhere 47 text (text_no_slash addr small))
          ∙ ap (address_or_host (map plain text)) (address_read addr small),
    )

-- a text with a dot is no number
not_number : (ds rest : List ℕ) → number_of (ds ++ 46 ∷ rest) ≡ None
not_number ds rest = by (ds ++ 46 ∷ rest) (dotted ds)
  where
    dotted : (ds : List ℕ) → list_all is_digit (ds ++ 46 ∷ rest) ≡ false
    dotted [] = refl
    dotted (d ∷ ds) = (let e = dotted ds in ap (λ b. is_digit d && b) e ∙ and_false (is_digit d))
      where
        and_false : (b : Bool) → (b && false) ≡ false
        and_false true = refl
        and_false false = refl

    by : (text : List ℕ) → list_all is_digit text ≡ false → number_of text ≡ None
    by [] h = refl
    by (b ∷ bs) h = ap (λ t. in_range (if t then Some (decimal_after 0 (b ∷ bs)) else None)) h

pub network_back : (addr mask : ℕ) → addr < 2 ^ 32 → mask < 2 ^ 32
    → SpellSome (atom_text (atoms.Net addr mask)) (λ chars. atom_of kinds.Host (Word false chars) ≡ Ok (atoms.Net addr mask))
network_back addr mask small small_mask =
    let front : List ℕ = address_text addr in
    let back : List ℕ = address_text mask in
    let text : List ℕ = front ++ 47 ∷ back in
    let all : list_all is_address_byte text ≡ true = both_all front (47 ∷ back) (text_all addr small) (text_all mask small_mask) in (
      map plain text,
      bytes_spelled text all,
      host_read text (text_begins addr (47 ∷ back) small)
          ∙ ap (plain_host_of (map plain text) text) (cut_here 47 front back refl (text_no_slash addr small))
          ∙ ap (λ a. network_of a back) (address_read addr small)
          ∙ ap (λ n. net_with addr (mask_or n back)) (not_number (decimal (mask / 16777216)) _)
          ∙ ap (λ m. net_with addr (spelled_mask m)) (address_read mask small_mask),
    )
