-- A line without a `#` has no comment.
use Rattle.std.proofs.Common.{◌≡◌, ◌∙◌, ◌-◌, ℕ, Bool, true, false, List, [], ◌∷◌, length, take, drop, slice_index_or, ap, refl, sym, arith}
use Rattle.std.specs.Prelude.{not, ◌&&◌, ◌||◌, ◌==◌, if◌then◌else◌}
use Rattle.std.proofs.lemmas.List.{take_all}
use Rattle.std.specs.List.{list_any}
use Rattle.memchr.specs.Find.{Nowhere, Passes, is_byte}
use Rattle.sudo_text.specs.Bytes.{is_blank}
use Rattle.review_cautions.proofs.SignFinds.{nowhere}
use Rattle.review_cautions.specs.PhysicalLines.{has_other_comment, admits_id, begins_with_digit, begins_no_comment}

pub no_left : (a b : Bool) → (a || b) ≡ false → a ≡ false
no_left a b h = grind arith

pub no_right : (a b : Bool) → (a || b) ≡ false → b ≡ false
no_right a b h = grind arith

pub neither : (a b : Bool) → a ≡ false → b ≡ false → (a || b) ≡ false
neither a b h k = grind arith

-- which of the ways is taken: the first byte is escaped, a backslash, a quote, or any other but a `#`
taken : (e bs q h v w : Bool) (a b c d f : Bool) → h ≡ false → a ≡ false → b ≡ false → c ≡ false → d ≡ false
    → (if e then a else if bs then b else if q then c else if h && v && w then f else d) ≡ false
taken true bs q h v w a b c d f none is-a is-b is-c is-d = is-a
taken false true q h v w a b c d f none is-a is-b is-c is-d = is-b
taken false false true h v w a b c d f none is-a is-b is-c is-d = is-c
taken false false false true v w a b c d f none is-a is-b is-c is-d = grind arith
taken false false false false v w a b c d f none is-a is-b is-c is-d = is-d

pub no_comment : (escaped quoted admitted : Bool) (line : List ℕ) → list_any (λ b. b == 35) line ≡ false
    → has_other_comment escaped quoted admitted line ≡ false
no_comment escaped quoted admitted [] h = refl
no_comment escaped quoted admitted (b ∷ bs) h =
    let none : (b == 35) ≡ false = no_left (b == 35) (list_any (λ c. c == 35) bs) h in
    let rest : list_any (λ c. c == 35) bs ≡ false = no_right (b == 35) (list_any (λ c. c == 35) bs) h in
    taken escaped (b == 92) (b == 34) (b == 35) (not quoted) (not (admitted && begins_with_digit bs))
    (has_other_comment false quoted false bs) (has_other_comment true quoted false bs)
    (has_other_comment false (not quoted) false bs)
    (has_other_comment false quoted (admits_id b || (admitted && is_blank b)) bs) (begins_no_comment bs)
    none (no_comment false quoted false bs rest) (no_comment true quoted false bs rest)
    (no_comment false (not quoted) false bs rest)
    (no_comment false quoted (admits_id b || (admitted && is_blank b)) bs rest)

-- a `#` that begins no comment, and behind which none stands: which of the ways is taken
passed : (e bs q h : Bool) (a b c d f : Bool) → (not e && h) ≡ false → a ≡ false → b ≡ false → c ≡ false → d ≡ false
    → (if e then a else if bs then b else if q then c else if h then f else d) ≡ false
passed true bs q h a b c d f none is-a is-b is-c is-d = is-a
passed false true q h a b c d f none is-a is-b is-c is-d = is-b
passed false false true h a b c d f none is-a is-b is-c is-d = is-c
passed false false false true a b c d f none is-a is-b is-c is-d = cc
passed false false false false a b c d f none is-a is-b is-c is-d = is-d

-- behind a byte that begins no comment no `#` stands
pub none_behind : (escaped quoted admitted : Bool) (b : ℕ) (bs : List ℕ)
    → (not escaped && ((b == 35) && not quoted && not (admitted && begins_with_digit bs))) ≡ false
    → list_any (λ c. c == 35) bs ≡ false → has_other_comment escaped quoted admitted (b ∷ bs) ≡ false
none_behind escaped quoted admitted b bs none rest =
    passed escaped (b == 92) (b == 34) ((b == 35) && not quoted && not (admitted && begins_with_digit bs))
    (has_other_comment false quoted false bs) (has_other_comment true quoted false bs)
    (has_other_comment false (not quoted) false bs)
    (has_other_comment false quoted (admits_id b || (admitted && is_blank b)) bs) (begins_no_comment bs)
    none (no_comment false quoted false bs rest) (no_comment true quoted false bs rest)
    (no_comment false (not quoted) false bs rest)
    (no_comment false quoted (admits_id b || (admitted && is_blank b)) bs rest)

-- the same of bytes of which the first is that byte
pub none_behind_first : (escaped quoted admitted : Bool) (bs : List ℕ)
    → (not escaped && ((slice_index_or bs 0 0 == 35) && not quoted
    && not (admitted && begins_with_digit (take (length bs - 1) (drop 1 bs))))) ≡ false
    → list_any (λ c. c == 35) (take (length bs - 1) (drop 1 bs)) ≡ false → has_other_comment escaped quoted admitted bs ≡ false
none_behind_first escaped quoted admitted [] none rest = refl
none_behind_first escaped quoted admitted (b ∷ bs) none rest =
    let all : bs ≡ take (length (b ∷ bs) - 1) bs = sym (take_all (length (b ∷ bs) - 1) bs (omega arith)) in
    none_behind escaped quoted admitted b bs
    (ap (λ cs. not escaped && ((b == 35) && not quoted && not (admitted && begins_with_digit cs))) all ∙ none)
    (ap (list_any (λ c. c == 35)) all ∙ rest)

-- a byte is a `#`, and none stands behind it
pub is_last : (a b : Bool) → (a && not b) ≡ true → b ≡ false
is_last a b h = grind arith

pub no_sign : (line : List ℕ) → Nowhere (Passes (is_byte 35) line) 0 (length line) → has_other_comment false false true line ≡ false
no_sign line none = no_comment false false true line (nowhere (is_byte 35) line none)
