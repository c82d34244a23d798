-- A line without a backslash and without a colon or a blank before a `)` has no empty group.
use Rattle.std.proofs.Common.{◌≡◌, ◌∙◌, ◌<◌, ℕ, zero, suc, Bool, true, false, cond, List, [], ◌∷◌, length, refl, sym, ap, arith}
use Rattle.std.specs.Prelude.{not, ◌&&◌, ◌||◌, ◌==◌, drop, slice_index, if◌then◌else◌}
use Rattle.std.specs.List.{list_any, take_while}
use Rattle.std.specs.Str.{bytes_eq}
use Rattle.std.proofs.lemmas.List.Sums.{take_while-cons}
use Rattle.memchr.specs.Find.{Nowhere, Passes, is_byte}
use Rattle.sudo_text.specs.Bytes.{is_blank, is_digit}
use Rattle.sudo_text.specs.Lines.{without_indent}
use Rattle.review_cautions.specs.EmptyGroups.{closes, has_empty_group}
use Rattle.review_cautions.specs.Body.Signs.{is_gap, has_late_close, gap_before}
use Rattle.review_cautions.proofs.CommentLaws.{no_left, no_right, neither}

pub dropped : (p : ℕ → Bool) (n : ℕ) (line : List ℕ) → list_any p line ≡ false → list_any p (drop n line) ≡ false
dropped p zero line h = h
dropped p (suc n) [] h = refl
dropped p (suc n) (b ∷ bs) h = dropped p n bs (no_right (p b) (list_any p bs) h)

-- the line behind its first blanks
without_blank : (b : ℕ) (bs : List ℕ) → without_indent (b ∷ bs) ≡ (if is_blank b then without_indent bs else b ∷ bs)
without_blank b bs = ap (λ t. drop (length t) (b ∷ bs)) (take_while-cons is_blank b bs) ∙ by (is_blank b)
  where
    by : (t : Bool) → drop (length (cond t (b ∷ take_while is_blank bs) [])) (b ∷ bs) ≡ (if t then without_indent bs else b ∷ bs)
    by true = refl
    by false = refl

blank_is_gap : (b : ℕ) → is_blank b ≡ true → is_gap b ≡ true
blank_is_gap b h = grind arith

colon_is_gap : (b : ℕ) → (b == 58) ≡ true → is_gap b ≡ true
colon_is_gap b h = grind arith

-- behind a colon or a blank, no `)` comes first
not_first : (bs : List ℕ) → has_late_close true bs ≡ false → (slice_index (without_indent bs) 0 == 41) ≡ false
not_first [] h = refl
not_first (b ∷ bs) h = ap (λ l. slice_index l 0 == 41) (without_blank b bs) ∙ by (is_blank b) refl (λ k. not_first bs k)
  where
    by : (t : Bool) → is_blank b ≡ t → (has_late_close true bs ≡ false → (slice_index (without_indent bs) 0 == 41) ≡ false)
        → (slice_index (if t then without_indent bs else b ∷ bs) 0 == 41) ≡ false
    by true e rest = rest (ap (λ g. has_late_close g bs) (sym (blank_is_gap b e))
        ∙ no_right (b == 41) (has_late_close (is_gap b) bs) h)
    by false e rest = no_left (b == 41) (has_late_close (is_gap b) bs) h

no_backslash : (l : List ℕ) → list_any (λ b. b == 92) l ≡ false → bytes_eq l (92 ∷ []) ≡ false
no_backslash [] h = refl
no_backslash (b ∷ bs) h = ap (λ t. t && bytes_eq bs []) (no_left (b == 92) (list_any (λ c. c == 92) bs) h)

unclosed : (bs next : List ℕ) → list_any (λ b. b == 92) bs ≡ false → has_late_close true bs ≡ false → closes bs next ≡ false
unclosed bs next h k =
    let join : bytes_eq (without_indent bs) (92 ∷ []) ≡ false = no_backslash (without_indent bs) (dropped (λ b. b == 92) _ bs h) in
    neither (slice_index (without_indent bs) 0 == 41)
    (bytes_eq (without_indent bs) (92 ∷ []) && ((slice_index next 0 == 41) || bytes_eq next (92 ∷ [])))
    (not_first bs k) (ap (λ t. t && ((slice_index next 0 == 41) || bytes_eq next (92 ∷ []))) join)

-- which of the ways is taken
taken : (s q quoted h colon : Bool) (a b c d : Bool) → s ≡ false → colon ≡ false → b ≡ false → c ≡ false → d ≡ false
    → (if s then a else if q then b else if quoted then c else if h then false else if colon then true else d) ≡ false
taken true q quoted h colon a b c d none is is-b is-c is-d = cc
taken false true quoted h colon a b c d none is is-b is-c is-d = is-b
taken false false true h colon a b c d none is is-b is-c is-d = is-c
taken false false false true colon a b c d none is is-b is-c is-d = refl
taken false false false false true a b c d none is is-b is-c is-d = cc
taken false false false false false a b c d none is is-b is-c is-d = is-d

no_colon : (b : ℕ) (opened : Bool) (bs next : List ℕ) → list_any (λ c. c == 92) bs ≡ false → has_late_close (is_gap b) bs ≡ false
    → ((b == 58) && not opened && closes bs next) ≡ false
no_colon b opened bs next h k = by (b == 58) refl
  where
    last : (s t : Bool) → t ≡ false → (s && t) ≡ false
    last true t e = e
    last false t e = refl

    by : (t : Bool) → (b == 58) ≡ t → (t && not opened && closes bs next) ≡ false
    by true e = last (not opened) (closes bs next)
        (unclosed bs next h (ap (λ g. has_late_close g bs) (sym (colon_is_gap b e)) ∙ k))
    by false e = refl

pub no_empty_group : (quoted opened behind : Bool) (line next : List ℕ) → list_any (λ b. b == 92) line ≡ false
    → has_late_close behind line ≡ false → has_empty_group false quoted opened line next ≡ false
no_empty_group quoted opened behind [] next h k = refl
no_empty_group quoted opened behind (b ∷ bs) next h k =
    let rest : list_any (λ c. c == 92) bs ≡ false = no_right (b == 92) (list_any (λ c. c == 92) bs) h in
    let late : has_late_close (is_gap b) bs ≡ false = no_right (behind && (b == 41)) (has_late_close (is_gap b) bs) k in
    taken (b == 92) (b == 34) quoted ((b == 35) && not (is_digit (slice_index bs 0))) ((b == 58) && not opened && closes bs next)
    (has_empty_group true quoted false bs next) (has_empty_group false (not quoted) false bs next)
    (has_empty_group false true false bs next)
    (has_empty_group false false ((b == 40) || (opened && is_blank b)) bs next)
    (no_left (b == 92) (list_any (λ c. c == 92) bs) h) (no_colon b opened bs next rest late)
    (no_empty_group (not quoted) false (is_gap b) bs next rest late) (no_empty_group true false (is_gap b) bs next rest late)
    (no_empty_group false ((b == 40) || (opened && is_blank b)) (is_gap b) bs next rest late)

-- ---- A search for `)`

close_is_no_gap : (b : ℕ) → (b == 41) ≡ true → is_gap b ≡ false
close_is_no_gap b h = grind arith

first_close : (behind t g : Bool) (bs : List ℕ) → t ≡ true → g ≡ false
    → ((behind && t) || has_late_close g bs) ≡ (behind || has_late_close false bs)
first_close true true false bs e f = refl
first_close false true false bs e f = refl
first_close behind false g bs e f = cc
first_close behind t true bs e f = cc

not_there : (t : Bool) → (t ≡ true → ⊥) → t ≡ false
not_there true h = absurd (h refl)
not_there false h = refl

later_close : (behind t r : Bool) → t ≡ false → ((behind && t) || r) ≡ r
later_close true false r e = refl
later_close false t r e = refl
later_close behind true r e = cc

shifted : (b : ℕ) (bs : List ℕ) (k : ℕ) → gap_before (is_gap b) bs k ≡ is_gap (slice_index (b ∷ bs) k)
shifted b bs zero = refl
shifted b bs (suc k) = refl

-- at the first `)`, what stands directly before it decides, and then the bytes behind it
pub at_close : (behind : Bool) (line : List ℕ) (k : ℕ) → k < length line → Nowhere (Passes (is_byte 41) line) 0 k
    → Passes (is_byte 41) line k
    → has_late_close behind line ≡ (gap_before behind line k || has_late_close false (drop (suc k) line))
at_close behind [] k less none is = absurd (omega (arith, less))
at_close behind (b ∷ bs) zero less none is = first_close behind (b == 41) (is_gap b) bs is (close_is_no_gap b is)
at_close behind (b ∷ bs) (suc k) less none is =
    later_close behind (b == 41) (has_late_close (is_gap b) bs) (not_there (b == 41) (none 0 (omega arith) (omega arith)))
    ∙ at_close (is_gap b) bs k (omega (arith, less)) (λ j low high. none (suc j) (omega arith) (omega (arith, high))) is
    ∙ ap (λ t. t || has_late_close false (drop (suc k) bs)) (shifted b bs k)

-- a line without a `)`
pub no_close : (behind : Bool) (line : List ℕ) → Nowhere (Passes (is_byte 41) line) 0 (length line) → has_late_close behind line ≡ false
no_close behind [] none = refl
no_close behind (b ∷ bs) none =
    later_close behind (b == 41) (has_late_close (is_gap b) bs) (not_there (b == 41) (none 0 (omega arith) (omega arith)))
    ∙ no_close (is_gap b) bs (λ j low high. none (suc j) (omega arith) (omega (arith, high)))
