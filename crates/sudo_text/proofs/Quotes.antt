-- The double quote that closes a quoted word, by the backslashes directly before it.
use Rattle.std.proofs.Common.{◌≡◌, ℕ, zero, suc, ◌+◌, ◌<◌, ◌≤◌, Bool, List, [], ◌∷◌, length, drop, get_or, true}
use Rattle.std.proofs.Common.{false, refl, sym, ◌∙◌, ap, subst, arith}
use Rattle.std.proofs.lemmas.List.{drop_all, get_or-drop}
use Rattle.std.proofs.lemmas.Bool.{eqb-true, eq-eqb, false≢true}
use Rattle.std.proofs.lemmas.Bool.Decides.{nat_tests}
use Rattle.std.specs.Prelude.{◌==◌, ◌&&◌, ◌%◌, ◌↔◌, not, if◌then◌else◌, nat_le}
use Rattle.sudo_text.specs.Tokens.{closes, takes_next, has_closing}
use Rattle.sudo_text.specs.Runs.{backslashes_before, IsClosingQuote}
use Rattle.sudo_text.proofs.RunCharacters.{choose}
use Rattle.sudo_text.proofs.ClosingQuotes.{closing_at}

-- Whether a backslash from `start` on takes the byte at an offset.
abbrev pub taken_from : List ℕ → ℕ → ℕ → Bool
taken_from text start zero = false
taken_from text start (suc at) = nat_le start at && takes_next (taken_from text start at) (get_or text at 0)

pub taken_start : (text : List ℕ) (start : ℕ) → taken_from text start start ≡ false
taken_start text zero = refl
taken_start text (suc start) = let e : nat_le (suc start) start ≡ false = grind (arith, nat_tests) in rw e refl

pub taken_next : (text : List ℕ) (start at : ℕ) → start ≤ at
    → taken_from text start (suc at) ≡ takes_next (taken_from text start at) (get_or text at 0)
taken_next text start at h = let e : nat_le start at ≡ true = grind (arith, nat_tests) in rw e refl

-- By pairs.
abbrev pub one_if : Bool → ℕ
one_if true = 1
one_if false = 0

flips : (b t : Bool) (n : ℕ) → n % 2 ≡ one_if t → (if b then suc n else 0) % 2 ≡ one_if (not t && b)
flips true true n h = omega arith
flips true false n h = omega arith
flips false true n h = refl
flips false false n h = refl

pub taken_by_pairs : (text : List ℕ) (start i : ℕ) → backslashes_before (drop start text) i % 2 ≡ one_if (taken_from text start (start + i))
taken_by_pairs text start zero =
    let e : start ≡ start + 0 = omega arith in
    subst (λ n. 0 ≡ one_if (taken_from text start n)) e (ap one_if (sym (taken_start text start)))
taken_by_pairs text start (suc i) =
    let e : suc (start + i) ≡ start + suc i = omega arith in
    let byte : get_or (drop start text) i 0 ≡ get_or text (start + i) 0 = get_or-drop start text i 0 in
    ap (λ b. (if b == 92 then suc (backslashes_before (drop start text) i) else 0) % 2) byte
    ∙ flips (get_or text (start + i) 0 == 92) (taken_from text start (start + i)) _ (taken_by_pairs text start i)
    ∙ ap one_if (sym (taken_next text start (start + i) (omega arith)) ∙ ap (taken_from text start) e)

-- A quote that closes is one with an even number of backslashes before it.
pub untaken : (t : Bool) → one_if t ≡ 0 → t ≡ false
untaken true h = absurd (omega arith)
untaken false h = refl

closes_parts : (t : Bool) (b : ℕ) → closes t b ≡ true → (t ≡ false) × (b ≡ 34)
closes_parts true b h = absurd (false≢true h)
closes_parts false b h = (refl, eqb-true b 34 h)

pub closing_from : (text : List ℕ) (start i : ℕ)
    → closes (taken_from text start (start + i)) (get_or text (start + i) 0) ≡ true → IsClosingQuote (drop start text) i
closing_from text start i h =
    let parts = closes_parts (taken_from text start (start + i)) (get_or text (start + i) 0) h in
    record {
      quote = get_or-drop start text i 0 ∙ parts.1;
      even = taken_by_pairs text start i ∙ ap one_if parts.0;
    }

closing_closes : (text : List ℕ) (start i : ℕ) → IsClosingQuote (drop start text) i
    → closes (taken_from text start (start + i)) (get_or text (start + i) 0) ≡ true
closing_closes text start i is =
    let t = untaken (taken_from text start (start + i)) (sym (taken_by_pairs text start i) ∙ is.even) in
    let b : get_or text (start + i) 0 ≡ 34 = sym (get_or-drop start text i 0) ∙ is.quote in
    ap (λ s. closes s (get_or text (start + i) 0)) t ∙ eq-eqb _ _ b

-- Such a quote is found, by the number of bytes left.
find_closing : (text : List ℕ) (left at : ℕ) → at + left ≡ length text
    → has_closing (taken_from text 0 at) (drop at text) ≡ true → (i : ℕ) × IsClosingQuote text i
find_closing text zero at e h = absurd (false≢true (sym (ap (has_closing (taken_from text 0 at)) (drop_all at text (omega arith))) ∙ h))
find_closing text (suc left) at e h =
    let taken = taken_from text 0 at in
    let byte : ℕ = get_or text at 0 in
    let none : 0 + at ≡ at = omega arith in
    let next : suc at ≡ at + 1 = omega arith in
    choose (closes taken byte) true (has_closing (takes_next taken byte) (drop (at + 1) text)) true
    (sym (closing_at taken text at (omega arith)) ∙ h)
    (λ w m. (at, closing_from text 0 at (subst (λ n. closes (taken_from text 0 n) (get_or text n 0) ≡ true) (sym none) w)))
    (λ w m. find_closing text left (at + 1) (omega arith) (ap (λ t. has_closing t (drop (at + 1) text))
    (ap (taken_from text 0) (sym next) ∙ taken_next text 0 at (omega arith)) ∙ m))

within_text : (text : List ℕ) (at : ℕ) → get_or text at 0 ≡ 34 → at < length text
within_text [] at h = absurd (omega arith)
within_text (b ∷ bs) zero h = omega arith
within_text (b ∷ bs) (suc at) h = let r : at < length bs = within_text bs at h in omega arith

-- From each offset before such a quote on, one closes.
closing_ahead : (text : List ℕ) (at : ℕ) → IsClosingQuote text at → (left i : ℕ) → i + left ≡ at
    → has_closing (taken_from text 0 i) (drop i text) ≡ true
closing_ahead text at is zero i e =
    let here : i ≡ at = omega arith in
    let none : 0 + at ≡ at = omega arith in
    let lt : at < length text = within_text text at is.quote in
    let now = subst (λ n. closes (taken_from text 0 n) (get_or text n 0) ≡ true) none (closing_closes text 0 at is) in
    subst (λ k. has_closing (taken_from text 0 k) (drop k text) ≡ true) (sym here)
    (closing_at (taken_from text 0 at) text at lt
    ∙ ap (λ c. if c then true else has_closing (takes_next (taken_from text 0 at) (get_or text at 0)) (drop (at + 1) text)) now)
closing_ahead text at is (suc left) i e =
    let lt : at < length text = within_text text at is.quote in
    let next : suc i ≡ i + 1 = omega arith in
    let rest = closing_ahead text at is left (i + 1) (omega arith) in
    let on : has_closing (takes_next (taken_from text 0 i) (get_or text i 0)) (drop (i + 1) text) ≡ true
    = ap (λ t. has_closing t (drop (i + 1) text)) (sym (taken_next text 0 i (omega arith)) ∙ ap (taken_from text 0) next) ∙ rest in
    closing_at (taken_from text 0 i) text i (omega arith)
    ∙ elim (closes (taken_from text 0 i) (get_or text i 0)) as (λ c.
    (if c then true else has_closing (takes_next (taken_from text 0 i) (get_or text i 0)) (drop (i + 1) text)) ≡ true)
    [ true ↦ refl | false ↦ on ]

pub quotes_closed : (text : List ℕ) → (has_closing false text ≡ true) ↔ ((at : ℕ) × IsClosingQuote text at)
quotes_closed text = (λ h. find_closing text (length text) 0 (omega arith) h, λ q. closing_ahead text q.0 q.1 q.0 0 (omega arith))
