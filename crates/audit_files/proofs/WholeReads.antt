-- Reading a whole text, read by read.
use Rattle.std.specs.Prelude.{⊤}
use Rattle.std.proofs.Common.{◌≡◌, ◌<◌, ◌≤◌, ◌+◌, ◌∙◌, ℕ, true, false, List, [], ◌++◌, length, take, drop, refl, sym}
use Rattle.std.proofs.Common.{ap, arith, append_assoc, length-append, Option, Some, None, Ok, Err, IfSome, nat_lt}
use Rattle.std.proofs.lemmas.List.{append-nil, length-take-le, take-append-drop, drop-drop}
use Rattle.std.proofs.lemmas.Bool.{lt-ltb, le-ltb}
use Rattle.audit_files.specs.Feeding.{Ahead, Reads}
use Rattle.audit_files.specs.Whole.{whole_of}
use Rattle.audit_files.specs.declared.failed.Failed.{Failed}
use Rattle.audit_files.specs.declared.whole.ReadFault.TheVariants as fault

-- reads have given this text, and what was ahead is it and what is ahead now
abbrev pub Took : Option Ahead → Option Ahead → List ℕ → Type 0
Took None new text = ⊤
Took (Some a) None text = ⊥
Took (Some a) (Some b) text = (a.bytes ≡ text ++ b.bytes) × (a.fails ≡ b.fails)

pub took_none : (o : Option Ahead) → Took o o []
took_none None = tt
took_none (Some a) = (refl, refl)

pub took_more : (old mid new : Option Ahead) (text buffer : List ℕ) (n : ℕ) → Took old mid text
    → Reads mid new (Ok n) buffer → Took old new (text ++ take n buffer)
took_more None mid new text buffer n t r = tt
took_more (Some a) None new text buffer n t r = absurd t
took_more (Some a) (Some m) None text buffer n t r = absurd r
took_more (Some a) (Some m) (Some b) text buffer n t r =
    (t.0 ∙ ap (λ xs. text ++ xs) r.0 ∙ sym (append_assoc text (take n buffer) b.bytes), t.1 ∙ r.1)

-- all of it, within the limit
whole_ok : (a : Ahead) (limit : ℕ) (text : List ℕ) → a.bytes ≡ text → a.fails ≡ false → length text ≤ limit → whole_of limit a ≡ Ok text
whole_ok a limit text all ends within =
    let short : nat_lt limit (length a.bytes) ≡ false = rw all (le-ltb limit (length text) within) in
    rw (short, ends, all) refl

whole_long : (a : Ahead) (limit : ℕ) → limit < length a.bytes → whole_of limit a ≡ Err fault.TooLong
whole_long a limit over = let long : nat_lt limit (length a.bytes) ≡ true = lt-ltb limit (length a.bytes) over in rw long refl

whole_failed : (a : Ahead) (limit : ℕ) → length a.bytes ≤ limit → a.fails ≡ true → whole_of limit a ≡ Err fault.Failed
whole_failed a limit within fails =
    let short : nat_lt limit (length a.bytes) ≡ false = le-ltb limit (length a.bytes) within in
    rw (short, fails) refl

-- a read that gives nothing ends the text
pub took_end : (old mid new : Option Ahead) (limit : ℕ) (text buffer : List ℕ) (n : ℕ) → n ≡ 0 → 0 < length buffer
    → length text ≤ limit → Took old mid text → Reads mid new (Ok n) buffer → IfSome old (λ a. whole_of limit a ≡ Ok text)
took_end None mid new limit text buffer n z room within t r = tt
took_end (Some a) None new limit text buffer n z room within t r = absurd t
took_end (Some a) (Some m) None limit text buffer n z room within t r = absurd r
took_end (Some a) (Some m) (Some b) limit text buffer n z room within t r =
    let e = r.2 z room in
    whole_ok a limit text (t.0 ∙ ap (λ xs. text ++ xs) e.0 ∙ append-nil text) (t.1 ∙ e.1) within

-- a read that passes the limit
pub took_long : (old mid new : Option Ahead) (limit : ℕ) (text buffer : List ℕ) (n : ℕ) → n ≤ length buffer
    → limit < length text + n → Took old mid text → Reads mid new (Ok n) buffer → IfSome old (λ a. whole_of limit a ≡ Err fault.TooLong)
took_long None mid new limit text buffer n bound over t r = tt
took_long (Some a) None new limit text buffer n bound over t r = absurd t
took_long (Some a) (Some m) None limit text buffer n bound over t r = absurd r
took_long (Some a) (Some m) (Some b) limit text buffer n bound over t r =
    let first : length (take n buffer) ≡ n = length-take-le n buffer bound in
    let size : length a.bytes ≡ length text + (n + length b.bytes) =
    ap length (t.0 ∙ ap (λ xs. text ++ xs) r.0) ∙ simp length-append (rw first refl) in
    whole_long a limit (omega arith)

-- a read that fails
pub took_failed : (old mid new : Option Ahead) (limit : ℕ) (text buffer : List ℕ) (e : Failed) → length text ≤ limit
    → Took old mid text → Reads mid new (Err e) buffer → IfSome old (λ a. whole_of limit a ≡ Err fault.Failed)
took_failed None mid new limit text buffer e within t r = tt
took_failed (Some a) None new limit text buffer e within t r = absurd t
took_failed (Some a) (Some m) None limit text buffer e within t r = absurd r
took_failed (Some a) (Some m) (Some b) limit text buffer e within t r =
    let all : a.bytes ≡ text = t.0 ∙ ap (λ xs. text ++ xs) r.0 ∙ append-nil text in
    whole_failed a limit (rw all within) (t.1 ∙ r.1)

-- the bytes from a place on are those that were read there, and then the rest
pub front_and_rest : (xs ys : List ℕ) (at n : ℕ) → take n ys ≡ take n (drop at xs) → take n ys ++ drop (at + n) xs ≡ drop at xs
front_and_rest xs ys at n e = rw (e, ← drop-drop n at xs) (take-append-drop n (drop at xs))
