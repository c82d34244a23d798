-- A table on its way out: one step further, and where it stops.
use Rattle.std.proofs.Common.{◌≡◌, ◌<◌, ◌≤◌, ◌+◌, ◌-◌, ◌^◌, ◌∙◌, ℕ, zero, suc, List, [], ◌∷◌, ◌++◌, ap, append-nil, append_assoc, arith}
use Rattle.std.proofs.Common.{length, min, refl, subst, sym, take, Option, Some, None}
use Rattle.std.proofs.lemmas.List.{length-append}
use Rattle.std.specs.Io.KnownBytes.{Appends}
use Rattle.std.specs.Prelude.{IfErr, Result, Ok, Err}
use Rattle.review_grants.specs.Body.Pending.{Empties, IsOnItsWay, StopsIn}
use Rattle.review_grants.specs.Writing.{IsStopped}
use Rattle.review_grants.specs.declared.writing.Pending.{Pending}
use Rattle.review_grants.specs.declared.writing.Stopped.{Stopped}
use Rattle.review_grants.specs.declared.writing.Stopped.TheVariants as stops

-- two writes, one after the other
appends-more : (a b c : Option (List ℕ)) (x y : List ℕ) → Appends a b x → Appends b c y → Appends a c (x ++ y)
appends-more None b c x y p q = tt
appends-more (Some a) None c x y p q = absurd p
appends-more (Some a) (Some b) None x y p q = absurd q
appends-more (Some a) (Some b) (Some c) x y p q = q ∙ ap (λ xs. xs ++ y) p ∙ append_assoc a x y

take-behind : (xs ys : List ℕ) (n : ℕ) → take (length xs + n) (xs ++ ys) ≡ xs ++ take n ys
take-behind [] ys n =
    let none : length {A = ℕ} [] + n ≡ n = omega arith in
    ap (λ m. take m ys) none
take-behind (x ∷ xs) ys n =
    let more : length (x ∷ xs) + n ≡ suc (length xs + n) = omega arith in
    ap (λ m. take m (x ∷ (xs ++ ys))) more ∙ ap (λ zs. x ∷ zs) (take-behind xs ys n)

take-front : (xs ys : List ℕ) (n : ℕ) → n ≤ length xs → take n (xs ++ ys) ≡ take n xs
take-front xs ys zero within = refl
take-front [] ys (suc n) within = absurd (omega (arith, within))
take-front (x ∷ xs) ys (suc n) within = ap (λ zs. x ∷ zs) (take-front xs ys n (omega (arith, within)))

clamped : (most a n w : ℕ) → w ≡ min a most → min (w + n) most ≡ min (a + n) most
clamped most a n w is = omega (arith, is)

-- all that waited was written
pub emptied : (old new : Option (List ℕ)) (waited waits : Pending) → Appends old new waited.text.items → waits.text.items ≡ []
    → waits.written ≡ min (waited.written + length waited.text.items) (2 ^ 64 - 1) → Empties old new waited waits
emptied old new waited waits gone none counted = record { same = go; none = none }
  where
    go : (before : Option (List ℕ)) (made : List ℕ) → IsOnItsWay before old waited made → IsOnItsWay before new waits made
    go before made way =
        let whole : List ℕ = way.part ++ waited.text.items in record {
          part = whole;
          gone = appends-more before old new way.part waited.text.items way.gone gone;
          is = way.is ∙ sym (append-nil whole) ∙ ap (λ (t : List ℕ). whole ++ t) (sym none);
          counted = counted ∙ clamped (2 ^ 64 - 1) (length way.part) (length waited.text.items) waited.written way.counted
              ∙ ap (λ n. min n (2 ^ 64 - 1)) (sym (length-append way.part waited.text.items));
        }

-- a write failed after some bytes of what waited
pub stops-writing : (old new : Option (List ℕ)) (waited : Pending) (written count : ℕ)
    → Appends old new (take count waited.text.items) → count < length waited.text.items
    → written ≡ min (waited.written + count) (2 ^ 64 - 1) → StopsIn old new waited [] (stops.Write (record { written = written }))
stops-writing old new waited written count gone within counted before made way =
    let whole : made ++ [] ≡ way.part ++ waited.text.items = append-nil made ∙ way.is in
    let long : length (made ++ []) ≡ length way.part + length waited.text.items =
    ap length whole ∙ length-append way.part waited.text.items in (
      length way.part + count,
      omega (arith, within, long),
      rw (ap (take (length way.part + count)) whole ∙ take-behind way.part waited.text.items count)
          (appends-more before old new way.part (take count waited.text.items) way.gone gone),
      counted ∙ clamped (2 ^ 64 - 1) (length way.part) count waited.written way.counted,
    )

-- memory failed: what waited is lost
pub stops-without-memory : (old : Option (List ℕ)) (waited : Pending) (text : List ℕ) → StopsIn old old waited text stops.Memory
stops-without-memory old waited text before made way =
    let whole : made ++ text ≡ way.part ++ (waited.text.items ++ text) =
    ap (λ (t : List ℕ). t ++ text) way.is ∙ append_assoc way.part waited.text.items text in
    let long : length (made ++ text) ≡ length way.part + length (waited.text.items ++ text) =
    ap length whole ∙ length-append way.part (waited.text.items ++ text) in
    let front : take (length way.part) (made ++ text) ≡ way.part =
    ap (take (length way.part)) whole ∙ ap (λ n. take n (way.part ++ (waited.text.items ++ text))) (omega arith)
    ∙ take-behind way.part (waited.text.items ++ text) 0 ∙ append-nil way.part in
    (length way.part, omega (arith, long), rw front way.gone)

-- it stops while this text waits too
pub stops-behind : (old new : Option (List ℕ)) (waited waits : Pending) (text : List ℕ) (stop : Stopped)
    → waits.text.items ≡ waited.text.items ++ text → waits.written ≡ waited.written → StopsIn old new waits [] stop
    → StopsIn old new waited text stop
stops-behind old new waited waits text stop is same stopped before made way =
    rw (sym (append-nil (made ++ text))) (stopped before (made ++ text) (record {
      part = way.part;
      gone = way.gone;
      is = ap (λ (t : List ℕ). t ++ text) way.is ∙ append_assoc way.part waited.text.items text
          ∙ ap (λ (t : List ℕ). way.part ++ t) (sym is);
      counted = same ∙ way.counted;
    }))

-- what stops within a text stops within one that begins with it
pub stopped-within : (before after : Option (List ℕ)) (made more : List ℕ) (stop : Stopped)
    → IsStopped before after made stop → IsStopped before after (made ++ more) stop
stopped-within before after made more (stops.Write fault) (count, within, gone, counted) = (
  count,
  rw (length-append made more) (omega (arith, within)),
  rw (take-front made more count (omega (arith, within))) gone,
  counted,
)
stopped-within before after made more stops.Memory (count, within, gone) = (
  count,
  rw (length-append made more) (omega (arith, within)),
  rw (take-front made more count within) gone,
)

-- what holds of an error holds of it in other words
pub if_err : {T E : Type 0} (r : Result T E) (P Q : E → Type 0) → ((e : E) → P e → Q e) → IfErr r P → IfErr r Q
if_err (Ok x) P Q f h = tt
if_err (Err e) P Q f h = f e h

-- all is written where nothing waits
pub written-whole : (before now : Option (List ℕ)) (waits : Pending) (text made : List ℕ) → made ≡ text
    → IsOnItsWay before now waits made → waits.text.items ≡ [] → Appends before now text
written-whole before now waits text made whole way none =
    let part : way.part ≡ text =
    sym (append-nil way.part) ∙ ap (λ (t : List ℕ). way.part ++ t) (sym none) ∙ sym way.is ∙ whole in
    subst (Appends before now) part way.gone
