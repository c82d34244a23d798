-- What a sender asks of the sources of two lists is what it asks of those of its own list.
use Rattle.std.proofs.Common.{◌≡◌, ◌⊎◌, ℕ, zero, suc, ◌+◌, ◌<◌, ◌-◌, Bool, true, false, cond, ◌==◌, List, [], ◌∷◌}
use Rattle.std.proofs.Common.{◌++◌, length, map, flat_map, Some, slice_get, count_by, All, sym, ap, subst, ◌∙◌, refl}
use Rattle.std.proofs.Common.{inl, inr, arith}
use Rattle.std.proofs.lemmas.List.{append-nil}
use Rattle.std.proofs.lemmas.List.Concat.{flat_map-append}
use Rattle.std.proofs.lemmas.Option.{same_Some}
use Rattle.audit_collect.proofs.HeldLaw.{self_tested, tested}
use Rattle.audit_run.specs.Asked.{asked_of, counts_in, counts_of, has_number, values_of_sender, requests_stated}
use Rattle.audit_run.specs.Outcome.{AreWhole, IsWholeSender}
use Rattle.audit_run.specs.Parts.{Stated}
use Rattle.audit_run.proofs.Apart.{part_after}
use Rattle.audit_run.proofs.WholeSources.{none_past, within_or_past}
use Rattle.audit_run.proofs.Refusals.{IsOwned}
use Rattle.audit_run.proofs.Twice.{untested}

pub at_front : {X : Type 0} (xs ys : List X) (i : ℕ) (x : X) → slice_get xs i ≡ Some x → slice_get (xs ++ ys) i ≡ Some x
at_front [] ys i x there = absurd (cc)
at_front (z ∷ xs) ys zero x there = there
at_front (z ∷ xs) ys (suc i) x there = at_front xs ys i x there

pub at_back : {X : Type 0} (xs ys : List X) (i : ℕ) → slice_get (xs ++ ys) (length xs + i) ≡ slice_get ys i
at_back [] ys i = let e : 0 + i ≡ i = omega arith in ap (slice_get ys) e
at_back (x ∷ xs) ys i = let e : suc (length xs) + i ≡ suc (length xs + i) = omega arith in
    ap (slice_get (x ∷ (xs ++ ys))) e ∙ at_back xs ys i

-- the second list has it, so many places before
pub record Later {X : Type 0} (xs ys : List X) (i : ℕ) (x : X) : Type 0 where
  pub index : ℕ
  pub is : i ≡ length xs + index
  pub there : slice_get ys index ≡ Some x

pub at_cases : {X : Type 0} (xs ys : List X) (i : ℕ) (x : X) → slice_get (xs ++ ys) i ≡ Some x → (slice_get xs i ≡ Some x) ⊎ Later xs ys i x
at_cases [] ys i x there = inr (record { index = i; is = omega arith; there = there })
at_cases (z ∷ xs) ys zero x there = inl there
at_cases (z ∷ xs) ys (suc i) x there = elim (at_cases xs ys i x there) [
  | inl front ↦ inl front
  | inr back ↦ inr (record { index = back.index; is = let at = back.is in omega (arith, at); there = back.there })
]

-- what a mapped list has is made of what the list has
pub record MadeOf {X Y : Type 0} (f : X → Y) (xs : List X) (i : ℕ) (y : Y) : Type 0 where
  pub item : X
  pub there : slice_get xs i ≡ Some item
  pub is : f item ≡ y

pub made_of : {X Y : Type 0} (f : X → Y) (xs : List X) (i : ℕ) (y : Y) → slice_get (map f xs) i ≡ Some y → MadeOf f xs i y
made_of f [] i y there = absurd (cc)
made_of f (x ∷ xs) zero y there = record { item = x; there = refl; is = same_Some (f x) y there }
made_of f (x ∷ xs) (suc i) y there = let found = made_of f xs i y there in record { item = found.item; there = found.there; is = found.is }

-- the sources of both lists
abbrev pub both : ℕ → List (ℕ × Stated) → List (ℕ × Stated) → List (ℕ × Stated)
both senders parts more = parts ++ map (part_after senders) more

test_after : (n a k : ℕ) → (n + a == n + k) ≡ (a == k)
test_after n a k = by (a == k) refl
  where
    by : (b : Bool) → (a == k) ≡ b → (n + a == n + k) ≡ b
    by true e = ap (λ t. n + t == n + k) (tested a k e) ∙ self_tested (n + k)
    by false e = untested (n + a) (n + k) (λ same. let is : a ≡ k = omega (arith, same) in
        let yes_equal : (a == k) ≡ true = ap (λ t. t == k) is ∙ self_tested k in absurd (cc))

-- a sender is of the first list, or of the second
pub record IsAfter (senders sender : ℕ) : Type 0 where
  pub index : ℕ
  pub is : sender ≡ senders + index

pub before_or_after : (senders sender : ℕ) → (sender < senders) ⊎ IsAfter senders sender
before_or_after senders sender = elim (within_or_past sender senders) [
  | inl before ↦ inl before
  | inr past ↦ inr (record { index = sender - senders; is = omega (arith, past) })
]

module _ {X : Type 0} (f : Stated → List X) (senders : ℕ) where
  all_after : (sender : ℕ) (more : List (ℕ × Stated))
      → flat_map (values_of_sender (senders + sender) f) (map (part_after senders) more) ≡ flat_map (values_of_sender sender f) more
  all_after sender [] = refl
  all_after sender (part ∷ more) =
      ap (λ b. cond b (f part.1) [] ++ flat_map (values_of_sender (senders + sender) f)
      (map (part_after senders) more)) (test_after senders part.0 sender)
      ∙ ap (λ l. values_of_sender sender f part ++ l) (all_after sender more)

  none_before : (sender : ℕ) (more : List (ℕ × Stated)) → sender < senders
      → flat_map (values_of_sender sender f) (map (part_after senders) more) ≡ []
  none_before sender [] before = refl
  none_before sender (part ∷ more) before =
      ap (λ b. cond b (f part.1) [] ++ flat_map (values_of_sender sender f) (map (part_after senders) more))
      (untested (senders + part.0) sender (λ e. omega (arith, e, before)))
      ∙ none_before sender more before

  -- a sender of the first list has nothing in the second
  pub of_front : (sender : ℕ) (parts more : List (ℕ × Stated)) → sender < senders
      → flat_map (values_of_sender sender f) (both senders parts more) ≡ flat_map (values_of_sender sender f) parts
  of_front sender parts more before =
      flat_map-append (values_of_sender sender f) parts (map (part_after senders) more)
      ∙ ap (λ l. flat_map (values_of_sender sender f) parts ++ l) (none_before sender more before)
      ∙ append-nil (flat_map (values_of_sender sender f) parts)

  -- and one of the second has nothing in the first
  pub of_back : (sender : ℕ) (parts more : List (ℕ × Stated)) → All (IsOwned senders) parts
      → flat_map (values_of_sender (senders + sender) f) (both senders parts more) ≡ flat_map (values_of_sender sender f) more
  of_back sender parts more parts_by_owner =
      flat_map-append (values_of_sender (senders + sender) f) parts (map (part_after senders) more)
      ∙ ap (λ l. l ++ flat_map (values_of_sender (senders + sender) f) (map (part_after senders) more))
      (none_past f senders (senders + sender) parts parts_by_owner (omega arith))
      ∙ all_after sender more

-- a sender that asks the same is whole alike
whole_same : (s t : ℕ) (parts more : List (ℕ × Stated)) → asked_of s parts ≡ asked_of t more
    → counts_of s parts ≡ counts_of t more → IsWholeSender t more → IsWholeSender s parts
whole_same s t parts more asked counts whole = record {
  count = whole.count;
  closed = counts ∙ whole.closed;
  once = λ number low high. ap (count_by (has_number number)) asked ∙ whole.once number low high;
  no_other = λ number out. ap (count_by (has_number number)) asked ∙ whole.no_other number out;
}

module _ (senders others : ℕ) (parts more : List (ℕ × Stated)) (parts_by_owner : All (IsOwned senders) parts) where
  -- all senders of both lists are whole where those of each are
  pub whole_joined : AreWhole senders parts → AreWhole others more → AreWhole (senders + others) (both senders parts more)
  whole_joined whole also sender within = elim (before_or_after senders sender) [
    | inl before ↦ whole_same sender sender (both senders parts more) parts
        (of_front requests_stated senders sender parts more before)
        (of_front counts_in senders sender parts more before) (whole sender before)
    | inr after ↦
        let at = after.is in
        subst (λ s. IsWholeSender s (both senders parts more)) (sym at)
        (whole_same (senders + after.index) after.index (both senders parts more) more
        (of_back requests_stated senders after.index parts more parts_by_owner)
        (of_back counts_in senders after.index parts more parts_by_owner)
        (also after.index (omega (arith, at, within))))
  ]

  pub whole_first : AreWhole (senders + others) (both senders parts more) → AreWhole senders parts
  whole_first whole sender before =
      whole_same sender sender parts (both senders parts more)
      (sym (of_front requests_stated senders sender parts more before)) (sym (of_front counts_in senders sender parts more before))
      (whole sender (omega (arith, before)))

  pub whole_second : AreWhole (senders + others) (both senders parts more) → AreWhole others more
  whole_second whole sender within =
      whole_same sender (senders + sender) more (both senders parts more)
      (sym (of_back requests_stated senders sender parts more parts_by_owner))
      (sym (of_back counts_in senders sender parts more parts_by_owner))
      (whole (senders + sender) (omega (arith, within)))
