-- Which blocks list the known hosts, host by host and part by part.
use Rattle.std.proofs.Common.{◌≡◌, ◌<◌, ◌≤◌, ◌+◌, ◌-◌, ◌*◌, ◌∙◌, ◌⊎◌, inl, inr, ℕ, zero, suc, List, [], ◌∷◌, ◌++◌}
use Rattle.std.proofs.Common.{ap, append_assoc, arith, subst, sym, get_or, length, length-append, slice_index_or, unwrap_or}
use Rattle.std.proofs.Common.{Global, Ok, Option, Result, Some, Vec}
use Rattle.std.specs.declared.alloc.AllocError.{AllocError}
use Rattle.std.specs.Prelude.{slice_get}
use Rattle.std.proofs.Math.Seq.{get_or-append_seam}
use Rattle.std.proofs.lemmas.Bool.{cases_lt}
use Rattle.std.proofs.lemmas.List.{get_or_append_left, get_or-append_right, get_or_push}
use Rattle.sudo_match.specs.declared.people.Machine.{Machine}
use Rattle.review_compare.specs.declared.host_marks.HostMarks.{HostMarks}
use Rattle.review_compare.specs.declared.side.Side.{Side}
use Rattle.review_compare.specs.Body.HostMarks.{AreHostMarks, AreMarkParts, HaveHostMarks, HaveMarksFrom, IsMarkPart}
use Rattle.review_compare.proofs.UnchangedLemmas.{less-or}

-- one host more
pub marks-more : (first : ℕ) (old new : Side) (ms : List Machine) (ks : List HostMarks) (k : HostMarks) (n : ℕ) →
    first + length ks ≡ n → HaveMarksFrom first old new ms ks → ((m : Machine) → AreHostMarks old new (get_or ms n m) k) →
    HaveMarksFrom first old new ms (ks ++ k ∷ [])
marks-more first old new ms ks k n long so_far one h m d below = go (less-or h (length ks) (omega (arith, below, more)))
  where
    more : length (ks ++ k ∷ []) ≡ length ks + 1
    more = length-append ks (k ∷ [])

    go : (h < length ks) ⊎ (h ≡ length ks) → AreHostMarks old new (get_or ms (first + h) m) (get_or (ks ++ k ∷ []) h d)
    go (inl before) =
        subst (AreHostMarks old new (get_or ms (first + h) m)) (sym (get_or_append_left ks (k ∷ []) d h before)) (so_far h m d before)
    go (inr here) =
        let same : n ≡ first + h = omega (arith, here, long) in
        subst (AreHostMarks old new (get_or ms (first + h) m)) (sym (get_or_push ks k d h (sym here)))
        (subst (λ (j : ℕ). AreHostMarks old new (get_or ms j m) k) same (one m))

-- the hosts of one part more
marks-joined : (old new : Side) (ms : List Machine) (ks js : List HostMarks) (n : ℕ) → length ks ≡ n → HaveHostMarks old new ms ks →
    HaveMarksFrom n old new ms js → HaveHostMarks old new ms (ks ++ js)
marks-joined old new ms ks js n long so_far own h m d below = go (cases_lt h n)
  where
    go : (h < n) ⊎ (n ≤ h) → AreHostMarks old new (get_or ms h m) (get_or (ks ++ js) h d)
    go (inl before) =
        let within : h < length ks = omega (arith, before, long) in
        subst (AreHostMarks old new (get_or ms h m)) (sym (get_or_append_left ks js d h within)) (so_far h m d within)
    go (inr behind) =
        let whole = length-append ks js in
        let is : n + (h - n) ≡ h = omega (arith, behind) in
        subst (AreHostMarks old new (get_or ms h m)) (sym (get_or-append_right ks js n h d long behind))
        (subst (λ (j : ℕ). AreHostMarks old new (get_or ms j m) (get_or js (h - n) d)) is
        (own (h - n) m d (omega (arith, behind, below, whole, long))))

-- the marks of a part, or nothing because allocation failed
abbrev Part : Type 0
Part = Result (Vec HostMarks Global) AllocError

pub parts-more : (count : ℕ) (old new : Side) (ms : List Machine) (ks : List HostMarks) (js : Vec HostMarks Global)
    (parts yielded : List Part) (part : Part) (rest : List Part) →
    AreMarkParts count old new ms parts → (yielded ++ part ∷ []) ++ rest ≡ parts → part ≡ Ok js →
    length ks ≡ length yielded * count → HaveHostMarks old new ms ks →
    (length (ks ++ js.items) ≡ length (yielded ++ part ∷ []) * count) × HaveHostMarks old new ms (ks ++ js.items)
parts-more count old new ms ks js parts yielded part rest are whole is long so_far = (
  length-append ks js.items ∙ ap (λ (n : ℕ). n + length js.items) long ∙ ap (λ (n : ℕ). length yielded * count + n) own.0
      ∙ sym (one-more (length yielded) count) ∙ ap (λ (n : ℕ). n * count) (sym (length-append yielded (part ∷ []))),
  marks-joined old new ms ks js.items (length yielded * count) long so_far own.1,
)
  where
    one-more : (n size : ℕ) → (n + 1) * size ≡ n * size + size
    one-more n size = grind arith

    within : length yielded < length parts
    within =
        let all : length ((yielded ++ part ∷ []) ++ rest) ≡ length parts = ap (λ (xs : List Part). length xs) whole in
        let split : length ((yielded ++ part ∷ []) ++ rest) ≡ length (yielded ++ part ∷ []) + length rest =
        length-append (yielded ++ part ∷ []) rest in
        let more : length (yielded ++ part ∷ []) ≡ length yielded + 1 = length-append yielded (part ∷ []) in omega (arith, all, split, more)

    at : slice_index_or parts (length yielded) part ≡ part
    at = ap (λ (xs : List Part). slice_index_or xs (length yielded) part) (sym whole ∙ append_assoc yielded (part ∷ []) rest)
        ∙ get_or-append_seam yielded part rest part

    own : (length js.items ≡ count) × HaveMarksFrom (length yielded * count) old new ms js.items
    own = subst (IsMarkPart count old new ms (length yielded)) (at ∙ is) (are (length yielded) part within)

pub known-at : (ms : List Machine) (h : ℕ) (m : Machine) → slice_get ms h ≡ Some m → get_or ms h m ≡ m
known-at [] h m e = cc
known-at (x ∷ ms) zero m e = ap (λ (o : Option Machine). unwrap_or o m) e
known-at (x ∷ ms) (suc h) m e = known-at ms h m e
