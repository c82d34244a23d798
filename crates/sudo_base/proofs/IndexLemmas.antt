-- Lemmas on the index of rows by their names, for the code that fills `Names` row by row.
use Rattle.std.proofs.Common.{◌≡◌, ℕ, zero, suc, ◌+◌, Bool, true, false, ◌||◌, List, [], ◌∷◌, ◌++◌, take, refl, ap}
use Rattle.std.proofs.Common.{sym, ◌∙◌, Some, None, Option, arith, cond}
use Rattle.std.specs.Prelude.{slice_get, find, is_some, bytes_eq, option_and_then}
use Rattle.std.specs.List.{list_any}
use Rattle.std.proofs.lemmas.Slice.Eq.{bytes_eq-Decides}
use Rattle.sudo_base.specs.Body.Indexes.{IndexesRows}
use Rattle.sudo_base.specs.NameIndices.{index_of}

pub take-some : {A : Type 0} (n : ℕ) (xs : List A) (x : A) → slice_get xs n ≡ Some x → take (n + 1) xs ≡ take n xs ++ x ∷ []
take-some zero [] x e = cc
take-some zero (y ∷ xs) x e = let same : y ≡ x = cc in ap (λ z. z ∷ []) same
take-some (suc n) [] x e = cc
take-some (suc n) (y ∷ xs) x e =
    (let more : suc n + 1 ≡ suc (n + 1) = omega arith in ap (λ k. take k (y ∷ xs)) more) ∙ ap (λ z. y ∷ z) (take-some n xs x e)

pub find-append :
    {A : Type 0} (p : A → Bool) (xs : List A) (x : A) → find p xs ≡ None → find p (xs ++ x ∷ []) ≡ cond (p x) (Some x) None
find-append p [] x e = refl
find-append p (y ∷ xs) x e = go (p y) refl e (λ f. find-append p xs x f)
  where
    go : (b : Bool) → p y ≡ b → cond b (Some y) (find p xs) ≡ None
        → (find p xs ≡ None → find p (xs ++ x ∷ []) ≡ cond (p x) (Some x) None) → find p ((y ∷ xs) ++ x ∷ []) ≡ cond (p x) (Some x) None
    go true f g h = cc
    go false f g h = ap (λ b. cond b (Some y) (find p (xs ++ x ∷ []))) f ∙ h g

find-append-fails : {A : Type 0} (p : A → Bool) (xs : List A) (x : A) → p x ≡ false → find p (xs ++ x ∷ []) ≡ find p xs
find-append-fails p [] x e = ap (λ b. cond b (Some x) None) e
find-append-fails p (y ∷ xs) x e = ap (λ o. cond (p y) (Some y) o) (find-append-fails p xs x e)

pub list_any-append : {A : Type 0} (p : A → Bool) (xs : List A) (x : A) → list_any p (xs ++ x ∷ []) ≡ (list_any p xs || p x)
list_any-append p [] x = or-false (p x)
  where
    or-false : (b : Bool) → (b || false) ≡ b
    or-false true = refl
    or-false false = refl
list_any-append p (y ∷ xs) x = ap (λ b. p y || b) (list_any-append p xs x) ∙ or_assoc (p y) (list_any p xs) (p x)
  where
    or_assoc : (a b c : Bool) → (a || (b || c)) ≡ ((a || b) || c)
    or_assoc true b c = refl
    or_assoc false b c = refl

pub IndexesRows-none :
    {A : Type 0} (key : A → List ℕ) (rows : List A) (indices : List ℕ → Option ℕ)
    → ((name : List ℕ) → indices name ≡ None) → IndexesRows key rows 0 indices
IndexesRows-none key rows indices e = record {
  found = λ name. ap (option_and_then (slice_get rows)) (e name);
  known = λ name. ap is_some (e name);
}

pub bytes_eq-is : (xs ys : List ℕ) → bytes_eq xs ys ≡ true → xs ≡ ys
bytes_eq-is xs ys e = (bytes_eq-Decides xs ys).0 e

pub bytes_eq-swap : (xs ys : List ℕ) → bytes_eq xs ys ≡ bytes_eq ys xs
bytes_eq-swap xs ys = go (bytes_eq xs ys) (bytes_eq ys xs) refl refl
  where
    go : (b c : Bool) → bytes_eq xs ys ≡ b → bytes_eq ys xs ≡ c → bytes_eq xs ys ≡ bytes_eq ys xs
    go true true e f = e ∙ sym f
    go false false e f = e ∙ sym f
    go true false e f = absurd (let h : bytes_eq ys xs ≡ true = (bytes_eq-Decides ys xs).1 (sym ((bytes_eq-Decides xs ys).0 e)) in cc)
    go false true e f = absurd (let h : bytes_eq xs ys ≡ true = (bytes_eq-Decides xs ys).1 (sym ((bytes_eq-Decides ys xs).0 f)) in cc)

pub IndexesRows-more :
    {A : Type 0} (key : A → List ℕ) (rows : List A) (n : ℕ) (x : A) (indices more : List ℕ → Option ℕ) → IndexesRows key rows n indices →
    slice_get rows n ≡ Some x → indices (key x) ≡ None →
    ((other : List ℕ) → more other ≡ cond (bytes_eq other (key x)) (Some n) (indices other)) → IndexesRows key rows (n + 1) more
IndexesRows-more key rows n x indices more i at new e = record {
  found = λ name. found name (bytes_eq name (key x)) refl;
  known = λ name.
      ap is_some (e name) ∙ is_some-cond (bytes_eq name (key x)) (indices name)
      ∙ ap (λ b. b || bytes_eq name (key x)) (i.known name)
      ∙ ap (λ b. list_any (λ y. bytes_eq (key y) name) (take n rows) || b) (bytes_eq-swap name (key x))
      ∙ sym (list_any-append (λ y. bytes_eq (key y) name) (take n rows) x)
      ∙ ap (list_any (λ y. bytes_eq (key y) name)) (sym (take-some n rows x at));
}
  where
    is_some-cond : (b : Bool) (o : Option ℕ) → is_some (cond b (Some n) o) ≡ (is_some o || b)
    is_some-cond true None = refl
    is_some-cond true (Some k) = refl
    is_some-cond false None = refl
    is_some-cond false (Some k) = refl

    found : (name : List ℕ) (b : Bool) → bytes_eq name (key x) ≡ b
        → option_and_then (slice_get rows) (more name) ≡ find (λ y. bytes_eq (key y) name) (take (n + 1) rows)
    found name true f =
        let same : name ≡ key x = bytes_eq-is name (key x) f in
        let none : find (λ y. bytes_eq (key y) name) (take n rows) ≡ None =
        sym (i.found name) ∙ ap (option_and_then (slice_get rows)) (ap indices same ∙ new) in
        ap (option_and_then (slice_get rows)) (e name ∙ ap (λ b. cond b (Some n) (indices name)) f) ∙ at
        ∙ sym (ap (find (λ y. bytes_eq (key y) name)) (take-some n rows x at)
        ∙ find-append (λ y. bytes_eq (key y) name) (take n rows) x none
        ∙ ap (λ b. cond b (Some x) None) (bytes_eq-swap (key x) name ∙ f))
    found name false f =
        ap (option_and_then (slice_get rows)) (e name ∙ ap (λ b. cond b (Some n) (indices name)) f) ∙ i.found name
        ∙ sym (ap (find (λ y. bytes_eq (key y) name)) (take-some n rows x at)
        ∙ find-append-fails (λ y. bytes_eq (key y) name) (take n rows) x (bytes_eq-swap (key x) name ∙ f))

apart-names : (x name other : List ℕ) → bytes_eq name x ≡ false → bytes_eq other x ≡ true → bytes_eq other name ≡ false
apart-names x name other f g = go (bytes_eq other name) refl
  where
    go : (b : Bool) → bytes_eq other name ≡ b → bytes_eq other name ≡ false
    go false e = e
    go true e =
        let same : name ≡ x = sym (bytes_eq-is other name e) ∙ bytes_eq-is other x g in
        let yes : bytes_eq name x ≡ true = (bytes_eq-Decides name x).1 same in
        absurd (let h : true ≡ false = sym yes ∙ f in cc)

pub index_of-append :
    (es : List (List ℕ × ℕ)) (name : List ℕ) (index : ℕ) (other : List ℕ) → index_of es name ≡ None →
    index_of (es ++ (name, index) ∷ []) other ≡ cond (bytes_eq other name) (Some index) (index_of es other)
index_of-append [] name index other e = refl
index_of-append (x ∷ es) name index other e = go (bytes_eq name x.0) (bytes_eq other x.0) refl refl e
    (λ f. index_of-append es name index other f)
  where
    go :
        (b c : Bool) → bytes_eq name x.0 ≡ b → bytes_eq other x.0 ≡ c → cond b (Some x.1) (index_of es name) ≡ None →
        (index_of es name ≡ None → index_of (es ++ (name, index) ∷ []) other ≡ cond (bytes_eq other name) (Some index)
        (index_of es other)) →
        index_of ((x ∷ es) ++ (name, index) ∷ []) other ≡ cond (bytes_eq other name) (Some index) (index_of (x ∷ es) other)
    go true c f g h more = cc
    go false true f g h more =
        let apart : bytes_eq other name ≡ false = apart-names x.0 name other f g in
        ap (λ b. cond b (Some x.1) (index_of (es ++ (name, index) ∷ []) other)) g
        ∙ sym (ap (λ b. cond b (Some index) (index_of (x ∷ es) other)) apart ∙ ap (λ b. cond b (Some x.1) (index_of es other)) g)
    go false false f g h more =
        ap (λ b. cond b (Some x.1) (index_of (es ++ (name, index) ∷ []) other)) g ∙ more h
        ∙ ap (λ o. cond (bytes_eq other name) (Some index) o) (sym (ap (λ b. cond b (Some x.1) (index_of es other)) g))

pub index_of-empty : (name : List ℕ) → index_of [] name ≡ None
index_of-empty name = refl
