-- A roster, built name by name.
use Rattle.std.proofs.Common.{◌≡◌, ◌≢◌, ℕ, suc, ◌+◌, Bool, true, false, ◌||◌, List, [], ◌∷◌, ◌++◌, length, map, refl}
use Rattle.std.proofs.Common.{sym, ap, ◌∙◌, cond, arith, append_assoc}
use Rattle.std.specs.Prelude.{not, bytes_eq, filter, if◌then◌else◌}
use Rattle.std.specs.List.{list_any, zip}
use Rattle.std.proofs.lemmas.List.Folds.{list_any-append}
use Rattle.std.proofs.lemmas.Slice.Eq.{bytes_eq-Decides}
use Rattle.audit_run.specs.Roster.{owners, index_in, indices_in, roster, without}

-- whether the name was found before
abbrev pub stands : List (List ℕ) → List ℕ → Bool
stands found name = list_any (λ f. bytes_eq f name) found

-- the names that were not
abbrev pub others : List (List ℕ) → List (List ℕ) → List (List ℕ)
others found names = filter (λ name. not (stands found name)) names

pub absent : (name : List ℕ) (found : List (List ℕ)) → index_in name found ≡ length found → stands found name ≡ false
absent name [] e = refl
absent name (f ∷ fs) e = go (bytes_eq f name) refl e (absent name fs)
  where
    go : (b : Bool) → bytes_eq f name ≡ b → (if b then 0 else 1 + index_in name fs) ≡ suc (length fs)
        → (index_in name fs ≡ length fs → stands fs name ≡ false) → (bytes_eq f name || stands fs name) ≡ false
    go true t e more = absurd (omega (arith, e))
    go false t e more = ap (λ b. b || stands fs name) t ∙ more (omega (arith, e))

pub present : (name : List ℕ) (found : List (List ℕ)) → index_in name found ≢ length found → stands found name ≡ true
present name [] ne = absurd (ne refl)
present name (f ∷ fs) ne = go (bytes_eq f name) refl ne (present name fs)
  where
    go : (b : Bool) → bytes_eq f name ≡ b → (if b then 0 else 1 + index_in name fs) ≢ suc (length fs)
        → (index_in name fs ≢ length fs → stands fs name ≡ true) → (bytes_eq f name || stands fs name) ≡ true
    go true t ne more = ap (λ b. b || stands fs name) t
    go false t ne more = ap (λ b. b || stands fs name) t ∙ more (λ e. ne (omega (arith, e)))

pub others-none : (names : List (List ℕ)) → others [] names ≡ names
others-none [] = refl
others-none (n ∷ ns) = ap (λ l. n ∷ l) (others-none ns)

-- where a name is found, it is no longer among the others
with_one : (found names : List (List ℕ)) (name : List ℕ) → others found (without name names) ≡ others (found ++ name ∷ []) names
with_one found [] name = refl
with_one found (o ∷ os) name = go (bytes_eq name o) (stands found o) refl refl (with_one found os name)
  where
    w : List (List ℕ)
    w = without name os

    y : List (List ℕ)
    y = others (found ++ name ∷ []) os

    d : (b c : Bool) → bytes_eq name o ≡ b → stands found o ≡ c → stands (found ++ name ∷ []) o ≡ (c || (b || false))
    d b c eb ec = list_any-append (λ f. bytes_eq f o) found (name ∷ []) ∙ (λ i. ec i || (eb i || false))

    go : (b c : Bool) → bytes_eq name o ≡ b → stands found o ≡ c → others found w ≡ y
        → others found (cond (not (bytes_eq name o)) (o ∷ w) w) ≡ cond (not (stands (found ++ name ∷ []) o)) (o ∷ y) y
    go true true eb ec more = ap (λ x. others found (cond (not x) (o ∷ w) w)) eb
        ∙ (more ∙ sym (ap (λ x. cond (not x) (o ∷ y) y) (d true true eb ec)))
    go true false eb ec more = ap (λ x. others found (cond (not x) (o ∷ w) w)) eb
        ∙ (more ∙ sym (ap (λ x. cond (not x) (o ∷ y) y) (d true false eb ec)))
    go false true eb ec more =
        ap (λ x. others found (cond (not x) (o ∷ w) w)) eb
        ∙ (ap (λ x. cond (not x) (o ∷ others found w) (others found w)) ec
        ∙ (more ∙ sym (ap (λ x. cond (not x) (o ∷ y) y) (d false true eb ec))))
    go false false eb ec more =
        ap (λ x. others found (cond (not x) (o ∷ w) w)) eb ∙ (ap (λ x. cond (not x) (o ∷ others found w) (others found w)) ec
        ∙ (ap (λ l. o ∷ l) (more) ∙ sym (ap (λ x. cond (not x) (o ∷ y) y) (d false false eb ec))))

-- a name that was found before is none of the others
without-one : (found names : List (List ℕ)) (name : List ℕ) → stands found name ≡ true
    → others found (without name names) ≡ others found names
without-one found [] name there = refl
without-one found (o ∷ os) name there = go (bytes_eq name o) refl (without-one found os name there)
  where
    w : List (List ℕ)
    w = without name os

    go : (b : Bool) → bytes_eq name o ≡ b → others found w ≡ others found os
        → others found (cond (not (bytes_eq name o)) (o ∷ w) w) ≡ cond (not (stands found o)) (o ∷ others found os) (others found os)
    go true eb more =
        let same : stands found o ≡ true = ap (stands found) (sym ((bytes_eq-Decides name o).0 eb)) ∙ there in
        ap (λ x. others found (cond (not x) (o ∷ w) w)) eb
        ∙ (more ∙ sym (ap (λ x. cond (not x) (o ∷ others found os) (others found os)) same))
    go false eb more = ap (λ x. others found (cond (not x) (o ∷ w) w)) eb ∙ ap (λ l. cond (not (stands found o)) (o ∷ l) l) (more)

-- the first name of those left is new
pub one_new : (found after left rest all : List (List ℕ)) (name : List ℕ) → after ≡ found ++ name ∷ []
    → left ≡ name ∷ rest → index_in name found ≡ length found
    → found ++ others found (roster left) ≡ all → after ++ others after (roster rest) ≡ all
one_new found after left rest all name pushed step new was =
    ap (λ l. l ++ others l (roster rest)) pushed
    ∙ (append_assoc found (name ∷ []) (others (found ++ name ∷ []) (roster rest))
    ∙ (ap (λ l. found ++ name ∷ l) (sym (with_one found (roster rest) name))
    ∙ (ap (λ x. found ++ cond (not x) (name ∷ others found (without name (roster rest)))
    (others found (without name (roster rest)))) (sym (absent name found new))
    ∙ (ap (λ l. found ++ others found (roster l)) (sym step) ∙ was))))

-- or stands before
pub one_old : (found left rest all : List (List ℕ)) (name : List ℕ) → left ≡ name ∷ rest → index_in name found ≢ length found
    → found ++ others found (roster left) ≡ all → found ++ others found (roster rest) ≡ all
one_old found left rest all name step old was =
    ap (λ l. found ++ l) (sym (without-one found (roster rest) name (present name found old)))
    ∙ (ap (λ x. found ++ cond (not x) (name ∷ others found (without name (roster rest)))
    (others found (without name (roster rest)))) (sym (present name found old))
    ∙ (ap (λ l. found ++ others found (roster l)) (sym step) ∙ was))

twice : {S F T : Type 0} (reader : S → F) (ahead : F → T) (ss : List S) → map ahead (map reader ss) ≡ map (λ s. ahead (reader s)) ss
twice reader ahead [] = refl
twice reader ahead (s ∷ ss) = ap (λ l. ahead (reader s) ∷ l) (twice reader ahead ss)

-- the sources by their owners, when the roster was found
pub entered : {S F T : Type 0} (name : S → List ℕ) (reader : S → F) (ahead : F → T) (sources : List S)
    (names found : List (List ℕ)) (readers : List F)
    → names ≡ map name sources → found ≡ roster names → readers ≡ map reader sources
    → zip (indices_in found names) (map ahead readers) ≡ zip (owners (map name sources)) (map (λ s. ahead (reader s)) sources)
entered name reader ahead sources names found readers names_are found_is readers_are =
    (λ i. zip (indices_in ((found_is ∙ ap roster names_are) i) (names_are i)) (map ahead (readers_are i)))
    ∙ ap (λ l. zip (owners (map name sources)) l) (twice reader ahead sources)
