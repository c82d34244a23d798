-- The roster of two lists of names that have none in common, and the owners of their sources.
use Rattle.std.proofs.Common.{◌≡◌, ◌⊎◌, ℕ, suc, ◌+◌, Bool, true, false, cond, not, List, [], ◌∷◌, ◌++◌, length, map}
use Rattle.std.proofs.Common.{refl, sym, ap, ◌∙◌, inl, inr, arith, bytes_eq, filter, if◌then◌else◌}
use Rattle.std.proofs.lemmas.List.{length-map, map-append}
use Rattle.std.proofs.lemmas.Slice.Eq.{bytes_eq-Decides}
use Rattle.std.specs.List.{zip}
use Rattle.audit_collect.proofs.Members.{Among, Contains-Among}
use Rattle.audit_run.specs.Parts.{Stated, parts_by_owner}
use Rattle.audit_run.specs.Roster.{owners, index_in, roster, without}
use Rattle.audit_run.specs.Shards.{AreDisjoint}
use Rattle.audit_run.proofs.SourceContent.{among_roster}

-- no name that is among the first is among the second
abbrev pub Parted : List (List ℕ) → List (List ℕ) → Type 0
Parted first second = (name : List ℕ) → Among name first → Among name second → ⊥

pub parted : (first second : List (List ℕ)) → AreDisjoint first second → Parted first second
parted first second apart name there also = apart name (Contains-Among name first there) (Contains-Among name second also)

filter-append : {X : Type 0} (test : X → Bool) (xs ys : List X) → filter test (xs ++ ys) ≡ filter test xs ++ filter test ys
filter-append test [] ys = refl
filter-append {X} test (x ∷ xs) ys = by (test x) (filter-append test xs ys)
  where
    by : (b : Bool) → filter test (xs ++ ys) ≡ filter test xs ++ filter test ys
        → cond b (x ∷ filter test (xs ++ ys)) (filter test (xs ++ ys)) ≡ cond b (x ∷ filter test xs) (filter test xs) ++ filter test ys
    by true rest = ap (λ l. x ∷ l) rest
    by false rest = rest

-- a name that does not stand there takes nothing away
without-absent : (name : List ℕ) (names : List (List ℕ)) → (Among name names → ⊥) → without name names ≡ names
without-absent name [] absent = refl
without-absent name (n ∷ names) absent = by (bytes_eq name n) refl (without-absent name names (λ m. absent (inr m)))
  where
    by : (b : Bool) → bytes_eq name n ≡ b → without name names ≡ names
        → cond (not b) (n ∷ without name names) (without name names) ≡ n ∷ names
    by true e rest = absurd (absent (inl (sym ((bytes_eq-Decides name n).0 e))))
    by false e rest = ap (λ l. n ∷ l) rest

among_more : (gone name : List ℕ) (names : List (List ℕ)) → Among name (without gone names) → Among name names
among_more gone name [] m = absurd m
among_more gone name (n ∷ names) m = by (bytes_eq gone n) m (among_more gone name names)
  where
    by : (b : Bool) → Among name (cond (not b) (n ∷ without gone names) (without gone names))
        → (Among name (without gone names) → Among name names) → (n ≡ name) ⊎ Among name names
    by true m rest = inr (rest m)
    by false (inl e) rest = inl e
    by false (inr m) rest = inr (rest m)

-- a roster has no name but those of its sources
pub roster-among : (name : List ℕ) (names : List (List ℕ)) → Among name (roster names) → Among name names
roster-among name [] m = absurd m
roster-among name (n ∷ names) (inl e) = inl e
roster-among name (n ∷ names) (inr m) = inr (roster-among name names (among_more n name (roster names) m))

pub roster-joined : (first second : List (List ℕ)) → Parted first second → roster (first ++ second) ≡ roster first ++ roster second
roster-joined [] second apart = refl
roster-joined (n ∷ first) second apart =
    ap (λ l. n ∷ without n l) (roster-joined first second (λ name m. apart name (inr m)))
    ∙ ap (λ l. n ∷ l) (filter-append (λ other. not (bytes_eq n other)) (roster first) (roster second))
    ∙ ap (λ l. n ∷ (without n (roster first) ++ l)) (without-absent n (roster second) (λ m. apart n (inl refl) (roster-among n second m)))

-- a name's index in two rosters
place_front : (name : List ℕ) (xs ys : List (List ℕ)) → Among name xs → index_in name (xs ++ ys) ≡ index_in name xs
place_front name [] ys m = absurd m
place_front name (x ∷ xs) ys m = by (bytes_eq x name) refl m (place_front name xs ys)
  where
    by : (b : Bool) → bytes_eq x name ≡ b → (x ≡ name) ⊎ Among name xs
        → (Among name xs → index_in name (xs ++ ys) ≡ index_in name xs)
        → (if b then 0 else 1 + index_in name (xs ++ ys)) ≡ (if b then 0 else 1 + index_in name xs)
    by true e m rest = refl
    by false e (inl same) rest = let yes_equal : bytes_eq x name ≡ true = (bytes_eq-Decides x name).1 same in absurd (cc)
    by false e (inr m) rest = ap (λ k. 1 + k) (rest m)

place_back : (name : List ℕ) (xs ys : List (List ℕ)) → (Among name xs → ⊥) → index_in name (xs ++ ys) ≡ length xs + index_in name ys
place_back name [] ys absent = omega arith
place_back name (x ∷ xs) ys absent = by (bytes_eq x name) refl (place_back name xs ys (λ m. absent (inr m)))
  where
    by : (b : Bool) → bytes_eq x name ≡ b → index_in name (xs ++ ys) ≡ length xs + index_in name ys
        → (if b then 0 else 1 + index_in name (xs ++ ys)) ≡ suc (length xs) + index_in name ys
    by true e rest = absurd (absent (inl ((bytes_eq-Decides x name).0 e)))
    by false e rest = omega (arith, rest)

places_front : (names xs ys : List (List ℕ)) → ((name : List ℕ) → Among name names → Among name xs)
    → map (λ name. index_in name (xs ++ ys)) names ≡ map (λ name. index_in name xs) names
places_front [] xs ys there = refl
places_front (n ∷ names) xs ys there = λ i. place_front n xs ys (there n (inl refl)) i ∷ places_front names xs ys
    (λ name m. there name (inr m)) i

places_back : (names xs ys : List (List ℕ)) → ((name : List ℕ) → Among name names → Among name xs → ⊥)
    → map (λ name. index_in name (xs ++ ys)) names ≡ map (λ k. length xs + k) (map (λ name. index_in name ys) names)
places_back [] xs ys absent = refl
places_back (n ∷ names) xs ys absent = λ i. place_back n xs ys (absent n (inl refl)) i ∷ places_back names xs ys
    (λ name m. absent name (inr m)) i

owners-joined : (first second : List (List ℕ)) → Parted first second
    → owners (first ++ second) ≡ owners first ++ map (λ k. length (roster first) + k) (owners second)
owners-joined first second apart =
    ap (λ r. map (λ name. index_in name r) (first ++ second)) (roster-joined first second apart)
    ∙ map-append (λ name. index_in name (roster first ++ roster second)) first second
    ∙ ap (λ l. l ++ map (λ name. index_in name (roster first ++ roster second)) second)
    (places_front first (roster first) (roster second) (λ name m. among_roster name first m))
    ∙ ap (λ l. owners first ++ l) (places_back second (roster first) (roster second) (λ name m r. apart name (roster-among name first r) m))

-- a source whose owner stands so many places further
abbrev pub part_after : ℕ → ℕ × Stated → ℕ × Stated
part_after senders part = (senders + part.0, part.1)

zip-append : (os : List ℕ) (ps : List ℕ) (states more : List Stated) → length states ≡ length os
    → zip (os ++ ps) (states ++ more) ≡ zip os states ++ zip ps more
zip-append [] ps [] more e = refl
zip-append [] ps (s ∷ states) more e = absurd (omega (arith, e))
zip-append (o ∷ os) ps [] more e = absurd (omega (arith, e))
zip-append (o ∷ os) ps (s ∷ states) more e = ap (λ l. (o, s) ∷ l) (zip-append os ps states more (omega (arith, e)))

zip-after : (senders : ℕ) (os : List ℕ) (states : List Stated)
    → zip (map (λ k. senders + k) os) states ≡ map (part_after senders) (zip os states)
zip-after senders [] states = refl
zip-after senders (o ∷ os) [] = refl
zip-after senders (o ∷ os) (s ∷ states) = ap (λ l. (senders + o, s) ∷ l) (zip-after senders os states)

-- the sources of both lists by their owners
pub owned_joined : (first second : List (List ℕ)) (states more : List Stated) → Parted first second → length states ≡ length first
    → parts_by_owner (first ++ second) (states ++ more) ≡ parts_by_owner first states
    ++ map (part_after (length (roster first))) (parts_by_owner second more)
owned_joined first second states more apart stated =
    let long : length states ≡ length (owners first) = stated ∙ sym (length-map first (λ name. index_in name (roster first))) in
    ap (λ os. zip os (states ++ more)) (owners-joined first second apart)
    ∙ zip-append (owners first) (map (λ k. length (roster first) + k) (owners second)) states more long
    ∙ ap (λ l. parts_by_owner first states ++ l) (zip-after (length (roster first)) (owners second) more)
