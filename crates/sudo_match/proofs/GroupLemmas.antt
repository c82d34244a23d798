-- Lemmas on groups by name and by ID: the first group of a name, or of an ID, represents all of them.
use Rattle.std.proofs.Common.{◌≡◌, ℕ, ◌+◌, ◌≤◌, Bool, true, false, ◌&&◌, ◌||◌, not, List, [], ◌∷◌, ◌++◌, take, length}
use Rattle.std.proofs.Common.{refl, ap, sym, ◌∙◌, Some, None, Option, cond, arith}
use Rattle.std.specs.Prelude.{slice_get, find, is_some, bytes_eq, option_and_then, ◌==◌}
use Rattle.std.specs.List.{list_any}
use Rattle.std.specs.Option.{option_or}
use Rattle.std.proofs.lemmas.Bool.{eqb-true}
use Rattle.std.proofs.lemmas.List.{take_all}
use Rattle.std.proofs.lemmas.List.Folds.{find-append}
use Rattle.sudo_match.specs.declared.people.Group.{Group}
use Rattle.sudo_base.specs.Body.Indexes.{IndexesRows}
use Rattle.sudo_base.specs.NameIndices.{index_of}
use Rattle.sudo_base.proofs.IndexLemmas.{take-some, list_any-append, bytes_eq-is, IndexesRows-none, IndexesRows-more}
use Rattle.sudo_base.proofs.IndexLemmas.{index_of-append, index_of-empty}
use Rattle.sudo_base.proofs.Options.{none_of}
use Rattle.sudo_base.proofs.Lists.{find-holds}
use Rattle.sudo_match.specs.Body.Indexing.{AreApart, differs, with_name}
use Rattle.sudo_match.specs.KnownRows.{groups_clash, clashes_at}
use Rattle.sudo_match.proofs.ClashLemmas.{NoneBefore, none-first, none-more, clash-here, clash-none}
use Rattle.sudo_match.proofs.CharsLemmas.{and-true}

-- ---- A name that has an index already

-- whether something is found, and whether something passes
found-any : {A : Type 0} (p : A → Bool) (xs : List A) → is_some (find p xs) ≡ list_any p xs
found-any p [] = refl
found-any p (x ∷ xs) = go (p x) (found-any p xs)
  where
    go : (b : Bool) → is_some (find p xs) ≡ list_any p xs → is_some (cond b (Some x) (find p xs)) ≡ (b || list_any p xs)
    go true e = refl
    go false e = e

or-known : (a b : Bool) → (b ≡ true → a ≡ true) → a ≡ (a || b)
or-known true b h = refl
or-known false true h = h refl
or-known false false h = refl

found-known : {A : Type 0} (o : Option A) (b : Bool) (x : A) → (b ≡ true → is_some o ≡ true) → o ≡ option_or o (cond b (Some x) None)
found-known (Some y) b x h = refl
found-known None true x h = absurd (let e : false ≡ true = h refl in cc)
found-known None false x h = refl

indexes_same :
    {A : Type 0} (key : A → List ℕ) (rows : List A) (n : ℕ) (x : A) (indices : List ℕ → Option ℕ) → IndexesRows key rows n indices →
    slice_get rows n ≡ Some x → is_some (indices (key x)) ≡ true → IndexesRows key rows (n + 1) indices
indexes_same key rows n x indices i at old = record {
  found = λ name.
      i.found name
      ∙ found-known (find (λ y. bytes_eq (key y) name) (take n rows)) (bytes_eq (key x) name) x
      (λ e. found-any (λ y. bytes_eq (key y) name) (take n rows) ∙ any-of name e)
      ∙ sym (find-append (λ y. bytes_eq (key y) name) (take n rows) (x ∷ []))
      ∙ ap (find (λ y. bytes_eq (key y) name)) (sym (take-some n rows x at));
  known = λ name.
      i.known name
      ∙ or-known (list_any (λ y. bytes_eq (key y) name) (take n rows)) (bytes_eq (key x) name) (any-of name)
      ∙ sym (list_any-append (λ y. bytes_eq (key y) name) (take n rows) x)
      ∙ ap (list_any (λ y. bytes_eq (key y) name)) (sym (take-some n rows x at));
}
  where
    any-of : (name : List ℕ) → bytes_eq (key x) name ≡ true → list_any (λ y. bytes_eq (key y) name) (take n rows) ≡ true
    any-of name e =
        let same : key x ≡ name = bytes_eq-is (key x) name e in
        sym (i.known name) ∙ ap (λ k. is_some (indices k)) (sym same) ∙ old

pub IndexesRows-with_name :
    {A : Type 0} (key : A → List ℕ) (rows : List A) (n : ℕ) (x : A) (names : List (List ℕ × ℕ)) → IndexesRows key rows n (index_of names) →
    slice_get rows n ≡ Some x → IndexesRows key rows (n + 1) (index_of (with_name names (key x) n))
IndexesRows-with_name key rows n x names i at = go (is_some (index_of names (key x))) refl
  where
    go : (b : Bool) → is_some (index_of names (key x)) ≡ b → IndexesRows key rows (n + 1) (index_of (with_name names (key x) n))
    go true f = rw f (indexes_same key rows n x (index_of names) i at f)
    go false f =
        let new : index_of names (key x) ≡ None = none_of (index_of names (key x)) f in
        rw f (IndexesRows-more key rows n x (index_of names) (index_of (names ++ (key x, n) ∷ [])) i at new
        (λ other. index_of-append names (key x) n other new))

-- ---- The first that passes one test decides another

-- some element that passes the one test fails the other exactly where the first that passes the one does
abbrev pub Decides : {A : Type 0} → (A → Bool) → (A → Bool) → List A → Type 0
Decides p q xs = list_any (λ y. p y && not (q y)) xs ≡ differs q (find p xs)

or-false : (b : Bool) → (b || false) ≡ b
or-false true = refl
or-false false = refl

or-same : (b : Bool) → (b || b) ≡ b
or-same true = refl
or-same false = refl

decides_more :
    {A : Type 0} (p q : A → Bool) (xs : List A) (x : A) → Decides p q xs →
    ((f : A) → find p xs ≡ Some f → p x ≡ true → q f ≡ q x) → Decides p q (xs ++ x ∷ [])
decides_more {A} p q xs x e h =
    list_any-append (λ y. p y && not (q y)) xs x
    ∙ ap (λ b. b || (p x && not (q x))) e
    ∙ step (find p xs) (p x) h
    ∙ sym (ap (differs q) (find-append p xs (x ∷ [])))
  where
    step : (o : Option A) (b : Bool) → ((f : A) → o ≡ Some f → b ≡ true → q f ≡ q x)
        → (differs q o || (b && not (q x))) ≡ differs q (option_or o (cond b (Some x) None))
    step None true k = refl
    step None false k = refl
    step (Some f) true k = ap (λ b. not (q f) || not b) (sym (k f refl refl)) ∙ or-same (not (q f))
    step (Some f) false k = or-false (not (q f))

or-left : (a b : Bool) → (a || b) ≡ false → a ≡ false
or-left true b e = e
or-left false b e = refl

or-right : (a b : Bool) → (a || b) ≡ false → b ≡ false
or-right true b e = cc
or-right false b e = e

found-fails : {A : Type 0} (p r : A → Bool) (xs : List A) (f : A) → find p xs ≡ Some f → list_any r xs ≡ false → r f ≡ false
found-fails p r [] f e fails = cc
found-fails p r (x ∷ xs) f e fails = go (p x) refl (λ h. found-fails p r xs f h (or-right (r x) (list_any r xs) fails))
  where
    go : (b : Bool) → p x ≡ b → (find p xs ≡ Some f → r f ≡ false) → r f ≡ false
    go true g more = let same : Some x ≡ Some f = sym (ap (λ b. cond b (Some x) (find p xs)) g) ∙ e in
        let is : x ≡ f = cc in ap r (sym is) ∙ or-left (r x) (list_any r xs) fails
    go false g more = more (sym (ap (λ b. cond b (Some x) (find p xs)) g) ∙ e)

-- ---- Groups

-- a name, and an ID as a name of one number
abbrev named : List ℕ → Group → Bool
named name g = bytes_eq g.name name

abbrev of_id : ℕ → Group → Bool
of_id id g = bytes_eq (g.gid ∷ []) (id ∷ [])

abbrev has_id : ℕ → Group → Bool
has_id id g = g.gid == id

id_same : (id : ℕ) (g : Group) → of_id id g ≡ has_id id g
id_same id g = and-true (g.gid == id)

agree-by_name : (s g : Bool) → ((s && not g) || (g && not s)) ≡ false → s ≡ true → g ≡ true
agree-by_name true true e f = refl
agree-by_name true false e f = cc
agree-by_name false g e f = cc

agree-by_id : (s g : Bool) → ((s && not g) || (g && not s)) ≡ false → g ≡ true → s ≡ true
agree-by_id true g e f = refl
agree-by_id false true e f = cc
agree-by_id false false e f = cc

-- the first n groups are indexed by name and by ID, and none of them clashes with one before it
pub record GroupsRead (groups : List Group) (n : ℕ) (names ids : List (List ℕ × ℕ)) : Type 0 where
  pub by_name : IndexesRows (λ g. g.name) groups n (index_of names)
  pub by_id : IndexesRows (λ g. g.gid ∷ []) groups n (index_of ids)
  pub name_decides : (name : List ℕ) (id : ℕ) → Decides (named name) (has_id id) (take n groups)
  pub id_decides : (id : ℕ) (name : List ℕ) → Decides (of_id id) (named name) (take n groups)
  pub none : NoneBefore groups_clash groups n

pub groups-first : (groups : List Group) (names ids : List (List ℕ × ℕ)) → names ≡ [] → ids ≡ [] → GroupsRead groups 0 names ids
groups-first groups names ids e f = record {
  by_name = IndexesRows-none (λ g. g.name) groups (index_of names) (λ name. ap (λ es. index_of es name) e ∙ index_of-empty name);
  by_id = IndexesRows-none (λ g. g.gid ∷ []) groups (index_of ids) (λ name. ap (λ es. index_of es name) f ∙ index_of-empty name);
  name_decides = λ name id. refl;
  id_decides = λ id name. refl;
  none = none-first groups_clash groups;
}

any-either : {A : Type 0} (r a b : A → Bool) (xs : List A) → ((y : A) → r y ≡ (a y || b y))
    → list_any r xs ≡ (list_any a xs || list_any b xs)
any-either r a b [] e = refl
any-either r a b (x ∷ xs) e =
    ap (λ c. c || list_any r xs) (e x) ∙ ap (λ c. (a x || b x) || c) (any-either r a b xs e)
    ∙ swap (a x) (b x) (list_any a xs) (list_any b xs)
  where
    swap : (c d f g : Bool) → ((c || d) || (f || g)) ≡ ((c || f) || (d || g))
    swap true d f g = refl
    swap false true true g = refl
    swap false true false g = refl
    swap false false f g = refl

-- a group clashes exactly where the first of its name has another ID or the first of its ID another name
pub group-clash :
    (groups : List Group) (n : ℕ) (names ids : List (List ℕ × ℕ)) (x : Group) → GroupsRead groups n names ids
    → slice_get groups n ≡ Some x →
    clashes_at groups_clash groups n ≡
    (differs (λ g. g.gid == x.gid) (option_and_then (slice_get groups) (index_of names x.name))
    || differs (λ g. bytes_eq g.name x.name) (option_and_then (slice_get groups) (index_of ids (x.gid ∷ []))))
group-clash groups n names ids x r at =
    clash-here groups_clash groups n x at
    ∙ any-either (λ y. groups_clash y x) (λ y. named x.name y && not (has_id x.gid y))
    (λ y. of_id x.gid y && not (named x.name y)) (take n groups)
    (λ y. ap (λ b. (named x.name y && not (has_id x.gid y)) || (b && not (named x.name y))) (sym (id_same x.gid y)))
    ∙ ap (λ b. b || list_any (λ y. of_id x.gid y && not (named x.name y)) (take n groups)) (r.name_decides x.name x.gid)
    ∙ ap (λ b. differs (has_id x.gid) (find (named x.name) (take n groups)) || b) (r.id_decides x.gid x.name)
    ∙ ap (λ o. differs (has_id x.gid) o || differs (named x.name) (find (of_id x.gid) (take n groups))) (sym (r.by_name.found x.name))
    ∙ ap (λ o. differs (has_id x.gid) (option_and_then (slice_get groups) (index_of names x.name)) || differs
    (named x.name) o) (sym (r.by_id.found (x.gid ∷ [])))

pub groups-more :
    (groups : List Group) (n : ℕ) (names ids : List (List ℕ × ℕ)) (x : Group) → GroupsRead groups n names ids
    → slice_get groups n ≡ Some x →
    clashes_at groups_clash groups n ≡ false → GroupsRead groups (n + 1) (with_name names x.name n) (with_name ids (x.gid ∷ []) n)
groups-more groups n names ids x r at apart = record {
  by_name = IndexesRows-with_name (λ g. g.name) groups n x names r.by_name at;
  by_id = IndexesRows-with_name (λ g. g.gid ∷ []) groups n x ids r.by_id at;
  name_decides = λ name id.
      rw (take-some n groups x at)
      (decides_more (named name) (has_id id) (take n groups) x (r.name_decides name id)
      (λ f e passes. ap (λ k. k == id) (same-id name f e passes)));
  id_decides = λ id name.
      rw (take-some n groups x at)
      (decides_more (of_id id) (named name) (take n groups) x (r.id_decides id name)
      (λ f e passes. ap (λ k. bytes_eq k name) (same-name id f e passes)));
  none = none-more groups_clash groups n r.none apart;
}
  where
    no-clash : list_any (λ y. groups_clash y x) (take n groups) ≡ false
    no-clash = sym (clash-here groups_clash groups n x at) ∙ apart

    same-id : (name : List ℕ) (f : Group) → find (named name) (take n groups) ≡ Some f → named name x ≡ true → f.gid ≡ x.gid
    same-id name f e passes =
        let mine : f.name ≡ name = bytes_eq-is f.name name (find-holds (named name) (take n groups) f e) in
        let theirs : x.name ≡ name = bytes_eq-is x.name name passes in
        let together : named x.name f ≡ true = ap (λ k. bytes_eq f.name k) theirs ∙ find-holds (named name) (take n groups) f e in
        eqb-true f.gid x.gid
        (agree-by_name (named x.name f) (has_id x.gid f) (found-fails (named name) (λ y. groups_clash y x)
        (take n groups) f e no-clash) together)

    same-name : (id : ℕ) (f : Group) → find (of_id id) (take n groups) ≡ Some f → of_id id x ≡ true → f.name ≡ x.name
    same-name id f e passes =
        let mine : f.gid ≡ id = eqb-true f.gid id (sym (id_same id f) ∙ find-holds (of_id id) (take n groups) f e) in
        let theirs : x.gid ≡ id = eqb-true x.gid id (sym (id_same id x) ∙ passes) in
        let together : has_id x.gid f ≡ true = ap (λ k. f.gid == k) theirs ∙ sym (id_same id f)
        ∙ find-holds (of_id id) (take n groups) f e in
        bytes_eq-is f.name x.name
        (agree-by_id (named x.name f) (has_id x.gid f) (found-fails (of_id id) (λ y. groups_clash y x)
        (take n groups) f e no-clash) together)

-- after all groups
pub groups-end :
    (groups : List Group) (n : ℕ) (names ids : List (List ℕ × ℕ)) → GroupsRead groups n names ids → length groups ≤ n →
    AreApart groups_clash (λ g. g.name) groups names
groups-end groups n names ids r past =
    let whole : take n groups ≡ take (length groups) groups = take_all n groups past
    ∙ sym (take_all (length groups) groups (omega arith)) in
    record {
      apart = clash-none groups_clash groups n r.none past;
      indexed = record {
        found = λ name. r.by_name.found name ∙ ap (find (named name)) whole;
        known = λ name. r.by_name.known name ∙ ap (list_any (named name)) whole;
      };
    }
