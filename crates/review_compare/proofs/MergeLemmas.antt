-- Rows that become one, and rows that are added to others.
use Rattle.std.proofs.Common.{◌≡◌, ◌<◌, ◌∙◌, ◌⊎◌, inl, inr, ℕ, zero, suc, Bool, true, false, ◌&&◌, ◌||◌, List, [], ◌∷◌, ◌++◌, ap, arith}
use Rattle.std.proofs.Common.{All, refl, sym, get_or, length, Option}
use Rattle.std.specs.Prelude.{◌==◌, slice_set}
use Rattle.std.specs.List.{list_any}
use Rattle.std.proofs.lemmas.Bool.{or_cases, or_left, or_right}
use Rattle.std.proofs.lemmas.List.Concat.{flat_map-append}
use Rattle.std.proofs.lemmas.List.Folds.{list_any-append}
use Rattle.review_compare.specs.declared.cell.AskedTargets.{AskedTargets}
use Rattle.review_compare.specs.declared.cell.Cell.{Cell}
use Rattle.review_compare.specs.declared.compared.Compared.{Compared}
use Rattle.review_compare.specs.declared.row.Row.{Row}
use Rattle.review_compare.specs.Differences.{Asking, Finds, each_target, has_cell, same_number, targets_of}
use Rattle.review_compare.specs.Body.Merged.{Absorbs, AbsorbsAll, IsJoined, has_target}

-- ---- One row of two

first-of : (a b h t g : Bool) → (((a || b) && h) && (t && g)) ≡ (((a && h) && (t && g)) || ((b && h) && (t && g)))
first-of true true true true true = refl
first-of true true true true false = refl
first-of true true true false g = refl
first-of true true false t g = refl
first-of true false true true true = refl
first-of true false true true false = refl
first-of true false true false g = refl
first-of true false false t g = refl
first-of false b h t g = refl

third-of : (x a b g : Bool) → (x && ((a || b) && g)) ≡ ((x && (a && g)) || (x && (b && g)))
third-of true true true true = refl
third-of true true true false = refl
third-of true true false true = refl
third-of true true false false = refl
third-of true false b g = refl
third-of false a b g = refl

fourth-of : (x t a b : Bool) → (x && (t && (a || b))) ≡ ((x && (t && a)) || (x && (t && b)))
fourth-of true true a b = refl
fourth-of true false a b = refl
fourth-of false t a b = refl

pub joined-users : (r s : Row) → (r.hosts ≡ s.hosts) × (r.targets ≡ s.targets) × (r.groups ≡ s.groups) × (r.found ≡ s.found) →
    IsJoined r s (record r { users = r.users ++ s.users })
joined-users r s like = record {
  cells = λ asks c.
      ap (λ v. (v && list_any (λ m. m == c.host) r.hosts) && (list_any (same_number c.ask.target) (targets_of r.targets) && list_any
      (asks c.ask.target c.ask.group) r.groups))
      (list_any-append (λ u. u == c.user) r.users s.users)
      ∙ first-of (list_any (λ u. u == c.user) r.users) (list_any (λ u. u == c.user) s.users) (list_any (λ m. m == c.host) r.hosts)
      (list_any (same_number c.ask.target) (targets_of r.targets)) (list_any (asks c.ask.target c.ask.group) r.groups)
      ∙ ap (λ hs. has_cell asks r c || ((list_any (λ u. u == c.user) s.users && list_any (λ m. m == c.host) hs)
      && (list_any (same_number c.ask.target) (targets_of r.targets) && list_any (asks c.ask.target c.ask.group) r.groups))) like.0
      ∙ ap (λ ts. has_cell asks r c || ((list_any (λ u. u == c.user) s.users && list_any (λ m. m == c.host) s.hosts)
      && (list_any (same_number c.ask.target) (targets_of ts) && list_any (asks c.ask.target c.ask.group) r.groups))) like.1
      ∙ ap (λ gs. has_cell asks r c || ((list_any (λ u. u == c.user) s.users && list_any (λ m. m == c.host) s.hosts)
      && (list_any (same_number c.ask.target) (targets_of s.targets) && list_any (asks c.ask.target c.ask.group) gs))) like.2;
  first = refl;
  second = like.3;
}

has-append : (t : Option ℕ) (xs ys : List AskedTargets) → has_target (xs ++ ys) t ≡ (has_target xs t || has_target ys t)
has-append t xs ys =
    ap (list_any (same_number t)) (flat_map-append each_target xs ys) ∙ list_any-append (same_number t) (targets_of xs) (targets_of ys)

pub joined-targets : (r s : Row) → (r.users ≡ s.users) × (r.hosts ≡ s.hosts) × (r.groups ≡ s.groups) × (r.found ≡ s.found) →
    IsJoined r s (record r { targets = r.targets ++ s.targets })
joined-targets r s like = record {
  cells = λ asks c.
      ap (λ v. (list_any (λ u. u == c.user) r.users && list_any (λ m. m == c.host) r.hosts) && (v && list_any
      (asks c.ask.target c.ask.group) r.groups))
      (has-append c.ask.target r.targets s.targets)
      ∙ third-of (list_any (λ u. u == c.user) r.users && list_any (λ m. m == c.host) r.hosts)
      (list_any (same_number c.ask.target) (targets_of r.targets)) (list_any (same_number c.ask.target) (targets_of s.targets)) (list_any
      (asks c.ask.target c.ask.group) r.groups)
      ∙ ap (λ us. has_cell asks r c || ((list_any (λ u. u == c.user) us && list_any (λ m. m == c.host) r.hosts)
      && (list_any (same_number c.ask.target) (targets_of s.targets) && list_any (asks c.ask.target c.ask.group) r.groups))) like.0
      ∙ ap (λ hs. has_cell asks r c || ((list_any (λ u. u == c.user) s.users && list_any (λ m. m == c.host) hs)
      && (list_any (same_number c.ask.target) (targets_of s.targets) && list_any (asks c.ask.target c.ask.group) r.groups))) like.1
      ∙ ap (λ gs. has_cell asks r c || ((list_any (λ u. u == c.user) s.users && list_any (λ m. m == c.host) s.hosts)
      && (list_any (same_number c.ask.target) (targets_of s.targets) && list_any (asks c.ask.target c.ask.group) gs))) like.2;
  first = refl;
  second = like.3;
}

pub joined-groups : (r s : Row) → (r.users ≡ s.users) × (r.hosts ≡ s.hosts) × (r.targets ≡ s.targets) × (r.found ≡ s.found) →
    IsJoined r s (record r { groups = r.groups ++ s.groups })
joined-groups r s like = record {
  cells = λ asks c.
      ap (λ v. (list_any (λ u. u == c.user) r.users && list_any (λ m. m == c.host) r.hosts) && (list_any
      (same_number c.ask.target) (targets_of r.targets) && v))
      (list_any-append (asks c.ask.target c.ask.group) r.groups s.groups)
      ∙ fourth-of (list_any (λ u. u == c.user) r.users && list_any (λ m. m == c.host) r.hosts)
      (list_any (same_number c.ask.target) (targets_of r.targets)) (list_any (asks c.ask.target c.ask.group) r.groups) (list_any
      (asks c.ask.target c.ask.group) s.groups)
      ∙ ap (λ us. has_cell asks r c || ((list_any (λ u. u == c.user) us && list_any (λ m. m == c.host) r.hosts)
      && (list_any (same_number c.ask.target) (targets_of r.targets) && list_any (asks c.ask.target c.ask.group) s.groups))) like.0
      ∙ ap (λ hs. has_cell asks r c || ((list_any (λ u. u == c.user) s.users && list_any (λ m. m == c.host) hs)
      && (list_any (same_number c.ask.target) (targets_of r.targets) && list_any (asks c.ask.target c.ask.group) s.groups))) like.1
      ∙ ap (λ ts. has_cell asks r c || ((list_any (λ u. u == c.user) s.users && list_any (λ m. m == c.host) s.hosts)
      && (list_any (same_number c.ask.target) (targets_of ts) && list_any (asks c.ask.target c.ask.group) s.groups))) like.2;
  first = refl;
  second = like.3;
}

-- ---- Rows beside others

pub finds-first : (xs ys : List Row) (asks : Asking) (c : Cell) (f : Compared) → Finds asks xs c f → Finds asks (xs ++ ys) c f
finds-first [] ys asks c f e = absurd e
finds-first (r ∷ xs) ys asks c f (inl here) = inl here
finds-first (r ∷ xs) ys asks c f (inr more) = inr (finds-first xs ys asks c f more)

pub finds-last : (xs ys : List Row) (asks : Asking) (c : Cell) (f : Compared) → Finds asks ys c f → Finds asks (xs ++ ys) c f
finds-last [] ys asks c f e = e
finds-last (r ∷ xs) ys asks c f e = inr (finds-last xs ys asks c f e)

pub finds-either : (xs ys : List Row) (asks : Asking) (c : Cell) (f : Compared) → Finds asks (xs ++ ys) c f →
    Finds asks xs c f ⊎ Finds asks ys c f
finds-either [] ys asks c f e = inr e
finds-either (r ∷ xs) ys asks c f (inl here) = inl (inl here)
finds-either (r ∷ xs) ys asks c f (inr more) = go (finds-either xs ys asks c f more)
  where
    go : Finds asks xs c f ⊎ Finds asks ys c f → Finds asks (r ∷ xs) c f ⊎ Finds asks ys c f
    go (inl e) = inl (inr e)
    go (inr e) = inr e

pub absorbs-push : (rows : List Row) (row : Row) → Absorbs rows row (rows ++ row ∷ [])
absorbs-push rows row = record {
  kept = λ asks c f e. finds-first rows (row ∷ []) asks c f e;
  added = λ asks c e. finds-last rows (row ∷ []) asks c row.found (inl (e, refl));
  only = λ asks c f e. go asks c f (finds-either rows (row ∷ []) asks c f e);
}
  where
    go : (asks : Asking) (c : Cell) (f : Compared) → Finds asks rows c f ⊎ Finds asks (row ∷ []) c f →
        Finds asks rows c f ⊎ ((has_cell asks row c ≡ true) × (row.found ≡ f))
    go asks c f (inl e) = inl e
    go asks c f (inr (inl here)) = inr here
    go asks c f (inr (inr none)) = absurd none

-- the row at an index in place of which a joined one stands
module _ (row : Row) where
  set-kept : (rows : List Row) (i : ℕ) (d t : Row) → i < length rows → IsJoined (get_or rows i d) row t →
      (asks : Asking) (c : Cell) (f : Compared) →
      Finds asks rows c f → Finds asks (slice_set rows i t) c f
  set-kept [] i d t less j asks c f e = absurd e
  set-kept (r ∷ rows) zero d t less j asks c f (inl here) =
      inl (j.cells asks c ∙ or_left (has_cell asks r c) (has_cell asks row c) here.0, j.first ∙ here.1)
  set-kept (r ∷ rows) zero d t less j asks c f (inr more) = inr more
  set-kept (r ∷ rows) (suc i) d t less j asks c f (inl here) = inl here
  set-kept (r ∷ rows) (suc i) d t less j asks c f (inr more) = inr (set-kept rows i d t (omega (arith, less)) j asks c f more)

  set-added : (rows : List Row) (i : ℕ) (d t : Row) → i < length rows → IsJoined (get_or rows i d) row t → (asks : Asking) (c : Cell) →
      has_cell asks row c ≡ true → Finds asks (slice_set rows i t) c row.found
  set-added [] i d t less j asks c e = absurd (omega (arith, less))
  set-added (r ∷ rows) zero d t less j asks c e = inl (j.cells asks c ∙ or_right (has_cell asks r c) (has_cell asks row c) e, j.second)
  set-added (r ∷ rows) (suc i) d t less j asks c e = inr (set-added rows i d t (omega (arith, less)) j asks c e)

  set-only : (rows : List Row) (i : ℕ) (d t : Row) → i < length rows → IsJoined (get_or rows i d) row t →
      (asks : Asking) (c : Cell) (f : Compared) →
      Finds asks (slice_set rows i t) c f → Finds asks rows c f ⊎ ((has_cell asks row c ≡ true) × (row.found ≡ f))
  set-only [] i d t less j asks c f e = absurd (omega (arith, less))
  set-only (r ∷ rows) zero d t less j asks c f (inl here) =
      go (or_cases (has_cell asks r c) (has_cell asks row c) (sym (j.cells asks c) ∙ here.0))
    where
      go : (has_cell asks r c ≡ true) ⊎ (has_cell asks row c ≡ true) →
          Finds asks (r ∷ rows) c f ⊎ ((has_cell asks row c ≡ true) × (row.found ≡ f))
      go (inl own) = inl (inl (own, sym j.first ∙ here.1))
      go (inr its) = inr (its, sym j.second ∙ here.1)
  set-only (r ∷ rows) zero d t less j asks c f (inr more) = inl (inr more)
  set-only (r ∷ rows) (suc i) d t less j asks c f (inl here) = inl (inl here)
  set-only (r ∷ rows) (suc i) d t less j asks c f (inr more) = go (set-only rows i d t (omega (arith, less)) j asks c f more)
    where
      go : Finds asks rows c f ⊎ ((has_cell asks row c ≡ true) × (row.found ≡ f)) →
          Finds asks (r ∷ rows) c f ⊎ ((has_cell asks row c ≡ true) × (row.found ≡ f))
      go (inl e) = inl (inr e)
      go (inr e) = inr e

pub absorbs-set : (rows : List Row) (row : Row) (i : ℕ) (d t : Row) → i < length rows → IsJoined (get_or rows i d) row t →
    Absorbs rows row (slice_set rows i t)
absorbs-set rows row i d t less j = record {
  kept = set-kept row rows i d t less j;
  added = set-added row rows i d t less j;
  only = set-only row rows i d t less j;
}

pub absorbs-none : (rows : List Row) → AbsorbsAll rows [] rows
absorbs-none rows = record {
  kept = λ asks c f e. e;
  added = λ asks c f e. absurd e;
  only = λ asks c f e. inl e;
}

pub absorbs-more : (rows more mid new : List Row) (row : Row) → AbsorbsAll rows more mid → Absorbs mid row new →
    AbsorbsAll rows (more ++ row ∷ []) new
absorbs-more rows more mid new row all one = record {
  kept = λ asks c f e. one.kept asks c f (all.kept asks c f e);
  added = λ asks c f e. add asks c f (finds-either more (row ∷ []) asks c f e);
  only = λ asks c f e. from asks c f (one.only asks c f e);
}
  where
    add : (asks : Asking) (c : Cell) (f : Compared) → Finds asks more c f ⊎ Finds asks (row ∷ []) c f → Finds asks new c f
    add asks c f (inl e) = one.kept asks c f (all.added asks c f e)
    add asks c f (inr (inl here)) = at (one.added asks c here.0) here.1
      where
        at : Finds asks new c row.found → row.found ≡ f → Finds asks new c f
        at e is = rw (sym is) e
    add asks c f (inr (inr none)) = absurd none

    from : (asks : Asking) (c : Cell) (f : Compared) → Finds asks mid c f ⊎ ((has_cell asks row c ≡ true) × (row.found ≡ f)) →
        Finds asks rows c f ⊎ Finds asks (more ++ row ∷ []) c f
    from asks c f (inl e) = on (all.only asks c f e)
      where
        on : Finds asks rows c f ⊎ Finds asks more c f → Finds asks rows c f ⊎ Finds asks (more ++ row ∷ []) c f
        on (inl e) = inl e
        on (inr e) = inr (finds-first more (row ∷ []) asks c f e)
    from asks c f (inr here) = inr (finds-last more (row ∷ []) asks c f (inl here))

-- ---- Elements of a list with one more

pub all-before : {X : Type 0} (P : X → Type 0) (xs ys : List X) → All P (xs ++ ys) → All P xs
all-before P [] ys all = λ n d less. absurd (omega (arith, less))
all-before {X = X} P (x ∷ xs) ys all = by (all-before P xs ys (λ k z more. all (suc k) z (omega (arith, more))))
  where
    by : All P xs → (n : ℕ) (d : X) → n < length (x ∷ xs) → P (get_or (x ∷ xs) n d)
    by rest zero d less = all 0 d (omega arith)
    by rest (suc n) d less = rest n d (omega (arith, less))

pub all-last : {X : Type 0} (P : X → Type 0) (xs : List X) (y : X) → All P (xs ++ y ∷ []) → P y
all-last P [] y all = all 0 y (omega arith)
all-last P (x ∷ xs) y all = all-last P xs y (λ k z more. all (suc k) z (omega (arith, more)))
