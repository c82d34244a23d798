-- Rows that are open among those near a change are open among all.
use Rattle.std.proofs.Common.{◌≡◌, ◌<◌, ◌≤◌, ◌+◌, ◌⊎◌, inl, inr, ℕ, zero, suc, Bool, true, false, not, cond, ◌||◌, List, [], ◌∷◌}
use Rattle.std.proofs.Common.{◌++◌, map, Option, Some, None, refl, sym, ◌∙◌, ap, arith, drop, get_or, length, subst, take}
use Rattle.std.specs.Prelude.{IfSome, option_map, slice_get}
use Rattle.std.specs.List.{Contains, list_any}
use Rattle.std.proofs.lemmas.Bool.{and_parts, or_cases, or_left, or_right}
use Rattle.std.proofs.lemmas.List.{length-map, map-append, take-append-drop}
use Rattle.std.proofs.lemmas.List.Elements.{Contains-append_right}
use Rattle.std.proofs.lemmas.List.Sums.{count_by-le-length, length-filter}
use Rattle.review_grants.proofs.ItemLemmas.{from-filter}
use Rattle.review_compare.specs.declared.changed.Changed.{Changed}
use Rattle.review_compare.specs.declared.compared.Compared.{Compared}
use Rattle.review_compare.specs.declared.compared.Decider.{Decider as Named}
use Rattle.review_compare.specs.declared.ruling.Overlap.{Overlap}
use Rattle.review_compare.specs.declared.ruling.Ruled.{Ruled}
use Rattle.review_compare.specs.Agreement.{are_disjoint, is_covered, is_impossible}
use Rattle.review_compare.specs.Cells.{Decider, covers_where, lined_of, ruling_by, same_lined, simple_tests}
use Rattle.review_compare.specs.Compared.{same_answer}
use Rattle.review_compare.specs.Lines.{is_unnoted}
use Rattle.review_compare.specs.Unsettled.{IsNotedBeside, IsOpen, IsRowIf, IsUnsettled, IsWay, StandsFor, most_rows, named}
use Rattle.review_compare.specs.Unsettled.{way_by}
use Rattle.review_compare.specs.Simply.{covers_simply, disjoint_simply}
use Rattle.review_compare.specs.Witnesses.{IsCompared}
use Rattle.review_compare.specs.Body.ChangedRows.{is_near}
use Rattle.review_compare.specs.Body.Near.{near_of}
use Rattle.review_compare.specs.Body.Shown.{AreOpen, IsBeside, IsLeft, IsRow, IsUnlike, IsUnlikeIf, StandFor, Stands, all_shown}
use Rattle.review_compare.specs.Body.Shown.{is_covered_by, is_covered_by_either, may_of, pair_agrees, shown, shown_if}
use Rattle.review_compare.proofs.ApartLemmas.{disjoint-covered, refuted}
use Rattle.review_compare.proofs.ChangedLemmas.{or-parts}
use Rattle.review_compare.proofs.RulingLemmas.{covered, drop-at}

-- ---- Rows that cover a near one are near

near-covering : (changed : List Decider) (k a : Decider) → covers_simply k.atom a.atom ≡ true → is_near changed a ≡ true →
    is_near changed k ≡ true
near-covering [] k a cover e = cc
near-covering (d ∷ changed) k a cover e =
    go (λ more. near-covering changed k a cover more) (or_cases (not (disjoint_simply a.atom d.atom)) (is_near changed a) e)
  where
    go : (is_near changed a ≡ true → is_near changed k ≡ true) → (not (disjoint_simply a.atom d.atom) ≡ true)
        ⊎ (is_near changed a ≡ true) → (not (disjoint_simply k.atom d.atom) || is_near changed k) ≡ true
    go rest (inl here) =
        or_left (not (disjoint_simply k.atom d.atom)) (is_near changed k)
        (refuted (disjoint_simply a.atom d.atom) (disjoint_simply k.atom d.atom)
        (λ apart. disjoint-covered k.atom a.atom d.atom cover apart) here)
    go rest (inr there) = or_right (not (disjoint_simply k.atom d.atom)) (is_near changed k) (rest there)

far-covers : (changed : List Decider) (k a : Decider) → is_near changed a ≡ true → is_near changed k ≡ false → (v : Bool) →
    covers_where (lined_of k) (lined_of a) ≡ v → v ≡ false
far-covers changed k a near far false is = refl
far-covers changed k a near far true is =
    let simply = (and_parts (covers_simply k.atom a.atom) (is_unnoted k.before || same_lined (lined_of k) (lined_of a)) is).0 in
    let bad : true ≡ false = sym (near-covering changed k a simply near) ∙ far in cc

covered-kept : (changed ds : List Decider) (a : Decider) → is_near changed a ≡ true →
    is_covered_by (near_of changed ds) (lined_of a) ≡ is_covered_by ds (lined_of a)
covered-kept changed [] a near = refl
covered-kept changed (d ∷ ds) a near = by (is_near changed d) refl (covered-kept changed ds a near)
  where
    by : (b : Bool) → is_near changed d ≡ b → is_covered_by (near_of changed ds) (lined_of a) ≡ is_covered_by ds (lined_of a) →
        is_covered_by (cond b (d ∷ near_of changed ds) (near_of changed ds)) (lined_of a)
        ≡ (covers_where (lined_of d) (lined_of a) || is_covered_by ds (lined_of a))
    by true is rest = ap (λ v. covers_where (lined_of d) (lined_of a) || v) rest
    by false is rest =
        rest
        ∙ ap (λ v. v || is_covered_by ds (lined_of a)) (sym (far-covers changed d a near is (covers_where (lined_of d) (lined_of a)) refl))

covers-all : (changed ds es : List Decider) (a : Decider) → is_near changed a ≡ true →
    list_any (λ k. covers_where k.atom (lined_of a)) (map ruling_by (near_of changed ds) ++ map ruling_by (near_of changed es))
    ≡ list_any (λ k. covers_where k.atom (lined_of a)) (map ruling_by ds ++ map ruling_by es)
covers-all changed ds es a near =
    covered (near_of changed ds) (near_of changed es) (lined_of a)
    ∙ ap (λ v. v || is_covered_by (near_of changed es) (lined_of a)) (covered-kept changed ds a near)
    ∙ ap (λ v. is_covered_by ds (lined_of a) || v) (covered-kept changed es a near)
    ∙ sym (covered ds es (lined_of a))

-- ---- Open rows

abbrev NearIf : List Decider → Option Decider → Type 0
NearIf changed None = Unit {0}
NearIf changed (Some d) = is_near changed d ≡ true

-- a way among the near rows is one among all
record IsWayOf (changed ds : List Decider) (d : Option Decider) (behind : List Decider) : Type 0 where
  all : List Decider
  way : IsWay ds d all
  kept : near_of changed all ≡ behind
  near : NearIf changed d

split-kept : (changed ds before : List Decider) (d : Decider) (behind : List Decider) → near_of changed ds ≡ before ++ d ∷ behind →
    IsWayOf changed ds (Some d) behind
split-kept changed [] [] d behind e = absurd cc
split-kept changed [] (b ∷ before) d behind e = absurd cc
split-kept changed (x ∷ ds) before d behind e =
    by (is_near changed x) refl before e (λ bs more. split-kept changed ds bs d behind more)
  where
    further : IsWayOf changed ds (Some d) behind → IsWayOf changed (x ∷ ds) (Some d) behind
    further w = record {
      all = w.all;
      way = (x ∷ w.way.0, ap (λ (ys : List Decider). x ∷ ys) w.way.1);
      kept = w.kept;
      near = w.near;
    }

    by : (v : Bool) → is_near changed x ≡ v → (bs : List Decider) →
        cond v (x ∷ near_of changed ds) (near_of changed ds) ≡ bs ++ d ∷ behind →
        ((bs : List Decider) → near_of changed ds ≡ bs ++ d ∷ behind → IsWayOf changed ds (Some d) behind) →
        IsWayOf changed (x ∷ ds) (Some d) behind
    by true is [] e rest =
        let same : x ≡ d = ap (λ (ys : List Decider). get_or ys 0 x) e in
        let tail : near_of changed ds ≡ behind = ap (λ (ys : List Decider). drop 1 ys) e in
        record {
          all = ds;
          way = ([], ap (λ (y : Decider). y ∷ ds) same);
          kept = tail;
          near = ap (is_near changed) (sym same) ∙ is;
        }
    by true is (b ∷ bs) e rest =
        let tail : near_of changed ds ≡ bs ++ d ∷ behind = ap (λ (ys : List Decider). drop 1 ys) e in further (rest bs tail)
    by false is bs e rest = further (rest bs e)

way-of : (changed ds : List Decider) (d : Option Decider) (behind : List Decider) → IsWay (near_of changed ds) d behind →
    IsWayOf changed ds d behind
way-of changed ds None behind way = record { all = ds; way = refl; kept = way; near = tt }
way-of changed ds (Some d) behind way = split-kept changed ds way.0 d behind way.1

one-possible : (changed ds es : List Decider) (d : Option Decider) → NearIf changed d →
    is_covered simple_tests (map ruling_by (near_of changed ds) ++ map ruling_by (near_of changed es)) (option_map ruling_by d)
    ≡ is_covered simple_tests (map ruling_by ds ++ map ruling_by es) (option_map ruling_by d)
one-possible changed ds es None near = refl
one-possible changed ds es (Some d) near = covers-all changed ds es d near

still-possible : (changed ds es : List Decider) (d e : Option Decider) → NearIf changed d → NearIf changed e →
    is_impossible simple_tests (way_by d (near_of changed ds)) (way_by e (near_of changed es))
    ≡ is_impossible simple_tests (way_by d ds) (way_by e es)
still-possible changed ds es d e own its =
    ap (λ v. (v || is_covered simple_tests (map ruling_by (near_of changed ds) ++ map ruling_by (near_of changed es))
    (option_map ruling_by e)) || are_disjoint simple_tests (option_map ruling_by d) (option_map ruling_by e))
    (one-possible changed ds es d own)
    ∙ ap (λ v. (is_covered simple_tests (map ruling_by ds ++ map ruling_by es) (option_map ruling_by d) || v)
    || are_disjoint simple_tests (option_map ruling_by d) (option_map ruling_by e))
    (one-possible changed ds es e its)

open-all : (changed ds es : List Decider) (d e : Option Decider) → IsOpen (near_of changed ds) (near_of changed es) d e → IsOpen ds es d e
open-all changed ds es d e is =
    let own = way-of changed ds d is.behind_old is.old in
    let its = way-of changed es e is.behind_new is.new in
    record {
      behind_old = own.all;
      behind_new = its.all;
      old = own.way;
      new = its.way;
      unlike = is.unlike;
      possible = sym (still-possible changed own.all its.all d e own.near its.near)
          ∙ ap (λ (ks : List Decider). is_impossible simple_tests (way_by d ks) (way_by e (near_of changed its.all))) own.kept
          ∙ ap (λ (ks : List Decider). is_impossible simple_tests (way_by d is.behind_old) (way_by e ks)) its.kept ∙ is.possible;
    }

-- ---- The rows that are named

kept-row : (changed ds : List Decider) (n : Decider) → Contains (near_of changed ds) n → Contains ds n
kept-row changed ds n there = (from-filter (is_near changed) ds n there).0

stands-all : (changed ds : List Decider) (own d e r : Option Decider) → StandsFor (near_of changed ds) own d e r → StandsFor ds own d e r
stands-all changed ds own d e r (inl same) = inl same
stands-all changed ds own d e None (inr none) = absurd none
stands-all changed ds own d e (Some n) (inr noted) = inr (kept-row changed ds n noted.0, noted.1)

row-all : (changed ds : List Decider) (r : Option Named) → IsRowIf (near_of changed ds) r → IsRowIf ds r
row-all changed ds None is = tt
row-all changed ds (Some r) is = (is.0, kept-row changed ds is.0 is.1, is.2)

fewer : (changed ds : List Decider) → length (near_of changed ds) ≤ length ds
fewer changed ds =
    subst (λ n. n ≤ length ds) (sym (length-filter (is_near changed) ds)) (count_by-le-length (is_near changed) ds)

pub unsettled-all : (changed ds es : List Decider) (r s : Option Named) → IsUnsettled (near_of changed ds) (near_of changed es) r s →
    IsUnsettled ds es r s
unsettled-all changed ds es r s (inl names) = inl (record {
  of_old = names.of_old;
  of_new = names.of_new;
  are_open = open-all changed ds es names.of_old names.of_new names.are_open;
  for_old = names.for_old;
  for_new = names.for_new;
  stands_old = stands-all changed ds names.of_old names.of_old names.of_new names.for_old names.stands_old;
  stands_new = stands-all changed es names.of_new names.of_old names.of_new names.for_new names.stands_new;
  old = names.old;
  new = names.new;
})
unsettled-all changed ds es r s (inr many) = inr (record {
  many = more many.many;
  old = row-all changed ds r many.old;
  new = row-all changed es s many.new;
})
  where
    more : (most_rows < length (near_of changed ds)) ⊎ (most_rows < length (near_of changed es)) →
        (most_rows < length ds) ⊎ (most_rows < length es)
    more (inl own) = inl (omega (arith, own, fewer changed ds))
    more (inr its) = inr (omega (arith, its, fewer changed es))

-- ---- Rows that do not agree

-- a row at an index, with those behind it
pub way-at : (rs : List Ruled) (i : ℕ) (r : Ruled) → i < length rs → r ≡ get_or rs i r →
    IsWay (all_shown rs) (Some (shown r)) (all_shown (drop (i + 1) rs))
way-at rs i r within is = (
  all_shown (take i rs),
  ap all_shown (sym (take-append-drop i rs) ∙ ap (λ (xs : List Ruled). take i rs ++ xs) (drop-at rs i r within is))
      ∙ map-append _ (take i rs) (r ∷ drop (i + 1) rs),
)

pub row-at : (rs : List Ruled) (i : ℕ) (r : Ruled) → i < length rs → r ≡ get_or rs i r → Contains (all_shown rs) (shown r)
row-at rs i r within is =
    let way = way-at rs i r within is in
    subst (λ (ds : List Decider). Contains ds (shown r)) (sym way.1)
    (Contains-append_right way.0 (shown r ∷ all_shown (drop (i + 1) rs)) (shown r) (0, omega arith, refl))

-- the row at an index, if there is one
pub got-row : (rs : List Ruled) (i : ℕ) → IfSome (slice_get rs i) (IsRow rs)
got-row [] i = tt
got-row (r ∷ rs) zero = (0, omega arith, refl)
got-row (r ∷ rs) (suc i) = further (slice_get rs i) (got-row rs i)
  where
    further : (o : Option Ruled) → IfSome o (IsRow rs) → IfSome o (IsRow (r ∷ rs))
    further None there = tt
    further (Some m) there = Contains-append_right (shown r ∷ []) (all_shown rs) (shown m) there

-- where none of the rows covers it
not-covered : (ds es : List Decider) (a : Decider) → is_covered_by_either ds es (lined_of a) ≡ false →
    list_any (λ k. covers_where k.atom (lined_of a)) (map ruling_by ds ++ map ruling_by es) ≡ false
not-covered ds es a e = covered ds es (lined_of a) ∙ e

all-false : (a b c : Bool) → a ≡ false → b ≡ false → c ≡ false → ((a || b) || c) ≡ false
all-false a b c own its apart = ap (λ v. (v || b) || c) own ∙ ap (λ v. v || c) its ∙ apart

pub open-left : (ds es : List Decider) (e : Decider) → IsLeft ds es e → IsOpen ds es None (Some e)
open-left ds es e is = record {
  behind_old = ds;
  behind_new = is.behind;
  old = refl;
  new = is.way;
  unlike = refl;
  possible = all-false false (list_any (λ k. covers_where k.atom (lined_of e)) (map ruling_by ds ++ map ruling_by is.behind)) false
      refl (not-covered ds is.behind e is.left) refl;
}

pub open-unlike : (ds later es : List Decider) (d : Decider) (e : Option Decider) → IsWay ds (Some d) later → IsUnlikeIf d later es e →
    IsOpen ds es (Some d) e
open-unlike ds later es d None way is = record {
  behind_old = later;
  behind_new = es;
  old = way;
  new = refl;
  unlike = refl;
  possible = all-false (list_any (λ k. covers_where k.atom (lined_of d)) (map ruling_by later ++ map ruling_by es)) false false
      (not-covered later es d is) refl refl;
}
open-unlike ds later es d (Some e) way is =
    let first = or-parts (same_answer d.answer e.answer) ((is_covered_by_either later is.behind (lined_of d)
    || is_covered_by_either later is.behind (lined_of e)) || disjoint_simply d.atom e.atom) is.unlike in
    let second = or-parts (is_covered_by_either later is.behind (lined_of d) || is_covered_by_either later is.behind (lined_of e))
    (disjoint_simply d.atom e.atom) first.1 in
    let third = or-parts (is_covered_by_either later is.behind (lined_of d)) (is_covered_by_either later is.behind (lined_of e)) second.0 in
    record {
      behind_old = later;
      behind_new = is.behind;
      old = way;
      new = is.way;
      unlike = first.0;
      possible = all-false (list_any (λ k. covers_where k.atom (lined_of d)) (map ruling_by later ++ map ruling_by is.behind))
          (list_any (λ k. covers_where k.atom (lined_of e)) (map ruling_by later ++ map ruling_by is.behind))
          (disjoint_simply d.atom e.atom) (not-covered later is.behind d third.0) (not-covered later is.behind e third.1) second.1;
    }

-- ---- What is found

-- what is named for an overlap that is open
pub names-open : (rs ss : List Ruled) (o named_for : Overlap) → AreOpen rs ss o → StandFor rs ss o named_for →
    IsCompared (all_shown rs) (all_shown ss) (may_of named_for)
names-open rs ss o named_for is stand = inl (record {
  of_old = shown_if o.old;
  of_new = shown_if o.new;
  are_open = is;
  for_old = shown_if named_for.old;
  for_new = shown_if named_for.new;
  stands_old = stand.old;
  stands_new = stand.new;
  old = refl;
  new = refl;
})

-- or for rows of lists that are long
stands-row : (rs : List Ruled) (own : Option Ruled) (d e r : Option Decider) → IfSome own (IsRow rs) →
    StandsFor (all_shown rs) (shown_if own) d e r → IsRowIf (all_shown rs) (option_map named r)
stands-row rs own d e None there stands = tt
stands-row rs None d e (Some n) there (inl same) = absurd cc
stands-row rs (Some m) d e (Some n) there (inl same) =
    let is : shown m ≡ n = cc in (n, subst (λ (k : Decider). Contains (all_shown rs) k) is there, refl)
stands-row rs own d e (Some n) there (inr noted) = (n, noted.0, refl)

pub names-many : (rs ss : List Ruled) (o named_for : Overlap) → IfSome o.old (IsRow rs) → IfSome o.new (IsRow ss) →
    (most_rows < length rs) ⊎ (most_rows < length ss) → StandFor rs ss o named_for →
    IsCompared (all_shown rs) (all_shown ss) (may_of named_for)
names-many rs ss o named_for own its many stand = inr (record {
  many = more many;
  old = stands-row rs o.old (shown_if o.old) (shown_if o.new) (shown_if named_for.old) own stand.old;
  new = stands-row ss o.new (shown_if o.old) (shown_if o.new) (shown_if named_for.new) its stand.new;
})
  where
    more : (most_rows < length rs) ⊎ (most_rows < length ss) → (most_rows < length (all_shown rs)) ⊎ (most_rows < length (all_shown ss))
    more (inl e) = inl (subst (λ n. most_rows < n) (sym (length-map rs shown)) e)
    more (inr e) = inr (subst (λ n. most_rows < n) (sym (length-map ss shown)) e)

-- where there is no row, the noted one stands, if there is one
pub noted-or-none : (rs : List Ruled) (o : Overlap) (own r : Option Ruled) → own ≡ None → IfSome r (IsBeside rs o) → Stands rs o own r
noted-or-none rs o own None none noted = inl (ap shown_if (sym none))
noted-or-none rs o own (Some r) none noted = inr noted

pub stands-again : (rs : List Ruled) (o : Overlap) (own mid r : Option Ruled) → Stands rs o own mid → Stands rs o mid r → Stands rs o own r
stands-again rs o own mid r first (inr noted) = inr noted
stands-again rs o own mid r (inl one) (inl two) = inl (two ∙ one)
stands-again rs o own mid r (inr noted) (inl same) =
    inr (subst (λ (k : Option Decider). IsNotedBeside (all_shown rs) (shown_if o.old) (shown_if o.new) k) (sym same) noted)

-- ---- All rows of a cell

-- what is named of the rows near those that differ
pub may-all : (k : Changed) (f : Compared) (o : Overlap) → f ≡ may_of o →
    IsCompared (all_shown k.old.items) (all_shown k.new.items) (may_of o) →
    IsCompared (all_shown k.all_old.now) (all_shown k.all_new.now) f
may-all k f o same is =
    let r = option_map named (shown_if o.old) in
    let s = option_map named (shown_if o.new) in
    subst (λ (g : Compared). IsCompared (all_shown k.all_old.now) (all_shown k.all_new.now) g) (sym same)
    (unsettled-all (all_shown k.rows.items) (all_shown k.all_old.now) (all_shown k.all_new.now) r s
    (subst (λ (ds : List Decider). IsUnsettled ds (near_of (all_shown k.rows.items) (all_shown k.all_new.now)) r s) k.near_old
    (subst (λ (es : List Decider). IsUnsettled (all_shown k.old.items) es r s) k.near_new is)))

-- ---- A row at an index

pub left-at : (rows others : List Ruled) (i : ℕ) (r : Ruled) (b : Bool) → i < length others → r ≡ get_or others i r →
    b ≡ is_covered_by_either (all_shown rows) (all_shown (drop (i + 1) others)) (lined_of (shown r)) → b ≡ false →
    IsLeft (all_shown rows) (all_shown others) (shown r)
left-at rows others i r b within is tested none = record {
  behind = all_shown (drop (i + 1) others);
  way = way-at others i r within is;
  left = sym tested ∙ none;
}

pub unlike-at : (d : Decider) (later : List Decider) (others : List Ruled) (i : ℕ) (r : Ruled) (b : Bool) → i < length others →
    r ≡ get_or others i r → b ≡ pair_agrees d later (shown r) (all_shown (drop (i + 1) others)) → b ≡ false →
    IsUnlike d later (all_shown others) (shown r)
unlike-at d later others i r b within is tested none = record {
  behind = all_shown (drop (i + 1) others);
  way = way-at others i r within is;
  unlike = sym tested ∙ none;
}

pub open-at : (old new : List Ruled) (i : ℕ) (r : Ruled) (o : Option Ruled) → i < length old → r ≡ get_or old i r →
    IsUnlikeIf (shown r) (all_shown (drop (i + 1) old)) (all_shown new) (shown_if o) →
    IsOpen (all_shown old) (all_shown new) (Some (shown r)) (shown_if o)
open-at old new i r o within is unlike =
    open-unlike (all_shown old) (all_shown (drop (i + 1) old)) (all_shown new) (shown r) (shown_if o) (way-at old i r within is) unlike
