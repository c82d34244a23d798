-- Comparisons that rows behind the change settle.
use Rattle.std.proofs.Common.{◌≡◌, ◌<◌, ◌≤◌, ◌+◌, ◌-◌, ◌++◌, ◌∙◌, ◌⊎◌, inl, inr, ℕ, zero, suc, Bool, true, false, cond, ◌||◌}
use Rattle.std.proofs.Common.{List, [], ◌∷◌, ap, append-nil, arith, drop, get_or, length, map, refl, subst, sym, take, Option, Some, None}
use Rattle.std.specs.List.{list_any}
use Rattle.std.specs.Option.{option_or}
use Rattle.std.proofs.lemmas.Bool.{or_cases}
use Rattle.std.proofs.lemmas.List.{append_assoc, length-drop, map-append, take_all}
use Rattle.sudo_policy.proofs.SurveyLemmas.{option_or-none}
use Rattle.sudo_match.specs.declared.request.Tags.{Tags}
use Rattle.sudo_verdict.specs.Last.{last_that}
use Rattle.sudo_verdict.proofs.Lasts.{last_that-append}
use Rattle.review_compare.specs.declared.block.Block.{Block}
use Rattle.review_compare.specs.declared.near.Parts.{Parts}
use Rattle.review_compare.specs.declared.ruling.Ruled.{Ruled}
use Rattle.review_compare.specs.Agreement.{Ruling}
use Rattle.review_compare.specs.Cells.{Decider, answered_if_any, covers_where, lined_of, ruling_by}
use Rattle.review_compare.specs.Compared.{said}
use Rattle.review_compare.specs.Lines.{Choice, Lined, fits_where}
use Rattle.review_compare.specs.Witnesses.{RowsSaySame}
use Rattle.review_compare.specs.Body.Chosen.{chosen, deciders_at}
use Rattle.review_compare.specs.Body.Settled.{AreCovered, AreTwins, ChosenAlike}
use Rattle.review_compare.specs.Body.Shown.{all_shown, is_covered_by, shown}
use Rattle.review_compare.proofs.CellLemmas.{rulings-say-same, simple-sound}
use Rattle.review_compare.proofs.RowReachLemmas.{chosen-from, chosen-split, drop-all}
use Rattle.review_compare.proofs.RulingLemmas.{drop-at, list_any-map}

module _ (met : Choice) (c x : List ℕ) where
  abbrev applies : Decider → Bool
  applies d = fits_where met c x (lined_of d)

  abbrev last : List Decider → Option Decider
  last ds = last_that applies ds

  abbrev or-own : Decider → Option Decider → Option Decider
  or-own d o = option_or o (cond (applies d) (Some d) None)

  some-last : (ds : List Decider) → list_any applies ds ≡ true → last ds ≡ None → ⊥
  some-last [] any none = let bad : false ≡ true = any in cc
  some-last (d ∷ ds) any none = go (λ there. some-last ds there) (last ds) refl
    where
      by : (list_any applies ds ≡ true → last ds ≡ None → ⊥) → last ds ≡ None →
          (applies d ≡ true) ⊎ (list_any applies ds ≡ true) → ⊥
      by rest is (inl here) =
          let bad : Some d ≡ None = sym (ap (or-own d) is ∙ ap (λ b. cond b (Some d) None) here) ∙ none in cc
      by rest is (inr there) = rest there is

      go : (list_any applies ds ≡ true → last ds ≡ None → ⊥) → (o : Option Decider) → last ds ≡ o → ⊥
      go rest (Some e) is = let bad : Some e ≡ None = sym (ap (or-own d) is) ∙ none in cc
      go rest None is = by rest is (or_cases (applies d) (list_any applies ds) any)

  covered-applies : (ds : List Decider) (a : Lined) → fits_where met c x a ≡ true → is_covered_by ds a ≡ true →
      list_any applies ds ≡ true
  covered-applies [] a fits e = e
  covered-applies (d ∷ ds) a fits e =
      go (λ there. covered-applies ds a fits there) (or_cases (covers_where (lined_of d) a) (is_covered_by ds a) e)
    where
      or-true : (b : Bool) → (b || true) ≡ true
      or-true true = refl
      or-true false = refl

      go : (is_covered_by ds a ≡ true → list_any applies ds ≡ true) →
          (covers_where (lined_of d) a ≡ true) ⊎ (is_covered_by ds a ≡ true) → list_any applies (d ∷ ds) ≡ true
      go rest (inl here) = ap (λ b. b || list_any applies ds) ((simple-sound met c x).covers (lined_of d) a here fits)
      go rest (inr there) = ap (λ b. applies d || b) (rest there) ∙ or-true (applies d)

  covered-none : (ds es : List Decider) → AreCovered es ds → last es ≡ None → last ds ≡ None
  covered-none [] es all none = refl
  covered-none (d ∷ ds) es all none =
      ap (or-own d) (covered-none ds es all.1 none) ∙ go (applies d) refl
    where
      go : (b : Bool) → applies d ≡ b → cond (applies d) (Some d) None ≡ None
      go true is = absurd (some-last es (covered-applies es (lined_of d) is all.0) none)
      go false is = ap (λ b. cond b (Some d) None) is

  -- rows that those behind them cover do not decide
  without-covered : (ps ds es : List Decider) → AreCovered es ds → last (ps ++ (ds ++ es)) ≡ last (ps ++ es)
  without-covered ps ds es all =
      last_that-append applies ps (ds ++ es)
      ∙ ap (λ o. option_or o (last ps)) (last_that-append applies ds es ∙ go (last es) refl)
      ∙ sym (last_that-append applies ps es)
    where
      go : (o : Option Decider) → last es ≡ o → option_or (last es) (last ds) ≡ last es
      go (Some e) is = ap (λ o. option_or o (last ds)) is ∙ sym is
      go None is = ap (λ o. option_or (last es) o) (covered-none ds es all is) ∙ option_or-none (last es)

-- rows with the same rulings cover the same
rulings-cover : (ds es : List Decider) (a : Lined) → map ruling_by ds ≡ map ruling_by es → is_covered_by es a ≡ true →
    is_covered_by ds a ≡ true
rulings-cover ds es a same e =
    sym (list_any-map (λ k. covers_where k.atom a) ruling_by ds)
    ∙ ap (λ (ks : List (Ruling Lined (Option Tags))). list_any (λ k. covers_where k.atom a) ks) same
    ∙ list_any-map (λ k. covers_where k.atom a) ruling_by es ∙ e

all-covered : (ds es fs : List Decider) → map ruling_by ds ≡ map ruling_by es → AreCovered es fs → AreCovered ds fs
all-covered ds es [] same all = tt
all-covered ds es (f ∷ fs) same all = (rulings-cover ds es (lined_of f) same all.0, all-covered ds es fs same all.1)

settled : (ps ds ss qs es ts : List Decider) → map ruling_by ps ≡ map ruling_by qs → map ruling_by ss ≡ map ruling_by ts →
    AreCovered ts ds → AreCovered ts es → RowsSaySame (ps ++ (ds ++ ss)) (qs ++ (es ++ ts))
settled ps ds ss qs es ts front back own its met c x =
    ap (λ o. said (answered_if_any o)) (without-covered met c x ps ds ss (all-covered ss ts ds back own))
    ∙ rulings-say-same (ps ++ ss) (qs ++ ts) rulings met c x
    ∙ sym (ap (λ o. said (answered_if_any o)) (without-covered met c x qs es ts its))
  where
    rulings : map ruling_by (ps ++ ss) ≡ map ruling_by (qs ++ ts)
    rulings =
        map-append ruling_by ps ss
        ∙ ap (λ (ks : List (Ruling Lined (Option Tags))). ks ++ map ruling_by ss) front
        ∙ ap (λ (ks : List (Ruling Lined (Option Tags))). map ruling_by qs ++ ks) back
        ∙ sym (map-append ruling_by qs ts)

-- the rows of blocks, before, between and behind
chosen-parts : (bs : List Block) (front n : ℕ) (is : List ℕ) →
    chosen bs is ≡ chosen bs (take front is) ++ (chosen bs (take n (drop front is)) ++ chosen bs (drop n (drop front is)))
chosen-parts bs front n is =
    chosen-split bs front is ∙ ap (λ ds. chosen bs (take front is) ++ ds) (chosen-split bs n (drop front is))

pub settled-blocks : (p : Parts) (is js : List ℕ) (front n m : ℕ) → ChosenAlike p (take front is) (take front js) →
    ChosenAlike p (drop n (drop front is)) (drop m (drop front js)) →
    AreCovered (chosen p.new.items (drop m (drop front js))) (chosen p.old.items (take n (drop front is))) →
    AreCovered (chosen p.new.items (drop m (drop front js))) (chosen p.new.items (take m (drop front js))) →
    RowsSaySame (chosen p.old.items is) (chosen p.new.items js)
settled-blocks p is js front n m before behind own its met c x =
    let bs = p.old.items in
    let cs = p.new.items in
    ap (λ (ds : List Decider). said (answered_if_any (last met c x ds))) (chosen-parts bs front n is)
    ∙ settled (chosen bs (take front is)) (chosen bs (take n (drop front is))) (chosen bs (drop n (drop front is)))
    (chosen cs (take front js)) (chosen cs (take m (drop front js))) (chosen cs (drop m (drop front js))) before behind own its met c x
    ∙ sym (ap (λ (ds : List Decider). said (answered_if_any (last met c x ds))) (chosen-parts cs front m js))

-- the slice from an index on
pub slice-from : (is : List ℕ) (k : ℕ) → take (length is - k) (drop k is) ≡ drop k is
slice-from is k = take_all (length is - k) (drop k is) (omega (arith, length-drop k is))

-- the same by slices
pub settled-slices : (p : Parts) (is js old new later : List ℕ) (front back : ℕ) → old ≡ drop front is → new ≡ drop front js →
    later ≡ drop (length new - back) new → ChosenAlike p (take front is) (take front js) →
    ChosenAlike p (drop (length old - back) old) (drop (length new - back) new) →
    AreCovered (chosen p.new.items later) (chosen p.old.items (take (length old - back) old)) →
    AreCovered (chosen p.new.items later) (chosen p.new.items (take (length new - back) new)) →
    RowsSaySame (chosen p.old.items is) (chosen p.new.items js)
settled-slices p is js old new later front back olds news laters before behind own its =
    let bs = p.old.items in
    let cs = p.new.items in
    let rest = drop front js in
    let from = drop (length rest - back) rest in
    let last : later ≡ from = laters ∙ ap (λ ys. drop (length ys - back) ys) news in
    settled-blocks p is js front (length (drop front is) - back) (length rest - back) before
    (subst (λ xs. ChosenAlike p (drop (length xs - back) xs) from) olds
    (subst (λ ys. ChosenAlike p (drop (length old - back) old) (drop (length ys - back) ys)) news behind))
    (subst (λ ys. AreCovered (chosen cs ys) (chosen bs (take (length (drop front is) - back) (drop front is)))) last
    (subst (λ xs. AreCovered (chosen cs later) (chosen bs (take (length xs - back) xs))) olds own))
    (subst (λ ys. AreCovered (chosen cs ys) (chosen cs (take (length rest - back) rest))) last
    (subst (λ xs. AreCovered (chosen cs later) (chosen cs (take (length xs - back) xs))) news its))

-- ---- One twin more

chosen-next : (bs : List Block) (is : List ℕ) (i : ℕ) → i < length is →
    chosen bs (take (suc i) is) ≡ chosen bs (take i is) ++ deciders_at bs (get_or is i 0)
chosen-next bs [] i within = absurd (omega (arith, within))
chosen-next bs (x ∷ is) zero within = append-nil (deciders_at bs x)
chosen-next bs (x ∷ is) (suc i) within =
    ap (λ ds. deciders_at bs x ++ ds) (chosen-next bs is i (omega (arith, within)))
    ∙ sym (append_assoc (deciders_at bs x) (chosen bs (take i is)) (deciders_at bs (get_or is i 0)))

chosen-more : (bs : List Block) (is : List ℕ) (i : ℕ) → i < length is →
    chosen bs (take (i + 1) is) ≡ chosen bs (take i is) ++ deciders_at bs (get_or is i 0)
chosen-more bs is i within =
    let on : i + 1 ≡ suc i = omega arith in ap (λ n. chosen bs (take n is)) on ∙ chosen-next bs is i within

abbrev Rulings : Type 0
Rulings = List (Ruling Lined (Option Tags))

append-alike : (ds es fs gs : List Decider) → map ruling_by ds ≡ map ruling_by fs → map ruling_by es ≡ map ruling_by gs →
    map ruling_by (ds ++ es) ≡ map ruling_by (fs ++ gs)
append-alike ds es fs gs first second =
    map-append ruling_by ds es ∙ ap (λ (ks : Rulings). ks ++ map ruling_by es) first
    ∙ ap (λ (ks : Rulings). map ruling_by fs ++ ks) second ∙ sym (map-append ruling_by fs gs)

pub before-more : (p : Parts) (twins : List (Option ℕ)) (is js : List ℕ) (i : ℕ) → AreTwins p twins → i < length is → i < length js →
    get_or twins (get_or is i 0) None ≡ Some (get_or js i 0) → ChosenAlike p (take i is) (take i js) →
    ChosenAlike p (take (i + 1) is) (take (i + 1) js)
before-more p twins is js i are in_old in_new twin so_far =
    let bs = p.old.items in
    let cs = p.new.items in
    ap (map ruling_by) (chosen-more bs is i in_old)
    ∙ append-alike (chosen bs (take i is)) (deciders_at bs (get_or is i 0)) (chosen cs (take i js)) (deciders_at cs (get_or js i 0)) so_far
    (are (get_or is i 0) (get_or js i 0) twin)
    ∙ sym (ap (map ruling_by) (chosen-more cs js i in_new))

-- the rows of the last blocks, one block more
chosen-back : (bs : List Block) (is : List ℕ) (back : ℕ) → back < length is → chosen bs (drop (length is - (back + 1)) is)
    ≡ deciders_at bs (get_or is (length is - back - 1) 0) ++ chosen bs (drop (length is - back) is)
chosen-back bs is back within =
    let from : length is - (back + 1) ≡ length is - back - 1 = omega arith in
    let on : length is - back - 1 + 1 ≡ length is - back = omega (arith, within) in
    ap (λ n. chosen bs (drop n is)) from
    ∙ chosen-from bs (length is - back - 1) is (omega (arith, within))
    ∙ ap (λ n. deciders_at bs (get_or is (length is - back - 1) 0) ++ chosen bs (drop n is)) on

pub behind-more : (p : Parts) (twins : List (Option ℕ)) (is js : List ℕ) (back : ℕ) → AreTwins p twins → back < length is →
    back < length js → get_or twins (get_or is (length is - back - 1) 0) None ≡ Some (get_or js (length js - back - 1) 0) →
    ChosenAlike p (drop (length is - back) is) (drop (length js - back) js) →
    ChosenAlike p (drop (length is - (back + 1)) is) (drop (length js - (back + 1)) js)
behind-more p twins is js back are in_old in_new twin so_far =
    let bs = p.old.items in
    let cs = p.new.items in
    let i = get_or is (length is - back - 1) 0 in
    let j = get_or js (length js - back - 1) 0 in
    ap (map ruling_by) (chosen-back bs is back in_old)
    ∙ append-alike (deciders_at bs i) (chosen bs (drop (length is - back) is)) (deciders_at cs j) (chosen cs (drop (length js - back) js))
    (are i j twin) so_far
    ∙ sym (ap (map ruling_by) (chosen-back cs js back in_new))

-- ---- One row more

pub covered-more : (others : List Decider) (rs : List Ruled) (i : ℕ) (r : Ruled) → i < length rs → r ≡ get_or rs i r →
    is_covered_by others (lined_of (shown r)) ≡ true →
    (AreCovered others (all_shown (drop i rs)) → AreCovered others (all_shown rs)) →
    AreCovered others (all_shown (drop (i + 1) rs)) → AreCovered others (all_shown rs)
covered-more others rs i r within is covered so_far rest =
    so_far (subst (λ (ys : List Ruled). AreCovered others (all_shown ys)) (sym (drop-at rs i r within is)) (covered, rest))

-- no row is left
pub covered-past : (others : List Decider) (rs : List Ruled) (n : ℕ) → length rs ≤ n → AreCovered others (all_shown (drop n rs))
covered-past others [] zero past = tt
covered-past others [] (suc n) past = tt
covered-past others (r ∷ rs) zero past = absurd (omega (arith, past))
covered-past others (r ∷ rs) (suc n) past = covered-past others rs n (omega (arith, past))

pub drop-length : (is : List ℕ) → drop (length is - 0) is ≡ []
drop-length is = let all : length is - 0 ≡ length is = omega arith in ap (λ n. drop n is) all ∙ drop-all is
