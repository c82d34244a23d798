-- The rows in which two lists differ, and the rows near them.
use Rattle.std.proofs.Common.{◌≡◌, ◌≤◌, ◌+◌, ◌-◌, ◌∙◌, ℕ, Bool, true, false, cond, not, ◌&&◌, ◌||◌, List, [], ◌∷◌, ◌++◌, map, drop}
use Rattle.std.proofs.Common.{ap, arith, refl, sym, Option, Some, None, length, take, length-drop}
use Rattle.std.specs.Prelude.{filter, option_map}
use Rattle.std.specs.Option.{option_or}
use Rattle.std.proofs.lemmas.List.{map-append, take-append-drop, take_all}
use Rattle.std.proofs.lemmas.Bool.{and_parts}
use Rattle.std.proofs.lemmas.List.Folds.{list_any-append}
use Rattle.sudo_match.specs.declared.request.Tags.{Tags}
use Rattle.sudo_match.specs.Matching.{command_fits}
use Rattle.sudo_policy.proofs.SurveyLemmas.{option_or-none}
use Rattle.sudo_verdict.specs.Last.{last_that}
use Rattle.sudo_verdict.proofs.Lasts.{last_that-append}
use Rattle.review_compare.specs.declared.ruling.Ruled.{Ruled}
use Rattle.review_compare.specs.Agreement.{Ruling}
use Rattle.review_compare.specs.Cells.{Decider, answered_if_any, lined_of, ruling_by, verdict_among}
use Rattle.review_compare.specs.Compared.{said}
use Rattle.review_compare.specs.Lines.{Choice, Lined, fits_where, is_met}
use Rattle.review_compare.specs.Simply.{disjoint_simply}
use Rattle.review_compare.specs.Witnesses.{RowsSaySame}
use Rattle.review_compare.specs.Body.ChangedRows.{AreChanged, between, is_fitted, is_near}
use Rattle.review_compare.specs.Body.Shown.{all_shown, ruling_of}
use Rattle.review_compare.proofs.CellLemmas.{said-among}
use Rattle.review_compare.proofs.SimplyLemmas.{disjoint_simply_sound}
use Rattle.review_grants.proofs.ListSteps.{map-twice}

-- ---- Commands that a changed row fits

pub or-parts : (a b : Bool) → (a || b) ≡ false → (a ≡ false) × (b ≡ false)
or-parts true b e = cc
or-parts false b e = (refl, e)

-- a row that fits such a command is near
pub near-fits : (changed : List Decider) (d : Decider) (c x : List ℕ) → is_fitted changed c x ≡ true → command_fits d.atom c x ≡ true →
    is_near changed d ≡ true
near-fits [] d c x e fits = cc
near-fits (k ∷ changed) d c x e fits =
    by (λ more. near-fits changed d c x more fits) (command_fits k.atom c x) refl (disjoint_simply d.atom k.atom) refl e
  where
    by : (is_fitted changed c x ≡ true → is_near changed d ≡ true) → (f : Bool) → command_fits k.atom c x ≡ f →
        (b : Bool) → disjoint_simply d.atom k.atom ≡ b → (f || is_fitted changed c x) ≡ true → is_near (k ∷ changed) d ≡ true
    by rest f is false apart e = ap (λ v. not v || is_near changed d) apart
    by rest true is true apart e =
        let no = disjoint_simply_sound d.atom k.atom c x apart fits in
        let bad : true ≡ false = sym is ∙ no in cc
    by rest false is true apart e = ap (λ v. not v || is_near changed d) apart ∙ rest e

-- of items that include all that pass, the last that passes is the same
pub last-kept : {X : Type 0} (f g : X → Bool) → ((x : X) → f x ≡ true → g x ≡ true) → (xs : List X) →
    last_that f (filter g xs) ≡ last_that f xs
last-kept f g keeps [] = refl
last-kept f g keeps (x ∷ xs) = by (last-kept f g keeps xs) (f x) refl (g x) refl
  where
    by : last_that f (filter g xs) ≡ last_that f xs → (b : Bool) → f x ≡ b → (k : Bool) → g x ≡ k →
        last_that f (filter g (x ∷ xs)) ≡ last_that f (x ∷ xs)
    by rest b is true kept =
        ap (λ v. last_that f (cond v (x ∷ filter g xs) (filter g xs))) kept ∙ ap (λ o. option_or o (cond (f x) (Some x) None)) rest
    by rest false is false kept =
        ap (λ v. last_that f (cond v (x ∷ filter g xs) (filter g xs))) kept ∙ rest
        ∙ sym (ap (λ v. option_or (last_that f xs) (cond v (Some x) None)) is ∙ option_or-none (last_that f xs))
    by rest true is false kept = let bad : true ≡ false = sym (keeps x is) ∙ kept in cc

-- a row applies to nothing that its atom does not fit
pub fits-alone : (met : Choice) (c x : List ℕ) (a : Lined) → fits_where met c x a ≡ true → command_fits a.atom c x ≡ true
fits-alone met c x a applies = (and_parts (command_fits a.atom c x) (is_met met a) applies).0

pub near-decide : (changed ds : List Decider) (met : Choice) (c x : List ℕ) → is_fitted changed c x ≡ true →
    verdict_among met (filter (is_near changed) ds) c x ≡ verdict_among met ds c x
near-decide changed ds met c x e =
    ap answered_if_any (last-kept (λ d. fits_where met c x (lined_of d)) (is_near changed)
    (λ d applies. near-fits changed d c x e (fits-alone met c x (lined_of d) applies)) ds)

-- ---- Commands that no changed row fits

none-last : (ds : List Decider) (met : Choice) (c x : List ℕ) → is_fitted ds c x ≡ false →
    last_that (λ r. fits_where met c x r.atom) (map ruling_by ds) ≡ None
none-last [] met c x e = refl
none-last (d ∷ ds) met c x e =
    let both = or-parts (command_fits d.atom c x) (is_fitted ds c x) e in
    ap (λ o. option_or o (cond (fits_where met c x (lined_of d)) (Some (ruling_by d)) None)) (none-last ds met c x both.1)
    ∙ ap (λ v. cond (v && is_met met (lined_of d)) (Some (ruling_by d)) None) both.0

abbrev Rulings : Type 0
Rulings = List (Ruling Lined (Option Tags))

-- where the rows in the middle do not fit, those before and behind them decide
without-middle : (ps ms ss : List Decider) (met : Choice) (c x : List ℕ) → is_fitted ms c x ≡ false →
    last_that (λ r. fits_where met c x r.atom) (map ruling_by (ps ++ (ms ++ ss)))
    ≡ option_or (last_that (λ r. fits_where met c x r.atom) (map ruling_by ss))
    (last_that (λ r. fits_where met c x r.atom) (map ruling_by ps))
without-middle ps ms ss met c x e =
    let T : Rulings → Option (Ruling Lined (Option Tags)) = last_that (λ r. fits_where met c x r.atom) in
    ap T (map-append ruling_by ps (ms ++ ss) ∙ ap (λ (rs : Rulings). map ruling_by ps ++ rs) (map-append ruling_by ms ss))
    ∙ last_that-append (λ r. fits_where met c x r.atom) (map ruling_by ps) (map ruling_by ms ++ map ruling_by ss)
    ∙ ap (λ o. option_or o (T (map ruling_by ps)))
    (last_that-append (λ r. fits_where met c x r.atom) (map ruling_by ms) (map ruling_by ss)
    ∙ ap (λ o. option_or (T (map ruling_by ss)) o) (none-last ms met c x e) ∙ option_or-none (T (map ruling_by ss)))

pub unfitted : (ps ms ss qs ns ts : List Decider) → map ruling_by ps ≡ map ruling_by qs → map ruling_by ss ≡ map ruling_by ts →
    (met : Choice) (c x : List ℕ) → is_fitted (ms ++ ns) c x ≡ false →
    said (verdict_among met (ps ++ (ms ++ ss)) c x) ≡ said (verdict_among met (qs ++ (ns ++ ts)) c x)
unfitted ps ms ss qs ns ts front back met c x e =
    let T : Rulings → Option (Ruling Lined (Option Tags)) = last_that (λ r. fits_where met c x r.atom) in
    let both = or-parts (is_fitted ms c x) (is_fitted ns c x) (sym (list_any-append (λ d. command_fits d.atom c x) ms ns) ∙ e) in
    said-among met (ps ++ (ms ++ ss)) c x
    ∙ ap (option_map (λ r. r.answer))
    (without-middle ps ms ss met c x both.0
    ∙ ap (λ (rs : Rulings). option_or (T (map ruling_by ss)) (T rs)) front
    ∙ ap (λ (rs : Rulings). option_or (T rs) (T (map ruling_by qs))) back
    ∙ sym (without-middle qs ns ts met c x both.1))
    ∙ sym (said-among met (qs ++ (ns ++ ts)) c x)

-- ---- Parts of a list

parts : {X : Type 0} (xs : List X) (front back : ℕ) → front + back ≤ length xs →
    xs ≡ take front xs ++ (between front back xs ++ drop (length (drop front xs) - back) (drop front xs))
parts xs front back within =
    let n : ℕ = length (drop front xs) - back in
    let long : length (drop front xs) ≡ length xs - front = length-drop front xs in
    let same : length xs - back - front ≡ n = omega (arith, long, within) in
    sym (take-append-drop front xs)
    ∙ ap (λ (ys : List _). take front xs ++ ys)
    (sym (take-append-drop n (drop front xs))
    ∙ ap (λ k. take k (drop front xs) ++ drop n (drop front xs)) (sym same))

shown-parts : (rs : List Ruled) (front back : ℕ) → front + back ≤ length rs →
    all_shown rs ≡ all_shown (take front rs)
    ++ (all_shown (between front back rs) ++ all_shown (drop (length (drop front rs) - back) (drop front rs)))
shown-parts rs front back within =
    ap all_shown (parts rs front back within)
    ∙ map-append _ (take front rs) (between front back rs ++ drop (length (drop front rs) - back) (drop front rs))
    ∙ ap (λ (ds : List Decider). all_shown (take front rs) ++ ds)
    (map-append _ (between front back rs) (drop (length (drop front rs) - back) (drop front rs)))

rulings-shown : (rs ss : List Ruled) → map ruling_of rs ≡ map ruling_of ss → map ruling_by (all_shown rs) ≡ map ruling_by (all_shown ss)
rulings-shown rs ss e = map-twice ruling_by _ rs ∙ e ∙ sym (map-twice ruling_by _ ss)

-- the rows behind a front, as a slice has them
pub behind : (rs : List Ruled) (front : ℕ) → take (length rs - front) (drop front rs) ≡ drop front rs
behind rs front = take_all (length rs - front) (drop front rs) (omega (arith, length-drop front rs))

abbrev tail_rulings : ℕ → List Ruled → Rulings
tail_rulings back rs = map ruling_of (drop (length rs - back) rs)

pub tails-same : (old new : List Ruled) (front back : ℕ) →
    tail_rulings back (take (length old - front) (drop front old)) ≡ tail_rulings back (take (length new - front) (drop front new)) →
    tail_rulings back (drop front old) ≡ tail_rulings back (drop front new)
tails-same old new front back e =
    sym (ap (tail_rulings back) (behind old front)) ∙ e ∙ ap (tail_rulings back) (behind new front)

-- what differs, by the numbers of rows that are the same at the front and at the back
pub are-changed : (old new changed : List Ruled) (front back : ℕ) → front + back ≤ length old → front + back ≤ length new →
    map ruling_of (take front old) ≡ map ruling_of (take front new) →
    map ruling_of (drop (length (drop front old) - back) (drop front old))
    ≡ map ruling_of (drop (length (drop front new) - back) (drop front new)) →
    changed ≡ between front back old ++ between front back new → (near_old near_new : List Decider) →
    near_old ≡ filter (is_near (all_shown changed)) (all_shown old) → near_new ≡ filter (is_near (all_shown changed)) (all_shown new) →
    AreChanged (all_shown old) (all_shown new) (all_shown changed) near_old near_new
are-changed old new changed front back within also first last is near_old near_new own its = record {
  others = λ met c x e. alike met c x e;
  old = λ met c x e.
      ap (λ (ds : List Decider). verdict_among met ds c x) own ∙ near-decide (all_shown changed) (all_shown old) met c x e;
  new = λ met c x e.
      ap (λ (ds : List Decider). verdict_among met ds c x) its ∙ near-decide (all_shown changed) (all_shown new) met c x e;
}
  where
    all : all_shown changed ≡ all_shown (between front back old) ++ all_shown (between front back new)
    all = ap all_shown is ∙ map-append _ (between front back old) (between front back new)

    alike : (met : Choice) (c x : List ℕ) → is_fitted (all_shown changed) c x ≡ false →
        said (verdict_among met (all_shown old) c x) ≡ said (verdict_among met (all_shown new) c x)
    alike met c x e =
        ap (λ (ds : List Decider). said (verdict_among met ds c x)) (shown-parts old front back within)
        ∙ unfitted (all_shown (take front old)) (all_shown (between front back old))
        (all_shown (drop (length (drop front old) - back) (drop front old))) (all_shown (take front new))
        (all_shown (between front back new)) (all_shown (drop (length (drop front new) - back) (drop front new)))
        (rulings-shown (take front old) (take front new) first)
        (rulings-shown (drop (length (drop front old) - back) (drop front old))
        (drop (length (drop front new) - back) (drop front new)) last)
        met c x (sym (ap (λ (ds : List Decider). is_fitted ds c x) all) ∙ e)
        ∙ sym (ap (λ (ds : List Decider). said (verdict_among met ds c x)) (shown-parts new front back also))

-- ---- Near rows that say the same

pub near-same : (ds es changed near_ds near_es : List Decider) → AreChanged ds es changed near_ds near_es →
    RowsSaySame near_ds near_es → RowsSaySame ds es
near-same ds es changed near_ds near_es changes same met c x = by (is_fitted changed c x) refl
  where
    by : (f : Bool) → is_fitted changed c x ≡ f → said (verdict_among met ds c x) ≡ said (verdict_among met es c x)
    by false e = changes.others met c x e
    by true e = sym (ap said (changes.old met c x e)) ∙ same met c x ∙ ap said (changes.new met c x e)
