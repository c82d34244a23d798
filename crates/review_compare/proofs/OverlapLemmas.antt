-- Rows that agree, but for those that both policies have at the front and at the back, say the same.
use Rattle.std.proofs.Common.{◌≡◌, ◌<◌, ◌≤◌, ◌+◌, ◌-◌, ◌⊎◌, inl, inr, ℕ, zero, suc, Bool, true, false, cond, ◌||◌, List, [], ◌∷◌}
use Rattle.std.proofs.Common.{map, refl, sym, ◌∙◌, ap, arith, drop, get_or, length, subst, take, Option, Some, None}
use Rattle.std.specs.Option.{option_or}
use Rattle.std.specs.List.{list_any}
use Rattle.std.proofs.lemmas.Bool.{cases_lt, or_cases}
use Rattle.std.proofs.lemmas.List.{get_or_default, get_or-drop, get_or-take, length-drop, length-take-le}
use Rattle.sudo_match.specs.declared.request.Tags.{Tags}
use Rattle.sudo_verdict.specs.Last.{last_that}
use Rattle.review_compare.specs.declared.ruling.Ruled.{Ruled}
use Rattle.review_compare.specs.Agreement.{Ruling}
use Rattle.review_compare.specs.Cells.{Decider, answered_if_any, covers_where, lined_of, verdict_among}
use Rattle.review_compare.specs.Compared.{said, same_answer}
use Rattle.review_compare.specs.Lines.{Choice, Lined, fits_where}
use Rattle.review_compare.specs.Simply.{disjoint_simply}
use Rattle.review_compare.specs.Witnesses.{RowsSaySame}
use Rattle.review_compare.specs.Body.Reaches.{Agrees, AgreesFrom, AgreesWithAll, AllAgree}
use Rattle.review_compare.specs.Body.Shown.{all_shown, is_covered_by, is_covered_by_either, pair_agrees, ruling_of, shown}
use Rattle.review_compare.proofs.CellLemmas.{said-answered, simple-sound}
use Rattle.review_compare.proofs.ComparedLemmas.{answer_same}

-- the row at an index
row-at : (rs : List Ruled) (i : ℕ) → i < length rs → (r : Ruled) × (r ≡ get_or rs i r)
row-at [] i within = absurd (omega (arith, within))
row-at (r ∷ rs) zero within = (r, refl)
row-at (r ∷ rs) (suc i) within = row-at rs i (omega (arith, within))

module _ (met : Choice) (c x : List ℕ) where
  abbrev applies : Ruled → Bool
  applies r = fits_where met c x (lined_of (shown r))

  abbrev last_of : List Ruled → Option Decider
  last_of rs = last_that (λ d. fits_where met c x (lined_of d)) (all_shown rs)

  -- ---- The row that answers

  record NotFound (rs : List Ruled) : Type 0 where
    none : list_any applies rs ≡ false
    last : last_of rs ≡ None

  record Found (rs : List Ruled) : Type 0 where
    at : ℕ
    row : Ruled
    within : at < length rs
    is : row ≡ get_or rs at row
    fits : applies row ≡ true
    behind : list_any applies (drop (at + 1) rs) ≡ false
    last : last_of rs ≡ Some (shown row)

  answering : (rs : List Ruled) → NotFound rs ⊎ Found rs
  answering [] = inl (record { none = refl; last = refl })
  answering (r ∷ rs) = go (answering rs) (applies r) refl
    where
      go : NotFound rs ⊎ Found rs → (b : Bool) → applies r ≡ b → NotFound (r ∷ rs) ⊎ Found (r ∷ rs)
      go (inr f) b is = inr (record {
        at = suc f.at;
        row = f.row;
        within = omega (arith, f.within);
        is = f.is;
        fits = f.fits;
        behind = ap (λ n. list_any applies (drop n (r ∷ rs))) (let on : suc f.at + 1 ≡ suc (f.at + 1) = omega arith in on) ∙ f.behind;
        last = ap (λ o. option_or o (cond (applies r) (Some (shown r)) None)) f.last;
      })
      go (inl n) true is = inr (record {
        at = 0;
        row = r;
        within = omega arith;
        is = refl;
        fits = is;
        behind = n.none;
        last = ap (λ o. option_or o (cond (applies r) (Some (shown r)) None)) n.last ∙ ap (λ b. cond b (Some (shown r)) None) is;
      })
      go (inl n) false is = inl (record {
        none = ap (λ b. b || list_any applies rs) is ∙ n.none;
        last = ap (λ o. option_or o (cond (applies r) (Some (shown r)) None)) n.last ∙ ap (λ b. cond b (Some (shown r)) None) is;
      })

  -- no row applies where none of the list does
  out : (rs : List Ruled) (k : ℕ) (s : Ruled) → k < length rs → s ≡ get_or rs k s → list_any applies rs ≡ false → applies s ≡ true → ⊥
  out [] k s within is none fits = omega (arith, within)
  out (r ∷ rs) zero s within is none fits =
      let bad : true ≡ false = sym (ap (λ b. b || list_any applies rs) (sym (ap applies is) ∙ fits)) ∙ none in cc
  out (r ∷ rs) (suc k) s within is none fits = out rs k s (omega (arith, within)) is (or-right (applies r) none) fits
    where
      or-right : (b : Bool) → (b || list_any applies rs) ≡ false → list_any applies rs ≡ false
      or-right true e = cc
      or-right false e = e

  past : (rs : List Ruled) (i k : ℕ) (s : Ruled) → i ≤ k → k < length rs → s ≡ get_or rs k s → list_any applies (drop i rs) ≡ false →
      applies s ≡ true → ⊥
  past rs zero k s order within is none fits = out rs k s within is none fits
  past [] (suc i) k s order within is none fits = omega (arith, within)
  past (r ∷ rs) (suc i) zero s order within is none fits = omega (arith, order)
  past (r ∷ rs) (suc i) (suc k) s order within is none fits =
      past rs i k s (omega (arith, order)) (omega (arith, within)) is none fits

  -- ---- Rows that agree

  covered-applies : (rs : List Ruled) (a : Lined) → fits_where met c x a ≡ true → is_covered_by (all_shown rs) a ≡ true →
      list_any applies rs ≡ true
  covered-applies [] a fits e = e
  covered-applies (r ∷ rs) a fits e =
      go (λ there. covered-applies rs a fits there) (or_cases (covers_where (lined_of (shown r)) a) (is_covered_by (all_shown rs) a) e)
    where
      last-true : (b : Bool) → (b || true) ≡ true
      last-true true = refl
      last-true false = refl

      go : (is_covered_by (all_shown rs) a ≡ true → list_any applies rs ≡ true) →
          (covers_where (lined_of (shown r)) a ≡ true) ⊎ (is_covered_by (all_shown rs) a ≡ true) → list_any applies (r ∷ rs) ≡ true
      go rest (inl here) = ap (λ b. b || list_any applies rs) ((simple-sound met c x).covers (lined_of (shown r)) a here fits)
      go rest (inr there) = ap (λ b. applies r || b) (rest there) ∙ last-true (applies r)

  not-covered : (rs ss : List Ruled) (a : Lined) → fits_where met c x a ≡ true → list_any applies rs ≡ false →
      list_any applies ss ≡ false → is_covered_by_either (all_shown rs) (all_shown ss) a ≡ true → ⊥
  not-covered rs ss a fits own its e = go (or_cases (is_covered_by (all_shown rs) a) (is_covered_by (all_shown ss) a) e)
    where
      go : (is_covered_by (all_shown rs) a ≡ true) ⊎ (is_covered_by (all_shown ss) a ≡ true) → ⊥
      go (inl there) = let bad : true ≡ false = sym (covered-applies rs a fits there) ∙ own in cc
      go (inr there) = let bad : true ≡ false = sym (covered-applies ss a fits there) ∙ its in cc

  pair-same : (r s : Ruled) (ls ms : List Ruled) → applies r ≡ true → applies s ≡ true → list_any applies ls ≡ false →
      list_any applies ms ≡ false → pair_agrees (shown r) (all_shown ls) (shown s) (all_shown ms) ≡ true → r.answer ≡ s.answer
  pair-same r s ls ms own its later more e =
      go (or_cases (same_answer r.answer s.answer) ((is_covered_by_either (all_shown ls) (all_shown ms) (lined_of (shown r))
      || is_covered_by_either (all_shown ls) (all_shown ms) (lined_of (shown s))) || disjoint_simply (shown r).atom (shown s).atom) e)
    where
      cover : (is_covered_by_either (all_shown ls) (all_shown ms) (lined_of (shown r)) ≡ true)
          ⊎ (is_covered_by_either (all_shown ls) (all_shown ms) (lined_of (shown s)) ≡ true) → ⊥
      cover (inl there) = not-covered ls ms (lined_of (shown r)) own later more there
      cover (inr there) = not-covered ls ms (lined_of (shown s)) its later more there

      apart : ((is_covered_by_either (all_shown ls) (all_shown ms) (lined_of (shown r))
          || is_covered_by_either (all_shown ls) (all_shown ms) (lined_of (shown s))) ≡ true)
          ⊎ (disjoint_simply (shown r).atom (shown s).atom ≡ true) → ⊥
      apart (inl there) =
          cover (or_cases (is_covered_by_either (all_shown ls) (all_shown ms) (lined_of (shown r)))
          (is_covered_by_either (all_shown ls) (all_shown ms) (lined_of (shown s))) there)
      apart (inr none) =
          let no = (simple-sound met c x).disjoint (lined_of (shown r)) (lined_of (shown s)) none own in
          let bad : true ≡ false = sym its ∙ no in cc

      go : (same_answer r.answer s.answer ≡ true) ⊎ (((is_covered_by_either (all_shown ls) (all_shown ms) (lined_of (shown r))
          || is_covered_by_either (all_shown ls) (all_shown ms) (lined_of (shown s)))
          || disjoint_simply (shown r).atom (shown s).atom) ≡ true) → r.answer ≡ s.answer
      go (inl same) = answer_same r.answer s.answer same
      go (inr none) =
          absurd (apart (or_cases (is_covered_by_either (all_shown ls) (all_shown ms) (lined_of (shown r))
          || is_covered_by_either (all_shown ls) (all_shown ms) (lined_of (shown s))) (disjoint_simply (shown r).atom (shown s).atom)
          none))

-- ---- Pairs that agree

last-or : (a b : Bool) → (a || (b || true)) ≡ true
last-or true b = refl
last-or false true = refl
last-or false false = refl

pub apart-agrees : (d : Decider) (later : List Decider) (e : Decider) (more : List Decider) → disjoint_simply d.atom e.atom ≡ true →
    pair_agrees d later e more ≡ true
apart-agrees d later e more apart =
    ap (λ v. same_answer d.answer e.answer || ((is_covered_by_either later more (lined_of d)
    || is_covered_by_either later more (lined_of e)) || v)) apart
    ∙ last-or (same_answer d.answer e.answer) (is_covered_by_either later more (lined_of d)
    || is_covered_by_either later more (lined_of e))

-- one row more of the second list
pub agrees-more : (rs ss : List Ruled) (at from n : ℕ) (own other : Ruled) → at < length rs → own ≡ get_or rs at own → n < length ss →
    other ≡ get_or ss n other →
    pair_agrees (shown own) (all_shown (drop (at + 1) rs)) (shown other) (all_shown (drop (n + 1) ss)) ≡ true →
    AgreesFrom rs ss at from n → AgreesFrom rs ss at from (n + 1)
agrees-more rs ss at from n own other in_rs is in_ss also agrees so_far j order less r s here there = go (cases_lt j n)
  where
    go : (j < n) ⊎ (n ≤ j) →
        pair_agrees (shown r) (all_shown (drop (at + 1) rs)) (shown s) (all_shown (drop (j + 1) ss)) ≡ true
    go (inl before) = so_far j order before r s here there
    go (inr more) =
        let same : j ≡ n = omega (arith, more, less) in
        let row : r ≡ own = here ∙ get_or_default rs at r own in_rs ∙ sym is in
        let beside : s ≡ other =
        there ∙ ap (λ k. get_or ss k s) same ∙ get_or_default ss n s other in_ss ∙ sym also in
        ap (λ (y : Ruled). pair_agrees (shown y) (all_shown (drop (at + 1) rs)) (shown s) (all_shown (drop (j + 1) ss))) row
        ∙ ap (λ (y : Ruled). pair_agrees (shown own) (all_shown (drop (at + 1) rs)) (shown y) (all_shown (drop (j + 1) ss))) beside
        ∙ ap (λ k. pair_agrees (shown own) (all_shown (drop (at + 1) rs)) (shown other) (all_shown (drop (k + 1) ss))) same
        ∙ agrees

-- ---- A row that one behind all others covers

or-true : (b : Bool) → (b || true) ≡ true
or-true true = refl
or-true false = refl

covered-earlier : (rs : List Ruled) (a : Lined) (i k : ℕ) → i ≤ k → is_covered_by (all_shown (drop k rs)) a ≡ true →
    is_covered_by (all_shown (drop i rs)) a ≡ true
covered-earlier rs a zero zero order e = e
covered-earlier [] a zero (suc k) order e = e
covered-earlier (r ∷ rs) a zero (suc k) order e =
    ap (λ b. covers_where (lined_of (shown r)) a || b) (covered-earlier rs a zero k (omega arith) e)
    ∙ or-true (covers_where (lined_of (shown r)) a)
covered-earlier rs a (suc i) zero order e = absurd (omega (arith, order))
covered-earlier [] a (suc i) (suc k) order e = e
covered-earlier (r ∷ rs) a (suc i) (suc k) order e = covered-earlier rs a i k (omega (arith, order)) e

either-earlier : (ds : List Decider) (rs : List Ruled) (a : Lined) (i k : ℕ) → i ≤ k →
    is_covered_by_either ds (all_shown (drop k rs)) a ≡ true → is_covered_by_either ds (all_shown (drop i rs)) a ≡ true
either-earlier ds rs a i k order e = go (or_cases (is_covered_by ds a) (is_covered_by (all_shown (drop k rs)) a) e)
  where
    go : (is_covered_by ds a ≡ true) ⊎ (is_covered_by (all_shown (drop k rs)) a ≡ true) →
        is_covered_by_either ds (all_shown (drop i rs)) a ≡ true
    go (inl here) = ap (λ b. b || is_covered_by (all_shown (drop i rs)) a) here
    go (inr there) = ap (λ b. is_covered_by ds a || b) (covered-earlier rs a i k order there) ∙ or-true (is_covered_by ds a)

covered-agrees : (d : Decider) (later : List Decider) (e : Decider) (more : List Decider) →
    is_covered_by_either later more (lined_of d) ≡ true → pair_agrees d later e more ≡ true
covered-agrees d later e more covered =
    ap (λ v. same_answer d.answer e.answer
    || ((v || is_covered_by_either later more (lined_of e)) || disjoint_simply d.atom e.atom)) covered
    ∙ or-true (same_answer d.answer e.answer)

agrees-behind : (rs ss : List Ruled) (at end : ℕ) (own : Ruled) → at < length rs → own ≡ get_or rs at own →
    is_covered_by_either (all_shown (drop (at + 1) rs)) (all_shown (drop end ss)) (lined_of (shown own)) ≡ true →
    AgreesFrom rs ss at 0 end
agrees-behind rs ss at end own in_rs is covered j order less r s here there =
    let later : List Decider = all_shown (drop (at + 1) rs) in
    let row : r ≡ own = here ∙ get_or_default rs at r own in_rs ∙ sym is in
    ap (λ (y : Ruled). pair_agrees (shown y) later (shown s) (all_shown (drop (j + 1) ss))) row
    ∙ covered-agrees (shown own) later (shown s) (all_shown (drop (j + 1) ss))
    (either-earlier later ss (lined_of (shown own)) (j + 1) end (omega (arith, less)) covered)

pub agrees-with-all : (rs ss : List Ruled) (at end : ℕ) (own : Ruled) → at < length rs → own ≡ get_or rs at own →
    is_covered_by_either (all_shown (drop (at + 1) rs)) (all_shown ss) (lined_of (shown own)) ≡ true →
    is_covered_by_either (all_shown (drop (at + 1) rs)) (all_shown (drop end ss)) (lined_of (shown own)) ≡ true →
    AgreesWithAll rs ss at end
agrees-with-all rs ss at end own in_rs is some behind = record {
  covered = λ r here.
      ap (λ (y : Ruled). is_covered_by_either (all_shown (drop (at + 1) rs)) (all_shown ss) (lined_of (shown y)))
      (here ∙ get_or_default rs at r own in_rs ∙ sym is) ∙ some;
  pairs = agrees-behind rs ss at end own in_rs is behind;
}

-- one row more of the first list
pub each-more : (rs ss : List Ruled) (front end n : ℕ) → Agrees rs ss n front end →
    ((i : ℕ) → i < n → Agrees rs ss i front end) → (i : ℕ) → i < n + 1 → Agrees rs ss i front end
each-more rs ss front end n one so_far i less = go (cases_lt i n)
  where
    go : (i < n) ⊎ (n ≤ i) → Agrees rs ss i front end
    go (inl before) = so_far i before
    go (inr more) =
        let same : n ≡ i = omega (arith, more, less) in subst (λ k. Agrees rs ss k front end) same one

-- ---- Common rows

-- the rulings at the front and at the back are the same, by their indices
pub record AreEnds (rs ss : List Ruled) (front old_end new_end : ℕ) : Type 0 where
  pub old : (front ≤ old_end) × (old_end ≤ length rs)
  pub new : (front ≤ new_end) × (new_end ≤ length ss)
  pub long : length rs - old_end ≡ length ss - new_end
  pub firsts : (i : ℕ) (r s : Ruled) → i < front → r ≡ get_or rs i r → s ≡ get_or ss i s → ruling_of r ≡ ruling_of s
  pub lasts : (i : ℕ) (r s : Ruled) → i < length rs - old_end → r ≡ get_or rs (old_end + i) r → s ≡ get_or ss (new_end + i) s →
      ruling_of r ≡ ruling_of s

module _ (met : Choice) (c x : List ℕ) (rs ss : List Ruled) (front old_end new_end : ℕ) (ends : AreEnds rs ss front old_end new_end)
    (all : AllAgree rs ss front old_end new_end) where
  abbrev fits : Ruled → Bool
  fits r = applies met c x r

  same-fits : (r s : Ruled) → ruling_of r ≡ ruling_of s → fits r ≡ true → fits s ≡ true
  same-fits r s e own = ap (λ (k : Ruling Lined (Option Tags)). fits_where met c x k.atom) (sym e) ∙ own

  same-answers : (r s : Ruled) → ruling_of r ≡ ruling_of s → r.answer ≡ s.answer
  same-answers r s e = ap (λ (k : Ruling Lined (Option Tags)). k.answer) e

  old-alone : Found met c x rs → NotFound met c x ss → ⊥
  old-alone f n = first (cases_lt f.at front)
    where
      last : (f.at < old_end) ⊎ (old_end ≤ f.at) → (front ≤ f.at) → ⊥
      last (inl less) not =
          not-covered met c x (drop (f.at + 1) rs) ss (lined_of (shown f.row)) f.fits f.behind n.none
          (((all.each f.at less).all (omega (arith, not))).covered f.row f.is)
      last (inr more) not =
          let i : ℕ = f.at - old_end in
          let within : new_end + i < length ss = omega (arith, more, f.within, ends.old.1, ends.new.1, ends.long) in
          let k : old_end + i ≡ f.at = omega (arith, more) in
          let s = row-at ss (new_end + i) within in
          out met c x ss (new_end + i) s.0 within s.1 n.none
          (same-fits f.row s.0 (ends.lasts i f.row s.0 (omega (arith, more, f.within))
          (f.is ∙ ap (λ j. get_or rs j f.row) (sym k)) s.1) f.fits)

      first : (f.at < front) ⊎ (front ≤ f.at) → ⊥
      first (inl less) =
          let within : f.at < length ss = omega (arith, less, ends.new.0, ends.new.1) in
          let s = row-at ss f.at within in
          out met c x ss f.at s.0 within s.1 n.none (same-fits f.row s.0 (ends.firsts f.at f.row s.0 less f.is s.1) f.fits)
      first (inr not) = last (cases_lt f.at old_end) not

  new-alone : NotFound met c x rs → Found met c x ss → ⊥
  new-alone n g = first (cases_lt g.at front)
    where
      last : (g.at < new_end) ⊎ (new_end ≤ g.at) → (front ≤ g.at) → ⊥
      last (inl less) not =
          not-covered met c x rs (drop (g.at + 1) ss) (lined_of (shown g.row)) g.fits n.none g.behind
          (all.none g.at (omega (arith, not)) less g.row g.is)
      last (inr more) not =
          let i : ℕ = g.at - new_end in
          let within : old_end + i < length rs = omega (arith, more, g.within, ends.old.1, ends.new.1, ends.long) in
          let k : new_end + i ≡ g.at = omega (arith, more) in
          let r = row-at rs (old_end + i) within in
          out met c x rs (old_end + i) r.0 within r.1 n.none
          (same-fits g.row r.0 (sym (ends.lasts i r.0 g.row (omega (arith, within, ends.old.1)) r.1
          (g.is ∙ ap (λ j. get_or ss j g.row) (sym k)))) g.fits)

      first : (g.at < front) ⊎ (front ≤ g.at) → ⊥
      first (inl less) =
          let within : g.at < length rs = omega (arith, less, ends.old.0, ends.old.1) in
          let r = row-at rs g.at within in
          out met c x rs g.at r.0 within r.1 n.none (same-fits g.row r.0 (sym (ends.firsts g.at r.0 g.row less r.1 g.is)) g.fits)
      first (inr not) = last (cases_lt g.at new_end) not

  -- a row that both have at the back answers for both
  both-last : (f : Found met c x rs) (g : Found met c x ss) (i : ℕ) → f.at ≡ old_end + i → f.row.answer ≡ g.row.answer
  both-last f g i at = go (cases_lt g.at (new_end + i))
    where
      within : new_end + i < length ss
      within = omega (arith, at, f.within, ends.old.1, ends.new.1, ends.long)

      own : (s : Ruled) → s ≡ get_or ss (new_end + i) s → ruling_of f.row ≡ ruling_of s
      own s is = ends.lasts i f.row s (omega (arith, at, f.within)) (f.is ∙ ap (λ j. get_or rs j f.row) at) is

      further : (k : ℕ) → g.at ≡ new_end + k → i ≤ k → (i < k) ⊎ (k ≤ i) → f.row.answer ≡ g.row.answer
      further k its order (inl less) =
          let in_old : old_end + k < length rs = omega (arith, its, g.within, ends.old.1, ends.new.1, ends.long) in
          let r = row-at rs (old_end + k) in_old in
          absurd (past met c x rs (f.at + 1) (old_end + k) r.0 (omega (arith, at, less)) in_old r.1 f.behind
          (same-fits g.row r.0 (sym (ends.lasts k r.0 g.row (omega (arith, in_old, ends.old.1)) r.1
          (g.is ∙ ap (λ j. get_or ss j g.row) its))) g.fits))
      further k its order (inr not) =
          let same : k ≡ i = omega (arith, order, not) in
          same-answers f.row g.row (own g.row (g.is ∙ ap (λ j. get_or ss j g.row) (its ∙ ap (λ j. new_end + j) same)))

      go : (g.at < new_end + i) ⊎ (new_end + i ≤ g.at) → f.row.answer ≡ g.row.answer
      go (inl less) =
          let s = row-at ss (new_end + i) within in
          absurd (past met c x ss (g.at + 1) (new_end + i) s.0 (omega (arith, less)) within s.1 g.behind
          (same-fits f.row s.0 (own s.0 s.1) f.fits))
      go (inr not) =
          further (g.at - new_end) (omega (arith, not)) (omega (arith, not)) (cases_lt i (g.at - new_end))

  -- if the new policy's row is one at the back, so is the old one's
  new-last : (f : Found met c x rs) (g : Found met c x ss) (i : ℕ) → g.at ≡ new_end + i → f.at < old_end → ⊥
  new-last f g i its less =
      let within : old_end + i < length rs = omega (arith, its, g.within, ends.old.1, ends.new.1, ends.long) in
      let r = row-at rs (old_end + i) within in
      past met c x rs (f.at + 1) (old_end + i) r.0 (omega (arith, less)) within r.1 f.behind
      (same-fits g.row r.0 (sym (ends.lasts i r.0 g.row (omega (arith, within, ends.old.1)) r.1
      (g.is ∙ ap (λ j. get_or ss j g.row) its))) g.fits)

  -- or both are common ones at the front
  both-first : (f : Found met c x rs) (g : Found met c x ss) → f.at < front → g.at < front → f.row.answer ≡ g.row.answer
  both-first f g own its = go (cases_lt f.at g.at) (cases_lt g.at f.at)
    where
      go : (f.at < g.at) ⊎ (g.at ≤ f.at) → (g.at < f.at) ⊎ (f.at ≤ g.at) → f.row.answer ≡ g.row.answer
      go (inl less) more =
          let within : g.at < length rs = omega (arith, its, ends.old.0, ends.old.1) in
          let r = row-at rs g.at within in
          absurd (past met c x rs (f.at + 1) g.at r.0 (omega (arith, less)) within r.1 f.behind
          (same-fits g.row r.0 (sym (ends.firsts g.at r.0 g.row its r.1 g.is)) g.fits))
      go (inr not) (inl less) =
          let within : f.at < length ss = omega (arith, own, ends.new.0, ends.new.1) in
          let s = row-at ss f.at within in
          absurd (past met c x ss (g.at + 1) f.at s.0 (omega (arith, less)) within s.1 g.behind
          (same-fits f.row s.0 (ends.firsts f.at f.row s.0 own f.is s.1) f.fits))
      go (inr not) (inr nor) =
          let same : g.at ≡ f.at = omega (arith, not, nor) in
          same-answers f.row g.row
          (ends.firsts f.at f.row g.row own f.is (g.is ∙ ap (λ j. get_or ss j g.row) same))

  both-agree : (f : Found met c x rs) (g : Found met c x ss) → f.row.answer ≡ g.row.answer
  both-agree f g = go (cases_lt f.at old_end) (cases_lt g.at new_end) (cases_lt f.at front) (cases_lt g.at front)
    where
      paired : pair_agrees (shown f.row) (all_shown (drop (f.at + 1) rs)) (shown g.row) (all_shown (drop (g.at + 1) ss)) ≡ true →
          f.row.answer ≡ g.row.answer
      paired e = pair-same met c x f.row g.row (drop (f.at + 1) rs) (drop (g.at + 1) ss) f.fits g.fits f.behind g.behind e

      go : (f.at < old_end) ⊎ (old_end ≤ f.at) → (g.at < new_end) ⊎ (new_end ≤ g.at) →
          (f.at < front) ⊎ (front ≤ f.at) → (g.at < front) ⊎ (front ≤ g.at) → f.row.answer ≡ g.row.answer
      go (inr behind) its first second = both-last f g (f.at - old_end) (omega (arith, behind))
      go (inl own) (inr behind) first second = absurd (new-last f g (g.at - new_end) (omega (arith, behind)) own)
      go (inl own) (inl its) (inl first) (inl second) = both-first f g first second
      go (inl own) (inl its) (inl first) (inr second) =
          paired ((all.each f.at own).pairs g.at (omega (arith, second)) its f.row g.row f.is g.is)
      go (inl own) (inl its) (inr first) second =
          paired (((all.each f.at own).all (omega (arith, first))).pairs g.at (omega arith) its f.row g.row f.is g.is)

  agreed : said (verdict_among met (all_shown rs) c x) ≡ said (verdict_among met (all_shown ss) c x)
  agreed = go (answering met c x rs) (answering met c x ss)
    where
      go : NotFound met c x rs ⊎ Found met c x rs → NotFound met c x ss ⊎ Found met c x ss →
          said (verdict_among met (all_shown rs) c x) ≡ said (verdict_among met (all_shown ss) c x)
      go (inl n) (inl o) = ap (λ d. said (answered_if_any d)) n.last ∙ sym (ap (λ d. said (answered_if_any d)) o.last)
      go (inl n) (inr g) = absurd (new-alone n g)
      go (inr f) (inl n) = absurd (old-alone f n)
      go (inr f) (inr g) =
          ap (λ d. said (answered_if_any d)) f.last ∙ said-answered f.row.place f.row.answer
          ∙ ap (λ a. Some a) (both-agree f g)
          ∙ sym (ap (λ d. said (answered_if_any d)) g.last ∙ said-answered g.row.place g.row.answer)

pub all-same : (rs ss : List Ruled) (front old_end new_end : ℕ) → AreEnds rs ss front old_end new_end →
    AllAgree rs ss front old_end new_end → RowsSaySame (all_shown rs) (all_shown ss)
all-same rs ss front old_end new_end ends all met c x = agreed met c x rs ss front old_end new_end ends all

-- ---- The ends, by the numbers of rows that are the same

-- the ruling at an index, of rows whose rulings are the same
rulings-at : (rs ss : List Ruled) (i : ℕ) (r s : Ruled) → i < length rs → i < length ss → r ≡ get_or rs i r → s ≡ get_or ss i s →
    map ruling_of rs ≡ map ruling_of ss → ruling_of r ≡ ruling_of s
rulings-at [] ss i r s own its is also same = absurd (omega (arith, own))
rulings-at (a ∷ rs) [] i r s own its is also same = absurd (omega (arith, its))
rulings-at (a ∷ rs) (b ∷ ss) zero r s own its is also same =
    ap ruling_of is ∙ ap (λ (ks : List (Ruling Lined (Option Tags))). get_or ks 0 (ruling_of a)) same ∙ sym (ap ruling_of also)
rulings-at (a ∷ rs) (b ∷ ss) (suc i) r s own its is also same =
    rulings-at rs ss i r s (omega (arith, own)) (omega (arith, its)) is also
    (ap (λ (ks : List (Ruling Lined (Option Tags))). drop 1 ks) same)

pub ends-of : (old new : List Ruled) (front back : ℕ) → front ≤ length old → front ≤ length new → back ≤ length old - front →
    back ≤ length new - front → map ruling_of (take front old) ≡ map ruling_of (take front new) →
    map ruling_of (drop (length (drop front old) - back) (drop front old))
    ≡ map ruling_of (drop (length (drop front new) - back) (drop front new)) →
    AreEnds old new front (length old - back) (length new - back)
ends-of old new front back in_old in_new back_old back_new first last = record {
  old = (omega (arith, in_old, back_old), omega arith);
  new = (omega (arith, in_new, back_new), omega arith);
  long = omega (arith, in_old, in_new, back_old, back_new);
  firsts = λ i r s less is also.
      rulings-at (take front old) (take front new) i r s (omega (arith, less, length-take-le front old in_old))
      (omega (arith, less, length-take-le front new in_new)) (is ∙ sym (get_or-take front old i r less))
      (also ∙ sym (get_or-take front new i s less)) first;
  lasts = λ i r s less is also.
      rulings-at (tail old) (tail new) i r s (omega (arith, less, tail-long old in_old back_old, in_old, back_old))
      (omega (arith, less, tail-long new in_new back_new, in_old, back_old)) (is ∙ tail-at old i r in_old back_old)
      (also ∙ tail-at new i s in_new back_new) last;
}
  where
    tail : List Ruled → List Ruled
    tail rs = drop (length (drop front rs) - back) (drop front rs)

    tail-long : (rs : List Ruled) → front ≤ length rs → back ≤ length rs - front → length (tail rs) ≡ back
    tail-long rs within less =
        let rest = length-drop front rs in
        let all = length-drop (length (drop front rs) - back) (drop front rs) in
        omega (arith, rest, all, within, less)

    tail-at : (rs : List Ruled) (i : ℕ) (r : Ruled) → front ≤ length rs → back ≤ length rs - front →
        get_or rs (length rs - back + i) r ≡ get_or (tail rs) i r
    tail-at rs i r within less =
        let rest = length-drop front rs in
        let at : length rs - back + i ≡ front + (length (drop front rs) - back + i) = omega (arith, rest, within, less) in
        ap (λ n. get_or rs n r) at
        ∙ sym (get_or-drop front rs (length (drop front rs) - back + i) r)
        ∙ sym (get_or-drop (length (drop front rs) - back) (drop front rs) i r)

-- rows that agree between the ends say the same
pub same-by : (rs ss old new : List Ruled) (first front old_end new_end back : ℕ) → rs ≡ old → ss ≡ new → first ≡ front →
    old_end ≡ length old - back → new_end ≡ length new - back → AreEnds old new front (length old - back) (length new - back) →
    AllAgree rs ss first old_end new_end → RowsSaySame (all_shown old) (all_shown new)
same-by rs ss old new first front old_end new_end back own its at ends_old ends_new ends all =
    all-same old new front (length old - back) (length new - back) ends
    (subst (λ n. AllAgree old new front (length old - back) n) ends_new
    (subst (λ n. AllAgree old new front n new_end) ends_old
    (subst (λ n. AllAgree old new n old_end new_end) at
    (subst (λ (xs : List Ruled). AllAgree old xs first old_end new_end) its
    (subst (λ (xs : List Ruled). AllAgree xs ss first old_end new_end) own all)))))
