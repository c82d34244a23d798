-- The rows of the comparison for a user on a host.
use Rattle.std.proofs.Common.{◌≡◌, ◌<◌, ◌+◌, ◌∙◌, ◌⊎◌, inl, inr, ℕ, zero, suc, true, ◌&&◌, List, [], ◌∷◌, ◌++◌}
use Rattle.std.proofs.Common.{ap, arith, refl, sym, subst, get_or, length, length-append, take, Option, None, Some}
use Rattle.std.specs.Prelude.{◌==◌, slice_index_or}
use Rattle.std.specs.List.{list_any}
use Rattle.std.proofs.lemmas.Bool.{and_from, and_parts, eqb-true, or_left, or_right}
use Rattle.std.proofs.lemmas.List.{get_or_append_left, get_or_push}
use Rattle.std.proofs.lemmas.Map.Views.{Contains-from_any}
use Rattle.sudo_verdict.specs.Questions.{Question}
use Rattle.review_grants.proofs.ListSteps.{take-more}
use Rattle.review_compare.specs.declared.ask_class.AskClass.{AskClass}
use Rattle.review_compare.specs.declared.ask_class.AskedWith.{AskedWith}
use Rattle.review_compare.specs.declared.cell.Ask.{Ask}
use Rattle.review_compare.specs.declared.cell.AskedGroups.{AskedGroups}
use Rattle.review_compare.specs.declared.cell.Cell.{Cell}
use Rattle.review_compare.specs.declared.compared.Compared.{Compared}
use Rattle.review_compare.specs.declared.compared.Compared.TheVariants as compared
use Rattle.review_compare.specs.declared.pair.Pair.{Pair}
use Rattle.review_compare.specs.declared.row.Row.{Row}
use Rattle.review_compare.specs.declared.spot.Spot.{Spot}
use Rattle.review_compare.specs.Cells.{Decider, deciders}
use Rattle.review_compare.specs.Differences.{Asking, Finds, FoundIf, IsDone, IsFound, SameIf, has_cell, question_at, same_number}
use Rattle.review_compare.specs.Differences.{targets_of}
use Rattle.review_compare.specs.Witnesses.{IsCompared}
use Rattle.review_compare.specs.Body.AskClasses.{AreAsked, IsAskClass, IsAskedWith, changed_by, kept_new, kept_old, on_new}
use Rattle.review_compare.specs.Body.AskClasses.{on_old}
use Rattle.review_compare.specs.Body.Comparisons.{IsCopy}
use Rattle.review_compare.specs.Body.Classes.{AreRightIn, IsFoundAt, IsRightIn}
use Rattle.review_compare.specs.Body.Near.{IsFoundNear}
use Rattle.review_compare.specs.Body.Merged.{Absorbs, AddsFound, AreMerged, AreOrdered, IsOnAmong, IsOrdered, IsRowOf, has_target, is_among}
use Rattle.review_compare.specs.Body.Progress.{IsSpot, Progress, asking, question_of}
use Rattle.review_compare.proofs.AskLemmas.{asked-cases, asked-first, asked-last}
use Rattle.review_compare.proofs.ClassLemmas.{asked-here, or-false, same-self, single}
use Rattle.review_compare.proofs.DifferenceLemmas.{all-added, nothing-added, numbers-same, same-number}
use Rattle.review_compare.proofs.NearLemmas.{found-all, found-kept, found-moved, near-twice, near_new, near_old, pair-kept}
use Rattle.review_compare.proofs.NearLemmas.{pair-kept-all, pair-near}
use Rattle.review_compare.proofs.UnchangedLemmas.{less-or}

-- ---- The cells of a row

contains-any : (q : Option ℕ) (ks : List (Option ℕ)) (k : ℕ) → k < length ks → slice_index_or ks k q ≡ q →
    list_any (same_number q) ks ≡ true
contains-any q [] k less is = absurd (omega (arith, less))
contains-any q (y ∷ ys) zero less is =
    or_left (same_number q y) (list_any (same_number q) ys) (ap (same_number q) is ∙ same-number q)
contains-any q (y ∷ ys) (suc k) less is =
    or_right (same_number q y) (list_any (same_number q) ys) (contains-any q ys k (omega (arith, less)) is)

module _ (asks : Asking) where
  one-of : (c : Cell) (groups : AskedGroups) → list_any (asks c.ask.target c.ask.group) (groups ∷ []) ≡ asks c.ask.target c.ask.group groups
  one-of c groups = or-false (asks c.ask.target c.ask.group groups)

  row-has : (user : ℕ) (hosts : List ℕ) (w : AskedWith) (f : Compared) (r : Row) → IsRowOf user hosts w f r → (c : Cell) →
      IsOnAmong user hosts (IsAskedWith asks w) c → has_cell asks r c ≡ true
  row-has user hosts w f r row c on =
      let own : list_any (λ u. u == c.user) r.users ≡ true =
      ap (list_any (λ u. u == c.user)) row.users ∙ single user c.user ∙ ap (λ n. n == c.user) (sym on.0) ∙ same-self c.user in
      let there : list_any (λ m. m == c.host) r.hosts ≡ true = ap (list_any (λ m. m == c.host)) row.hosts_are ∙ on.1 in
      let asked = on.2.1 in
      let targets : list_any (same_number c.ask.target) (targets_of r.targets) ≡ true =
      ap (λ ts. has_target ts c.ask.target) row.targets
      ∙ contains-any c.ask.target (targets_of w.targets.items) asked.0 asked.1 asked.2 in
      let groups : list_any (asks c.ask.target c.ask.group) r.groups ≡ true =
      ap (list_any (asks c.ask.target c.ask.group)) row.groups ∙ one-of c w.groups ∙ on.2.0 in
      and_from (list_any (λ u. u == c.user) r.users && list_any (λ m. m == c.host) r.hosts)
      (list_any (same_number c.ask.target) (targets_of r.targets) && list_any (asks c.ask.target c.ask.group) r.groups)
      (and_from (list_any (λ u. u == c.user) r.users) (list_any (λ m. m == c.host) r.hosts) own there)
      (and_from (list_any (same_number c.ask.target) (targets_of r.targets)) (list_any (asks c.ask.target c.ask.group) r.groups)
      targets groups)

  has-row : (user : ℕ) (hosts : List ℕ) (w : AskedWith) (f : Compared) (r : Row) → IsRowOf user hosts w f r → (c : Cell) →
      has_cell asks r c ≡ true → IsOnAmong user hosts (IsAskedWith asks w) c
  has-row user hosts w f r row c has =
      let both = and_parts (list_any (λ u. u == c.user) r.users && list_any (λ m. m == c.host) r.hosts)
      (list_any (same_number c.ask.target) (targets_of r.targets) && list_any (asks c.ask.target c.ask.group) r.groups) has in
      let spot = and_parts (list_any (λ u. u == c.user) r.users) (list_any (λ m. m == c.host) r.hosts) both.0 in
      let asked = and_parts (list_any (same_number c.ask.target) (targets_of r.targets))
      (list_any (asks c.ask.target c.ask.group) r.groups) both.1 in
      let user_is : (user == c.user) ≡ true = sym (single user c.user) ∙ ap (list_any (λ u. u == c.user)) (sym row.users) ∙ spot.0 in
      let group_is : asks c.ask.target c.ask.group w.groups ≡ true =
      sym (one-of c w.groups) ∙ ap (list_any (asks c.ask.target c.ask.group)) (sym row.groups) ∙ asked.1 in (
        sym (eqb-true user c.user user_is),
        ap (list_any (λ m. m == c.host)) (sym row.hosts_are) ∙ spot.1,
        (
          group_is,
          Contains-from_any numbers-same c.ask.target (targets_of w.targets.items)
              (ap (λ ts. has_target ts c.ask.target) (sym row.targets) ∙ asked.0),
        ),
      )

  -- a row of targets with their groups is absorbed
  pub adds-row : (old new : List Row) (user : ℕ) (hosts : List ℕ) (w : AskedWith) (f g : Compared) (r : Row) → IsRowOf user hosts w g r →
      IsCopy f g → Absorbs old r new → AddsFound asks old user hosts (IsAskedWith asks w) f new
  adds-row old new user hosts w f g r row copy absorbs = record {
    kept = absorbs.kept asks;
    added = λ c on. (r.found, absorbs.added asks c (row-has user hosts w g r row c on));
    only = λ c h e. go c h (absorbs.only asks c h e);
  }
    where
      go : (c : Cell) (h : Compared) → Finds asks old c h ⊎ ((has_cell asks r c ≡ true) × (r.found ≡ h)) →
          Finds asks old c h ⊎ (IsOnAmong user hosts (IsAskedWith asks w) c × IsCopy f h)
      go c h (inl e) = inl e
      go c h (inr here) =
          inr (has-row user hosts w g r row c here.0, subst (IsCopy f) here.1 (subst (IsCopy f) (sym row.found) copy))

  pub adds-none : (rows : List Row) (user : ℕ) (hosts : List ℕ) (f : Compared) →
      AddsFound asks rows user hosts (AreAsked asks []) f rows
  adds-none rows user hosts f = record {
    kept = λ c g e. e;
    added = λ c on. absurd on.2;
    only = λ c g e. inl e;
  }

  -- further targets with their groups
  pub adds-more : (old mid new : List Row) (user : ℕ) (hosts : List ℕ) (ws : List AskedWith) (k : ℕ) (w : AskedWith) (f : Compared) →
      k < length ws → w ≡ get_or ws k w → AddsFound asks old user hosts (AreAsked asks (take k ws)) f mid →
      AddsFound asks mid user hosts (IsAskedWith asks w) f new → AddsFound asks old user hosts (AreAsked asks (take (k + 1) ws)) f new
  adds-more old mid new user hosts ws k w f less is so_far one =
      subst (λ (vs : List AskedWith). AddsFound asks old user hosts (AreAsked asks vs) f new) (sym (take-more ws k w less is)) both
    where
      add : (c : Cell) → c.user ≡ user → is_among hosts c.host ≡ true → AreAsked asks (take k ws) c.ask ⊎ IsAskedWith asks w c.ask →
          (g : Compared) × Finds asks new c g
      add c u m (inl before) = let e = so_far.added c (u, m, before) in (e.0, one.kept c e.0 e.1)
      add c u m (inr here) = one.added c (u, m, here)

      from : (c : Cell) (g : Compared) → Finds asks old c g ⊎ (IsOnAmong user hosts (AreAsked asks (take k ws)) c × IsCopy f g) →
          Finds asks old c g ⊎ (IsOnAmong user hosts (AreAsked asks (take k ws ++ w ∷ [])) c × IsCopy f g)
      from c g (inl e) = inl e
      from c g (inr on) = inr ((on.0.0, on.0.1, asked-first asks (take k ws) w c.ask on.0.2), on.1)

      only : (c : Cell) (g : Compared) → Finds asks mid c g ⊎ (IsOnAmong user hosts (IsAskedWith asks w) c × IsCopy f g) →
          Finds asks old c g ⊎ (IsOnAmong user hosts (AreAsked asks (take k ws ++ w ∷ [])) c × IsCopy f g)
      only c g (inl e) = from c g (so_far.only c g e)
      only c g (inr on) = inr ((on.0.0, on.0.1, asked-last asks (take k ws) w c.ask on.0.2), on.1)

      both : AddsFound asks old user hosts (AreAsked asks (take k ws ++ w ∷ [])) f new
      both = record {
        kept = λ c g e. one.kept c g (so_far.kept c g e);
        added = λ c on. add c on.0 on.1 (asked-cases asks (take k ws) w c.ask on.2);
        only = λ c g e. only c g (one.only c g e);
      }

-- ---- A class of asks

-- the outcome for the blocks of a class is right for each of its asks
class-compared : (p : Pair) (s : Spot) (k : AskClass) (f : Compared) → IsAskClass p s.person.now k →
    IsCompared (on_old p s.machine.now k.allowing) (on_new p s.machine.now k.allowing) f → (a : Ask) → AreAsked (asking p) k.asked.items a →
    IsFoundNear (changed_by p) (deciders p.old.checked.now (question_of p s a)) (deciders p.new.checked.now (question_of p s a)) f
class-compared p s k f class is a asked =
    let q = question_of p s a in
    let decide = class a asked in
    let near = pair-near p q in
    let kept = found-kept (changed_by p) (near_old p q) (near_new p q) f
    (subst (λ (ds : List Decider). IsCompared ds (kept_new p q) f) (sym (decide.old s.machine.now))
    (subst (λ (es : List Decider). IsCompared (on_old p s.machine.now k.allowing) es f) (sym (decide.new s.machine.now)) is)) in
    found-moved (kept_old p q) (kept_new p q) (deciders p.old.checked.now q) (deciders p.new.checked.now q) (changed_by p)
    (kept_old p q) (kept_new p q) (pair-kept p q) (pair-kept-all p q) (near-twice (changed_by p) (near_old p q) ∙ sym near.0)
    (near-twice (changed_by p) (near_new p q) ∙ sym near.1) f kept

-- and so it is in each of its cells at the spot
pub class-right : (p : Pair) (s : Spot) (k : AskClass) (f : Compared) → IsSpot p s → IsAskClass p s.person.now k →
    IsCompared (on_old p s.machine.now k.allowing) (on_new p s.machine.now k.allowing) f →
    IsRightIn p s.user (s.host ∷ []) (AreAsked (asking p) k.asked.items) f
class-right p s k f at class is c on =
    let here : c.host ≡ s.host = sym (eqb-true s.host c.host (sym (single s.host c.host) ∙ on.1)) in
    subst (λ (o : Option Question). IsFoundAt p o f) (sym (asked-here p s c at on.0 here)) (class-compared p s k f class is c.ask on.2)

founds-push : (p : Pair) (user : ℕ) (hosts : List ℕ) (ks : List AskClass) (fs : List Compared) (k : AskClass) (f : Compared) →
    AreRightIn p user hosts ks fs → IsRightIn p user hosts (AreAsked (asking p) k.asked.items) f →
    AreRightIn p user hosts (ks ++ k ∷ []) (fs ++ f ∷ [])
founds-push p user hosts ks fs k f are is = (long, λ n d e less. go n d e (less-or n (length ks) (omega (arith, less, more))))
  where
    more : length (ks ++ k ∷ []) ≡ length ks + 1
    more = length-append ks (k ∷ [])

    long : length (fs ++ f ∷ []) ≡ length (ks ++ k ∷ [])
    long = length-append fs (f ∷ []) ∙ ap (λ (n : ℕ). n + 1) are.0 ∙ sym more

    go : (n : ℕ) (d : AskClass) (e : Compared) → (n < length ks) ⊎ (n ≡ length ks) →
        IsRightIn p user hosts (AreAsked (asking p) (get_or (ks ++ k ∷ []) n d).asked.items) (get_or (fs ++ f ∷ []) n e)
    go n d e (inl before) =
        subst (λ (j : AskClass). IsRightIn p user hosts (AreAsked (asking p) j.asked.items) (get_or (fs ++ f ∷ []) n e))
        (sym (get_or_append_left ks (k ∷ []) d n before))
        (subst (λ (g : Compared). IsRightIn p user hosts (AreAsked (asking p) (get_or ks n d).asked.items) g)
        (sym (get_or_append_left fs (f ∷ []) e n (omega (arith, before, are.0)))) (are.1 n d e before))
    go n d e (inr here) =
        subst (λ (j : AskClass). IsRightIn p user hosts (AreAsked (asking p) j.asked.items) (get_or (fs ++ f ∷ []) n e))
        (sym (get_or_push ks k d n (sym here)))
        (subst (λ (g : Compared). IsRightIn p user hosts (AreAsked (asking p) k.asked.items) g) (sym (get_or_push fs f e n
        (are.0 ∙ sym here))) is)

-- what is found for one class more
pub founds-more : (p : Pair) (user : ℕ) (hosts : List ℕ) (ks : List AskClass) (fs : List Compared) (n : ℕ) (k : AskClass)
    (f : Compared) → n < length ks → k ≡ get_or ks n k → AreRightIn p user hosts (take n ks) fs →
    IsRightIn p user hosts (AreAsked (asking p) k.asked.items) f → AreRightIn p user hosts (take (n + 1) ks) (fs ++ f ∷ [])
founds-more p user hosts ks fs n k f less is so_far one =
    subst (λ (js : List AskClass). AreRightIn p user hosts js (fs ++ f ∷ [])) (sym (take-more ks n k less is))
    (founds-push p user hosts (take n ks) fs k f so_far one)

pub founds-none : (p : Pair) (user : ℕ) (hosts : List ℕ) → AreRightIn p user hosts [] []
founds-none p user hosts = (refl, λ n d e less. absurd (omega (arith, less)))

copied-found : (p : Pair) (o : Option Question) (f g : Compared) → IsCopy f g → IsFoundAt p o f →
    FoundIf p.old.checked.now p.new.checked.now o g
copied-found p None f g copy is = tt
copied-found p (Some q) f g copy is =
    let ds = deciders p.old.checked.now q in
    let es = deciders p.new.checked.now q in
    copy ds es (found-all (changed_by p) ds es f is)

-- rows with what is found for a class
pub class-found : (p : Pair) (user : ℕ) (hosts : List ℕ) (asked : Ask → Type 0) (rows new : List Row) (f : Compared) →
    IsRightIn p user hosts asked f → AddsFound (asking p) rows user hosts asked f new → Progress p rows new (IsOnAmong user hosts asked)
class-found p user hosts asked rows new f is adds = record {
  kept = adds.kept;
  right = λ right c g e. go right c g (adds.only c g e);
  done = λ c on. inr (adds.added c on);
}
  where
    go : ((c : Cell) (g : Compared) → Finds (asking p) rows c g →
        IsFound p.old.checked.now p.new.checked.now p.directory.now p.groups.now c g) →
        (c : Cell) (g : Compared) → Finds (asking p) rows c g ⊎ (IsOnAmong user hosts asked c × IsCopy f g) →
        IsFound p.old.checked.now p.new.checked.now p.directory.now p.groups.now c g
    go right c g (inl e) = right c g e
    go right c g (inr on) = copied-found p (question_at p.directory.now p.groups.now c) f g on.1 (is c on.0)

found-same : (p : Pair) (o : Option Question) → IsFoundAt p o compared.Same →
    SameIf p.old.checked.now p.new.checked.now o
found-same p None is = tt
found-same p (Some q) is = is

pub class-same : (p : Pair) (user : ℕ) (hosts : List ℕ) (asked : Ask → Type 0) (rows : List Row) (f : Compared) →
    IsRightIn p user hosts asked f → f ≡ compared.Same → Progress p rows rows (IsOnAmong user hosts asked)
class-same p user hosts asked rows f is same = nothing-added p rows (IsOnAmong user hosts asked)
    (λ c on. found-same p (question_at p.directory.now p.groups.now c)
    (subst (λ (g : Compared). IsFoundAt p (question_at p.directory.now p.groups.now c) g) same (is c on)))

-- ---- Rows with their targets in order

ordered-has : (asks : Asking) (r s : Row) → IsOrdered r s → (c : Cell) → has_cell asks s c ≡ has_cell asks r c
ordered-has asks r s is c =
    ap (λ us. (list_any (λ u. u == c.user) us && list_any (λ m. m == c.host) s.hosts)
    && (list_any (same_number c.ask.target) (targets_of s.targets) && list_any (asks c.ask.target c.ask.group) s.groups)) is.users
    ∙ ap (λ b. (list_any (λ u. u == c.user) r.users && b)
    && (list_any (same_number c.ask.target) (targets_of s.targets) && list_any (asks c.ask.target c.ask.group) s.groups))
    (ap (list_any (λ m. m == c.host)) is.hosts)
    ∙ ap (λ b. (list_any (λ u. u == c.user) r.users && list_any (λ m. m == c.host) r.hosts)
    && (b && list_any (asks c.ask.target c.ask.group) s.groups)) (is.targets c.ask.target)
    ∙ ap (λ gs. (list_any (λ u. u == c.user) r.users && list_any (λ m. m == c.host) r.hosts)
    && (list_any (same_number c.ask.target) (targets_of r.targets) && list_any (asks c.ask.target c.ask.group) gs)) is.groups

finds-ordered : (asks : Asking) (rows os : List Row) → AreOrdered rows os → (c : Cell) (f : Compared) → Finds asks rows c f →
    Finds asks os c f
finds-ordered asks [] [] are c f e = e
finds-ordered asks [] (s ∷ os) are c f e = absurd are
finds-ordered asks (r ∷ rows) [] are c f e = absurd are
finds-ordered asks (r ∷ rows) (s ∷ os) are c f (inl here) = inl (ordered-has asks r s are.0 c ∙ here.0, (are.0).found ∙ here.1)
finds-ordered asks (r ∷ rows) (s ∷ os) are c f (inr more) = inr (finds-ordered asks rows os are.1 c f more)

ordered-finds : (asks : Asking) (rows os : List Row) → AreOrdered rows os → (c : Cell) (f : Compared) → Finds asks os c f →
    Finds asks rows c f
ordered-finds asks [] [] are c f e = e
ordered-finds asks [] (s ∷ os) are c f e = absurd are
ordered-finds asks (r ∷ rows) [] are c f e = absurd are
ordered-finds asks (r ∷ rows) (s ∷ os) are c f (inl here) = inl (sym (ordered-has asks r s are.0 c) ∙ here.0, sym (are.0).found ∙ here.1)
ordered-finds asks (r ∷ rows) (s ∷ os) are c f (inr more) = inr (ordered-finds asks rows os are.1 c f more)

pub ordered-done : (p : Pair) (rows os : List Row) (P : Cell → Type 0) → AreOrdered rows os → Progress p [] rows P → Progress p [] os P
ordered-done p rows os P are so_far = record {
  kept = λ c f e. absurd e;
  right = λ right c f e. so_far.right right c f (ordered-finds (asking p) rows os are c f e);
  done = λ c at. go c (so_far.done c at);
}
  where
    go : (c : Cell) → IsDone p.old.checked.now p.new.checked.now p.directory.now p.groups.now rows c →
        IsDone p.old.checked.now p.new.checked.now p.directory.now p.groups.now os c
    go c (inl same) = inl same
    go c (inr e) = inr (e.0, finds-ordered (asking p) rows os are c e.0 e.1)

-- rows of which some became one
pub merged-done : (p : Pair) (rows new : List Row) (P : Cell → Type 0) → AreMerged rows new → Progress p [] rows P → Progress p [] new P
merged-done p rows new P are so_far =
    all-added p [] are.ordered new P (ordered-done p rows are.ordered P are.are_ordered so_far) are.are_grouped

pub ordered-more : (rows os : List Row) (r s : Row) → AreOrdered rows os → IsOrdered r s → AreOrdered (rows ++ r ∷ []) (os ++ s ∷ [])
ordered-more [] [] r s are is = (is, tt)
ordered-more [] (t ∷ os) r s are is = absurd are
ordered-more (t ∷ rows) [] r s are is = absurd are
ordered-more (t ∷ rows) (v ∷ os) r s are is = (are.0, ordered-more rows os r s are.1 is)
