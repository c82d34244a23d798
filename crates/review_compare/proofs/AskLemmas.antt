-- Classes of asks: the asks that are in them, and the blocks that decide these.
use Rattle.std.proofs.Common.{◌≡◌, ◌<◌, ◌+◌, ◌∙◌, ◌⊎◌, inl, inr, ℕ, zero, suc, Bool, true, false, cond, List, [], ◌∷◌, ◌++◌, ap}
use Rattle.std.proofs.Common.{arith, refl, sym, subst, get_or, length, take, Option}
use Rattle.std.specs.Prelude.{filter, slice_set}
use Rattle.std.specs.List.{Contains, list_all}
use Rattle.std.proofs.lemmas.Bool.{and_from, and_parts}
use Rattle.std.proofs.lemmas.List.Elements.{Contains-append_left, Contains-push, Contains-push_cases}
use Rattle.sudo_grammar.specs.declared.policy.Policy.{Policy}
use Rattle.sudo_match.specs.declared.people.Group.{Group}
use Rattle.sudo_match.specs.declared.people.Machine.{Machine}
use Rattle.sudo_match.specs.declared.people.Person.{Person}
use Rattle.sudo_match.specs.KnownRows.{KnownRows}
use Rattle.sudo_verdict.specs.Questions.{Question, question_as}
use Rattle.review_grants.proofs.ListSteps.{take-more}
use Rattle.review_compare.specs.declared.ask_class.AskClass.{AskClass}
use Rattle.review_compare.specs.declared.ask_class.AskedWith.{AskedWith}
use Rattle.review_compare.specs.declared.block.Block.{Block}
use Rattle.review_compare.specs.declared.cell.Ask.{Ask}
use Rattle.review_compare.specs.declared.cell.AskedGroups.{AskedGroups}
use Rattle.review_compare.specs.declared.cell.AskedGroups.TheVariants as which
use Rattle.review_compare.specs.declared.cell.AskedTargets.TheVariants as who
use Rattle.review_compare.specs.Cells.{Decider}
use Rattle.review_compare.specs.declared.pair.Pair.{Pair}
use Rattle.review_compare.specs.declared.spot.Listed.{Listed}
use Rattle.review_compare.specs.Differences.{Asking, targets_of}
use Rattle.review_compare.specs.Body.AskClasses.{AddsAsked, AddsTarget, AreAsked, Decide, HaveAsk, HaveIn, IsAskClass, IsAskedFor}
use Rattle.review_compare.specs.Body.AskClasses.{IsAskedWith}
use Rattle.review_compare.specs.Body.Progress.{asking}
use Rattle.review_compare.specs.Body.Classes.{AreSameBlocks}
use Rattle.review_compare.specs.Body.Chosen.{HaveAllOf, chosen, deciders_at, host_at, runas_at, standing_among, user_at}
use Rattle.review_compare.specs.Body.Near.{each_one, near_deciders}
use Rattle.review_compare.proofs.ChosenLemmas.{no-host, stands-at}
use Rattle.review_compare.proofs.DifferenceLemmas.{numbers-same, same-number}
use Rattle.review_compare.proofs.UnchangedLemmas.{other-host-runas}

-- ---- The blocks that decide

module _ (p : Policy) (bs : List Block) (d : KnownRows) (u : Person) (first m : Machine) (t : Option Person) (g : Option Group) where
  -- of blocks that list the user, those answer that list the host and whose runas allows the ask
  stood : (is : List ℕ) → list_all (user_at p bs u) is ≡ true →
      standing_among p bs (question_as d u m t g) each_one is
      ≡ chosen bs (filter (host_at p bs m) (filter (runas_at p bs (question_as d u first t g)) is))
  stood [] all = refl
  stood (i ∷ is) all =
      let both = and_parts (user_at p bs u i) (list_all (user_at p bs u) is) all in
      by both.0 (host_at p bs m i) refl (runas_at p bs (question_as d u first t g) i) refl (stood is both.1)
    where
      q : Question
      q = question_as d u m t g

      r : Question
      r = question_as d u first t g

      on_host : List ℕ → List ℕ
      on_host js = filter (host_at p bs m) js

      by : user_at p bs u i ≡ true → (h : Bool) → host_at p bs m i ≡ h → (a : Bool) → runas_at p bs r i ≡ a →
          standing_among p bs q each_one is ≡ chosen bs (on_host (filter (runas_at p bs r) is)) →
          standing_among p bs q each_one (i ∷ is) ≡ chosen bs (on_host (filter (runas_at p bs r) (i ∷ is)))
      by user true host a runas rest =
          ap (λ (ds : List Decider). ds ++ standing_among p bs q each_one is)
          (stands-at p bs q i a (and_from (user_at p bs u i) (host_at p bs m i) user host)
          (other-host-runas p bs d u m first t g i ∙ runas))
          ∙ ap (λ (ds : List Decider). cond a (deciders_at bs i) [] ++ ds) rest
          ∙ sym (ap (λ v. chosen bs (on_host (cond v (i ∷ filter (runas_at p bs r) is) (filter (runas_at p bs r) is)))) runas ∙ kept a)
        where
          kept : (a : Bool) → chosen bs (on_host (cond a (i ∷ filter (runas_at p bs r) is) (filter (runas_at p bs r) is)))
              ≡ cond a (deciders_at bs i) [] ++ chosen bs (on_host (filter (runas_at p bs r) is))
          kept true =
              ap (λ v. chosen bs (cond v (i ∷ on_host (filter (runas_at p bs r) is)) (on_host (filter (runas_at p bs r) is)))) host
          kept false = refl
      by user false host a runas rest =
          ap (λ (ds : List Decider). ds ++ standing_among p bs q each_one is) (no-host p bs m q each_one i refl host)
          ∙ rest
          ∙ sym (ap (λ v. chosen bs (on_host (cond v (i ∷ filter (runas_at p bs r) is) (filter (runas_at p bs r) is)))) runas ∙ left a)
        where
          left : (a : Bool) → chosen bs (on_host (cond a (i ∷ filter (runas_at p bs r) is) (filter (runas_at p bs r) is)))
              ≡ chosen bs (on_host (filter (runas_at p bs r) is))
          left true =
              ap (λ v. chosen bs (cond v (i ∷ on_host (filter (runas_at p bs r) is)) (on_host (filter (runas_at p bs r) is)))) host
          left false = refl

  -- so do those of the near blocks
  pub near-stood : (near is : List ℕ) → HaveAllOf p bs near u is → list_all (user_at p bs u) is ≡ true →
      near_deciders p bs near (question_as d u m t g)
      ≡ chosen bs (filter (host_at p bs m) (filter (runas_at p bs (question_as d u first t g)) is))
  near-stood near is all each = sym (all (question_as d u m t g) each_one refl) ∙ stood is each

-- ---- The asks that are there

-- the targets at an index with a further one
module _ (target : Option ℕ) (groups : AskedGroups) (v : AskedWith) where
  abbrev IsWithTarget : AskedWith → Type 0
  IsWithTarget w = (w.groups ≡ groups) × (v.groups ≡ w.groups) × (targets_of v.targets.items ≡ targets_of w.targets.items ++ target ∷ [])

  with-kept : (w : AskedWith) → IsWithTarget w → (asks : Asking) (a : Ask) → IsAskedWith asks w a → IsAskedWith asks v a
  with-kept w adds asks a is = (
    ap (asks a.target a.group) adds.1 ∙ is.0,
    subst (λ (ts : List (Option ℕ)). Contains ts a.target) (sym adds.2)
        (Contains-append_left (targets_of w.targets.items) (target ∷ []) a.target is.1),
  )

  with-added : (w : AskedWith) → IsWithTarget w → (asks : Asking) (a : Ask) → IsAskedFor asks target groups a → IsAskedWith asks v a
  with-added w adds asks a is = (
    ap (asks a.target a.group) (adds.1 ∙ adds.0) ∙ is.1,
    subst (λ (t : Option ℕ). Contains (targets_of v.targets.items) t) is.0
        (subst (λ (ts : List (Option ℕ)). Contains ts target) (sym adds.2) (Contains-push (targets_of w.targets.items) target)),
  )

  with-only : (w : AskedWith) → IsWithTarget w → (asks : Asking) (a : Ask) → IsAskedWith asks v a →
      IsAskedWith asks w a ⊎ IsAskedFor asks target groups a
  with-only w adds asks a is =
      by (ap (asks a.target a.group) (sym adds.1) ∙ is.0) (Contains-push_cases (targets_of w.targets.items) target a.target
      (subst (λ (ts : List (Option ℕ)). Contains ts a.target) adds.2 is.1))
    where
      by : asks a.target a.group w.groups ≡ true → Contains (targets_of w.targets.items) a.target ⊎ (target ≡ a.target) →
          IsAskedWith asks w a ⊎ IsAskedFor asks target groups a
      by g (inl there) = inl (g, there)
      by g (inr t) = inr (t, ap (asks a.target a.group) (sym adds.0) ∙ g)

  set-kept : (ws : List AskedWith) (i : ℕ) (d : AskedWith) → i < length ws → IsWithTarget (get_or ws i d) → (asks : Asking) (a : Ask) →
      AreAsked asks ws a → AreAsked asks (slice_set ws i v) a
  set-kept [] i d less adds asks a e = absurd e
  set-kept (w ∷ ws) zero d less adds asks a (inl here) = inl (with-kept w adds asks a here)
  set-kept (w ∷ ws) zero d less adds asks a (inr more) = inr more
  set-kept (w ∷ ws) (suc i) d less adds asks a (inl here) = inl here
  set-kept (w ∷ ws) (suc i) d less adds asks a (inr more) = inr (set-kept ws i d (omega (arith, less)) adds asks a more)

  set-added : (ws : List AskedWith) (i : ℕ) (d : AskedWith) → i < length ws → IsWithTarget (get_or ws i d) → (asks : Asking) (a : Ask) →
      IsAskedFor asks target groups a → AreAsked asks (slice_set ws i v) a
  set-added [] i d less adds asks a is = absurd (omega (arith, less))
  set-added (w ∷ ws) zero d less adds asks a is = inl (with-added w adds asks a is)
  set-added (w ∷ ws) (suc i) d less adds asks a is = inr (set-added ws i d (omega (arith, less)) adds asks a is)

  set-only : (ws : List AskedWith) (i : ℕ) (d : AskedWith) → i < length ws → IsWithTarget (get_or ws i d) → (asks : Asking) (a : Ask) →
      AreAsked asks (slice_set ws i v) a → AreAsked asks ws a ⊎ IsAskedFor asks target groups a
  set-only [] i d less adds asks a e = absurd (omega (arith, less))
  set-only (w ∷ ws) zero d less adds asks a (inl here) = go (with-only w adds asks a here)
    where
      go : IsAskedWith asks w a ⊎ IsAskedFor asks target groups a → AreAsked asks (w ∷ ws) a ⊎ IsAskedFor asks target groups a
      go (inl own) = inl (inl own)
      go (inr is) = inr is
  set-only (w ∷ ws) zero d less adds asks a (inr more) = inl (inr more)
  set-only (w ∷ ws) (suc i) d less adds asks a (inl here) = inl (inl here)
  set-only (w ∷ ws) (suc i) d less adds asks a (inr more) = go (set-only ws i d (omega (arith, less)) adds asks a more)
    where
      go : AreAsked asks ws a ⊎ IsAskedFor asks target groups a → AreAsked asks (w ∷ ws) a ⊎ IsAskedFor asks target groups a
      go (inl e) = inl (inr e)
      go (inr is) = inr is

  pub target-added : (ws : List AskedWith) (i : ℕ) (d : AskedWith) → i < length ws → (get_or ws i d).groups ≡ groups →
      v.groups ≡ (get_or ws i d).groups → targets_of v.targets.items ≡ targets_of (get_or ws i d).targets.items ++ target ∷ [] →
      AddsTarget ws target groups (slice_set ws i v)
  target-added ws i d less own group targets = record {
    kept = set-kept ws i d less (own, group, targets);
    added = set-added ws i d less (own, group, targets);
    only = set-only ws i d less (own, group, targets);
  }

pub asked-first : (asks : Asking) (ws : List AskedWith) (w : AskedWith) (a : Ask) → AreAsked asks ws a → AreAsked asks (ws ++ w ∷ []) a
asked-first asks [] w a e = absurd e
asked-first asks (v ∷ ws) w a (inl here) = inl here
asked-first asks (v ∷ ws) w a (inr more) = inr (asked-first asks ws w a more)

pub asked-last : (asks : Asking) (ws : List AskedWith) (w : AskedWith) (a : Ask) → IsAskedWith asks w a →
    AreAsked asks (ws ++ w ∷ []) a
asked-last asks [] w a is = inl is
asked-last asks (v ∷ ws) w a is = inr (asked-last asks ws w a is)

pub asked-cases : (asks : Asking) (ws : List AskedWith) (w : AskedWith) (a : Ask) → AreAsked asks (ws ++ w ∷ []) a →
    AreAsked asks ws a ⊎ IsAskedWith asks w a
asked-cases asks [] w a (inl here) = inr here
asked-cases asks [] w a (inr none) = absurd none
asked-cases asks (v ∷ ws) w a (inl here) = inl (inl here)
asked-cases asks (v ∷ ws) w a (inr more) = go (asked-cases asks ws w a more)
  where
    go : AreAsked asks ws a ⊎ IsAskedWith asks w a → AreAsked asks (v ∷ ws) a ⊎ IsAskedWith asks w a
    go (inl e) = inl (inr e)
    go (inr is) = inr is

-- one target alone behind the others
pub alone-added : (ws : List AskedWith) (w : AskedWith) (target : Option ℕ) (groups : AskedGroups) → w.groups ≡ groups →
    w.targets.items ≡ who.One target ∷ [] → AddsTarget ws target groups (ws ++ w ∷ [])
alone-added ws w target groups own are = record {
  kept = λ asks a e. asked-first asks ws w a e;
  added = λ asks a is. asked-last asks ws w a (
    ap (asks a.target a.group) own ∙ is.1,
    subst (λ (t : Option ℕ). Contains (targets_of w.targets.items) t) is.0
        (subst (λ (ts : List (Option ℕ)). Contains ts target) (sym (ap targets_of are)) (Contains-push {X = Option ℕ} [] target)),
  );
  only = λ asks a e. go asks a (asked-cases asks ws w a e);
}
  where
    at : (asks : Asking) (a : Ask) → asks a.target a.group w.groups ≡ true →
        Contains {X = Option ℕ} [] a.target ⊎ (target ≡ a.target) → IsAskedFor asks target groups a
    at asks a g (inl none) = absurd (omega (arith, none.1))
    at asks a g (inr t) = (t, ap (asks a.target a.group) (sym own) ∙ g)

    go : (asks : Asking) (a : Ask) → AreAsked asks ws a ⊎ IsAskedWith asks w a → AreAsked asks ws a ⊎ IsAskedFor asks target groups a
    go asks a (inl e) = inl e
    go asks a (inr is) =
        inr (at asks a is.0 (Contains-push_cases [] target a.target
        (subst (λ (ts : List (Option ℕ)). Contains ts a.target) (ap targets_of are) is.1)))

-- a target with one group is an ask
pub ask-added : (p : Pair) (ws new : List AskedWith) (ask : Ask) → AddsTarget ws ask.target (which.One ask.group) new →
    AddsAsked p ws ask new
ask-added p ws new ask adds = record {
  kept = adds.kept (asking p);
  added = adds.added (asking p) ask (refl, same-number ask.group);
  only = λ a e. go a (adds.only (asking p) a e);
}
  where
    go : (a : Ask) → AreAsked (asking p) ws a ⊎ IsAskedFor (asking p) ask.target (which.One ask.group) a →
        AreAsked (asking p) ws a ⊎ (ask ≡ a)
    go a (inl e) = inl e
    go a (inr is) = inr (rw (is.0, sym (numbers-same a.group ask.group is.1)) refl)

-- ---- Classes

pub decide-same : (p : Pair) (u : Person) (a : Ask) (l j : Listed) → AreSameBlocks j l → Decide p u a l → Decide p u a j
decide-same p u a l j same decide = record {
  old = λ m. decide.old m
      ∙ ap (λ (is : List ℕ). chosen p.parts.old.items (filter (host_at p.old.checked.now p.old.blocks.items m) is)) (sym same.0);
  new = λ m. decide.new m
      ∙ ap (λ (is : List ℕ). chosen p.parts.new.items (filter (host_at p.new.checked.now p.new.blocks.items m) is)) (sym same.1);
}

-- a class with a further ask that the same blocks decide
pub class-added : (p : Pair) (u : Person) (r k : AskClass) (ask : Ask) (l : Listed) → IsAskClass p u r → AreSameBlocks r.allowing l →
    Decide p u ask l → k.allowing ≡ r.allowing → AddsAsked p r.asked.items ask k.asked.items → IsAskClass p u k
class-added p u r k ask l is same decide allowing adds a e =
    subst (Decide p u a) (sym allowing) (go (adds.only a e))
  where
    go : AreAsked (asking p) r.asked.items a ⊎ (ask ≡ a) → Decide p u a r.allowing
    go (inl before) = is a before
    go (inr here) = decide-same p u a l r.allowing same (subst (λ (b : Ask). Decide p u b l) here decide)

-- a class of one ask
pub class-of-one : (p : Pair) (u : Person) (k : AskClass) (ask : Ask) (l : Listed) → Decide p u ask l → k.allowing ≡ l →
    AddsAsked p [] ask k.asked.items → IsAskClass p u k
class-of-one p u k ask l decide allowing adds a e = subst (Decide p u a) (sym allowing) (go (adds.only a e))
  where
    go : AreAsked (asking p) [] a ⊎ (ask ≡ a) → Decide p u a l
    go (inl none) = absurd none
    go (inr here) = subst (λ (b : Ask). Decide p u b l) here decide

-- one ask more is in a class
pub asks-more : (p : Pair) (asks : List Ask) (n : ℕ) (ask : Ask) (ks js : List AskClass) → n < length asks → ask ≡ get_or asks n ask →
    ((a : Ask) → Contains (take n asks) a → HaveAsk (asking p) ks a) → ((a : Ask) → HaveAsk (asking p) ks a → HaveAsk (asking p) js a) →
    HaveAsk (asking p) js ask →
    (a : Ask) → Contains (take (n + 1) asks) a → HaveAsk (asking p) js a
asks-more p asks n ask ks js less is so_far kept has a there =
    go (Contains-push_cases (take n asks) ask a (subst (λ (xs : List Ask). Contains xs a) (take-more asks n ask less is) there))
  where
    go : Contains (take n asks) a ⊎ (ask ≡ a) → HaveAsk (asking p) js a
    go (inl before) = kept a (so_far a before)
    go (inr here) = subst (HaveAsk (asking p) js) here has

-- asks that are among those of one of these
module _ {K : Type 0} (has : K → Ask → Type 0) where
  pub kept-in : (ks : List K) (i : ℕ) (d k : K) → i < length ks → ((a : Ask) → has (get_or ks i d) a → has k a) →
      (a : Ask) → HaveIn has ks a → HaveIn has (slice_set ks i k) a
  kept-in [] i d k less kept a e = absurd e
  kept-in (j ∷ ks) zero d k less kept a (inl here) = inl (kept a here)
  kept-in (j ∷ ks) zero d k less kept a (inr more) = inr more
  kept-in (j ∷ ks) (suc i) d k less kept a (inl here) = inl here
  kept-in (j ∷ ks) (suc i) d k less kept a (inr more) = inr (kept-in ks i d k (omega (arith, less)) kept a more)

  pub has-in : (ks : List K) (i : ℕ) (k : K) (a : Ask) → i < length ks → has k a → HaveIn has (slice_set ks i k) a
  has-in [] i k a less is = absurd (omega (arith, less))
  has-in (j ∷ ks) zero k a less is = inl is
  has-in (j ∷ ks) (suc i) k a less is = inr (has-in ks i k a (omega (arith, less)) is)

  pub first-in : (ks : List K) (k : K) (a : Ask) → HaveIn has ks a → HaveIn has (ks ++ k ∷ []) a
  first-in [] k a e = absurd e
  first-in (j ∷ ks) k a (inl here) = inl here
  first-in (j ∷ ks) k a (inr more) = inr (first-in ks k a more)

  pub last-in : (ks : List K) (k : K) (a : Ask) → has k a → HaveIn has (ks ++ k ∷ []) a
  last-in [] k a is = inl is
  last-in (j ∷ ks) k a is = inr (last-in ks k a is)

  pub cases-in : (ks : List K) (k : K) (a : Ask) → HaveIn has (ks ++ k ∷ []) a → HaveIn has ks a ⊎ has k a
  cases-in [] k a (inl here) = inr here
  cases-in [] k a (inr none) = absurd none
  cases-in (j ∷ ks) k a (inl here) = inl (inl here)
  cases-in (j ∷ ks) k a (inr more) = go (cases-in ks k a more)
    where
      go : HaveIn has ks a ⊎ has k a → HaveIn has (j ∷ ks) a ⊎ has k a
      go (inl e) = inl (inr e)
      go (inr is) = inr is

  -- those of one more
  pub more-in : (ks : List K) (n : ℕ) (k : K) (P : Ask → Type 0) → n < length ks → k ≡ get_or ks n k →
      ((a : Ask) → HaveIn has (take n ks) a → P a) → ((a : Ask) → has k a → P a) → (a : Ask) →
      HaveIn has (take (n + 1) ks) a → P a
  more-in ks n k P less is so_far its a there =
      go (cases-in (take n ks) k a (subst (λ (js : List K). HaveIn has js a) (take-more ks n k less is) there))
    where
      go : HaveIn has (take n ks) a ⊎ has k a → P a
      go (inl e) = so_far a e
      go (inr e) = its a e

module _ (asks : Asking) where
  abbrev ClassHas : AskClass → Ask → Type 0
  ClassHas k a = AreAsked asks k.asked.items a

  pub class-kept : (ks : List AskClass) (i : ℕ) (d k : AskClass) → i < length ks →
      ((a : Ask) → ClassHas (get_or ks i d) a → ClassHas k a) → (a : Ask) → HaveAsk asks ks a → HaveAsk asks (slice_set ks i k) a
  class-kept ks i d k less kept a e = kept-in ClassHas ks i d k less kept a e

  pub class-has : (ks : List AskClass) (i : ℕ) (k : AskClass) (a : Ask) → i < length ks → ClassHas k a → HaveAsk asks (slice_set ks i k) a
  class-has ks i k a less is = has-in ClassHas ks i k a less is

  pub classes-first : (ks : List AskClass) (k : AskClass) (a : Ask) → HaveAsk asks ks a → HaveAsk asks (ks ++ k ∷ []) a
  classes-first ks k a e = first-in ClassHas ks k a e

  pub classes-last : (ks : List AskClass) (k : AskClass) (a : Ask) → ClassHas k a → HaveAsk asks (ks ++ k ∷ []) a
  classes-last ks k a is = last-in ClassHas ks k a is

  pub classes-cases : (ks : List AskClass) (k : AskClass) (a : Ask) → HaveAsk asks (ks ++ k ∷ []) a → HaveAsk asks ks a ⊎ ClassHas k a
  classes-cases ks k a e = cases-in ClassHas ks k a e
