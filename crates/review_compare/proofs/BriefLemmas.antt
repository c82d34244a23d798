-- Asks in brief.
use Rattle.std.proofs.Common.{◌≡◌, ◌<◌, ◌+◌, ◌∙◌, ◌⊎◌, inl, inr, ℕ, Bool, true, false, cond, List, [], ◌∷◌, ◌++◌, ap, arith}
use Rattle.std.proofs.Common.{refl, subst, sym}
use Rattle.std.proofs.Common.{get_or, length, take, Option, None, Some}
use Rattle.std.specs.List.{Contains}
use Rattle.std.proofs.lemmas.List.Elements.{Contains-append_cases, Contains-append_left, Contains-append_right, Contains-push}
use Rattle.std.proofs.lemmas.List.Elements.{Contains-push_cases}
use Rattle.sudo_match.specs.declared.people.Group.{Group}
use Rattle.sudo_match.specs.declared.people.Person.{Person}
use Rattle.review_grants.proofs.ListSteps.{take-more}
use Rattle.review_compare.specs.declared.ask_class.AskedWith.{AskedWith}
use Rattle.review_compare.specs.declared.cell.Ask.{Ask}
use Rattle.review_compare.specs.declared.cell.AskedGroups.{AskedGroups}
use Rattle.review_compare.specs.declared.pair.Pair.{Pair}
use Rattle.review_compare.specs.Differences.{has_if, is_exactly, known_at}
use Rattle.review_compare.specs.Body.AskClasses.{AddsAsked, AddsAsks, AddsTarget, AreAsked, IsAskedFor}
use Rattle.review_compare.specs.Body.Brief.{AreBut, HasEach, HasEachBelow}
use Rattle.review_compare.specs.Body.Progress.{asking}
use Rattle.review_compare.proofs.DifferenceLemmas.{left-more, there-of}
use Rattle.review_compare.proofs.UnchangedLemmas.{less-or}

-- ---- Each group of a target

-- the groups before one more
pub each-more : (p : Pair) (asks : List Ask) (target : Option ℕ) (groups : AskedGroups) (n : ℕ) → HasEachBelow p asks target groups n →
    (asking p target (Some n) groups ≡ true → Contains asks (record { target = target; group = Some n })) →
    HasEachBelow p asks target groups (n + 1)
each-more p asks target groups n below here g less = go (less-or g n (omega (arith, less)))
  where
    go : (g < n) ⊎ (g ≡ n) → asking p target (Some g) groups ≡ true → Contains asks (record { target = target; group = Some g })
    go (inl before) is = below g before is
    go (inr e) is =
        subst (λ k. Contains asks (record { target = target; group = Some k })) (sym e)
        (here (subst (λ k. asking p target (Some k) groups ≡ true) e is))

no-group : (b : Bool) (t : Option Person) → is_exactly b (has_if t None) ≡ false
no-group true None = refl
no-group false None = refl
no-group true (Some t) = refl
no-group false (Some t) = refl

-- groups that depend on the target are known ones
pub each-known : (p : Pair) (asks : List Ask) (target : Option ℕ) (b : Bool) (groups : AskedGroups) →
    ((s h : Option ℕ) → asking p s h groups ≡ is_exactly b (has_if (known_at p.directory.now.people s) (known_at p.groups.now h))) →
    HasEachBelow p asks target groups (length p.groups.now) → HasEach p asks target groups
each-known p asks target b groups means below a is = go a.target is.0 a.group is.1
  where
    person : Option ℕ → Option Person
    person s = known_at p.directory.now.people s

    go : (s : Option ℕ) → target ≡ s → (h : Option ℕ) → asking p s h groups ≡ true → Contains asks (record { target = s; group = h })
    go s same None asked = let bad : false ≡ true = sym (no-group b (person s)) ∙ sym (means s None) ∙ asked in cc
    go s same (Some g) asked =
        let less : g < length p.groups.now =
        there-of (λ (o : Option Group). is_exactly b (has_if (person s) o)) p.groups.now g (no-group b (person s))
        (sym (means s (Some g)) ∙ asked) in
        subst (λ (t : Option ℕ). Contains asks (record { target = t; group = Some g })) same
        (below g less (subst (λ (t : Option ℕ). asking p t (Some g) groups ≡ true) (sym same) asked))

-- ---- Asks that are added

pub asks-none : (p : Pair) (ws : List AskedWith) → AddsAsks p ws [] ws
asks-none p ws = record {
  kept = λ a e. e;
  added = λ a there. absurd (omega (arith, there.1));
  only = λ a e. inl e;
}

-- one ask more
pub asks-added : (p : Pair) (ws mid new : List AskedWith) (asks : List Ask) (k : ℕ) (ask : Ask) → k < length asks →
    ask ≡ get_or asks k ask →
    AddsAsks p ws (take k asks) mid → AddsAsked p mid ask new → AddsAsks p ws (take (k + 1) asks) new
asks-added p ws mid new asks k ask less is so_far one =
    subst (λ (xs : List Ask). AddsAsks p ws xs new) (sym (take-more asks k ask less is)) both
  where
    add : (a : Ask) → Contains (take k asks) a ⊎ (ask ≡ a) → AreAsked (asking p) new a
    add a (inl before) = one.kept a (so_far.added a before)
    add a (inr here) = subst (AreAsked (asking p) new) here one.added

    from : (a : Ask) → AreAsked (asking p) ws a ⊎ Contains (take k asks) a →
        AreAsked (asking p) ws a ⊎ Contains (take k asks ++ ask ∷ []) a
    from a (inl e) = inl e
    from a (inr there) = inr (Contains-append_left (take k asks) (ask ∷ []) a there)

    only : (a : Ask) → AreAsked (asking p) mid a ⊎ (ask ≡ a) → AreAsked (asking p) ws a ⊎ Contains (take k asks ++ ask ∷ []) a
    only a (inl e) = from a (so_far.only a e)
    only a (inr here) = inr (subst (λ (b : Ask). Contains (take k asks ++ ask ∷ []) b) here (Contains-push (take k asks) ask))

    both : AddsAsks p ws (take k asks ++ ask ∷ []) new
    both = record {
      kept = λ a e. one.kept a (so_far.kept a e);
      added = λ a there. add a (Contains-push_cases (take k asks) ask a there);
      only = λ a e. only a (one.only a e);
    }

-- the asks of a run: one entry for groups of its target, and an entry for each other ask
pub run-added : (p : Pair) (ws mid new : List AskedWith) (target : Option ℕ) (groups : AskedGroups) (run left : List Ask) →
    HasEach p run target groups → AreBut p target groups run left → AddsAsks p ws left mid → AddsTarget mid target groups new →
    AddsAsks p ws run new
run-added p ws mid new target groups run left has but more told = record {
  kept = λ a e. told.kept (asking p) a (more.kept a e);
  added = λ a there. add a (but.all a there);
  only = λ a e. only a (told.only (asking p) a e);
}
  where
    add : (a : Ask) → Contains left a ⊎ IsAskedFor (asking p) target groups a → AreAsked (asking p) new a
    add a (inl there) = told.kept (asking p) a (more.added a there)
    add a (inr is) = told.added (asking p) a is

    from : (a : Ask) → AreAsked (asking p) ws a ⊎ Contains left a → AreAsked (asking p) ws a ⊎ Contains run a
    from a (inl e) = inl e
    from a (inr there) = inr (but.only a there)

    only : (a : Ask) → AreAsked (asking p) mid a ⊎ IsAskedFor (asking p) target groups a → AreAsked (asking p) ws a ⊎ Contains run a
    only a (inl e) = from a (more.only a e)
    only a (inr is) = inr (has a is)

-- a further ask is kept, unless the entry for the target covers it
pub but-more : (p : Pair) (target : Option ℕ) (groups : AskedGroups) (asks : List Ask) (k : ℕ) (a : Ask) (b : Bool) (left new : List Ask) →
    k < length asks → a ≡ get_or asks k a → AreBut p target groups (take k asks) left → new ≡ left ++ cond b (a ∷ []) [] →
    (b ≡ false → IsAskedFor (asking p) target groups a) → AreBut p target groups (take (k + 1) asks) new
but-more p target groups asks k a b left new less is so_far more told = record {
  all = left-more (IsAskedFor (asking p) target groups) asks k a b left new less is so_far.all more told;
  only = λ x there. subst (λ (xs : List Ask). Contains xs x) (sym (take-more asks k a less is))
      (go b more x there);
}
  where
    go : (b : Bool) → new ≡ left ++ cond b (a ∷ []) [] → (x : Ask) → Contains new x → Contains (take k asks ++ a ∷ []) x
    go true e x there = at (Contains-push_cases left a x (subst (λ (xs : List Ask). Contains xs x) e there))
      where
        at : Contains left x ⊎ (a ≡ x) → Contains (take k asks ++ a ∷ []) x
        at (inl before) = Contains-append_left (take k asks) (a ∷ []) x (so_far.only x before)
        at (inr here) = subst (λ (y : Ask). Contains (take k asks ++ a ∷ []) y) here (Contains-push (take k asks) a)
    go false e x there =
        Contains-append_left (take k asks) (a ∷ []) x (so_far.only x
        (subst (λ (xs : List Ask). Contains xs x) (e ∙ no-more left) there))
      where
        no-more : (xs : List Ask) → xs ++ [] ≡ xs
        no-more [] = refl
        no-more (y ∷ ys) = ap (λ (zs : List Ask). y ∷ zs) (no-more ys)

pub but-none : (p : Pair) (target : Option ℕ) (groups : AskedGroups) → AreBut p target groups [] []
but-none p target groups = record { all = λ a there. absurd (omega (arith, there.1)); only = λ a there. there }

-- ---- Run by run

-- asks of which these are left
pub record IsBriefSoFar (p : Pair) (asks left : List Ask) (brief : List AskedWith) : Type 0 where
  pub only : (a : Ask) → AreAsked (asking p) brief a → Contains asks a
  pub all : (a : Ask) → Contains asks a → AreAsked (asking p) brief a ⊎ Contains left a
  pub of : (a : Ask) → Contains left a → Contains asks a

pub brief-more : (p : Pair) (asks run rest : List Ask) (brief new : List AskedWith) → IsBriefSoFar p asks (run ++ rest) brief →
    AddsAsks p brief run new → IsBriefSoFar p asks rest new
brief-more p asks run rest brief new so_far adds = record {
  only = λ a e. from a (adds.only a e);
  all = λ a there. into a (so_far.all a there);
  of = λ a there. so_far.of a (Contains-append_right run rest a there);
}
  where
    from : (a : Ask) → AreAsked (asking p) brief a ⊎ Contains run a → Contains asks a
    from a (inl e) = so_far.only a e
    from a (inr there) = so_far.of a (Contains-append_left run rest a there)

    split : (a : Ask) → Contains run a ⊎ Contains rest a → AreAsked (asking p) new a ⊎ Contains rest a
    split a (inl there) = inl (adds.added a there)
    split a (inr there) = inr there

    into : (a : Ask) → AreAsked (asking p) brief a ⊎ Contains (run ++ rest) a → AreAsked (asking p) new a ⊎ Contains rest a
    into a (inl e) = inl (adds.kept a e)
    into a (inr there) = split a (Contains-append_cases run rest a there)

pub brief-done : (p : Pair) (asks left : List Ask) (brief : List AskedWith) → IsBriefSoFar p asks left brief → left ≡ [] →
    AddsAsks p [] asks brief
brief-done p asks left brief so_far none = record {
  kept = λ a e. absurd e;
  added = λ a there. into a (so_far.all a there);
  only = λ a e. inr (so_far.only a e);
}
  where
    into : (a : Ask) → AreAsked (asking p) brief a ⊎ Contains left a → AreAsked (asking p) brief a
    into a (inl e) = e
    into a (inr there) = let none1 = subst (λ (xs : List Ask). Contains xs a) none there in absurd (omega (arith, none1.1))

pub brief-begins : (p : Pair) (asks : List Ask) → IsBriefSoFar p asks asks []
brief-begins p asks = record { only = λ a e. absurd e; all = λ a there. inr there; of = λ a there. there }
