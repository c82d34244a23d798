-- The hosts of classes by what is found there.
use Rattle.std.proofs.Common.{◌≡◌, ◌<◌, ◌+◌, ◌∙◌, ◌⊎◌, inl, inr, ℕ, zero, suc, true, ◌||◌, List, [], ◌∷◌, ◌++◌, All, ap, arith, refl, sym}
use Rattle.std.proofs.Common.{get_or, length, subst, take, IsPermutation, None, Some}
use Rattle.std.specs.Prelude.{◌==◌, slice_get, slice_set}
use Rattle.std.proofs.lemmas.Bool.{or_cases, or_left, or_right}
use Rattle.std.proofs.lemmas.List.Folds.{list_any-append}
use Rattle.std.proofs.lemmas.List.Sorted.{list_any-IsPermutation}
use Rattle.std.proofs.lemmas.Option.{get_or_from_slice_get, slice_get-get_or}
use Rattle.sudo_match.specs.declared.people.Person.{Person}
use Rattle.review_grants.proofs.ListSteps.{take-more}
use Rattle.review_compare.specs.declared.ask_class.AskClass.{AskClass}
use Rattle.review_compare.specs.declared.cell.Ask.{Ask}
use Rattle.review_compare.specs.declared.cell.Cell.{Cell}
use Rattle.review_compare.specs.declared.compared.Compared.{Compared}
use Rattle.review_compare.specs.declared.compared.Compared.TheVariants as compared
use Rattle.review_compare.specs.declared.host_class.FoundHosts.{FoundHosts}
use Rattle.review_compare.specs.declared.host_class.HostClass.{HostClass}
use Rattle.review_compare.specs.declared.pair.Pair.{Pair}
use Rattle.review_compare.specs.declared.row.Row.{Row}
use Rattle.review_compare.specs.Differences.{question_at}
use Rattle.review_compare.specs.Body.AskClasses.{AreAsked, HaveAsk}
use Rattle.review_compare.specs.Body.Classes.{AddsClass, AddsFoundOn, AreFoundOn, AreRightOn, FoundOn, HaveHost, IsClass}
use Rattle.review_compare.specs.Body.Classes.{IsFoundAt, IsFoundOn, IsOnClasses, IsOnFound, IsRightIn}
use Rattle.review_compare.specs.Body.Merged.{IsOnAmong, is_among}
use Rattle.review_compare.specs.Body.Progress.{Progress, asking}
use Rattle.review_compare.proofs.DifferenceLemmas.{went-on}
use Rattle.review_compare.proofs.AskLemmas.{classes-cases}

among-append : (hosts more : List ℕ) (host : ℕ) → is_among (hosts ++ more) host ≡ (is_among hosts host || is_among more host)
among-append hosts more host = list_any-append (λ m. m == host) hosts more

-- ---- Further hosts

found-first : (gs : List FoundHosts) (g : FoundHosts) (f : Compared) (host : ℕ) → IsFoundOn gs f host → IsFoundOn (gs ++ g ∷ []) f host
found-first [] g f host on = absurd on
found-first (h ∷ gs) g f host (inl here) = inl here
found-first (h ∷ gs) g f host (inr more) = inr (found-first gs g f host more)

found-last : (gs : List FoundHosts) (g : FoundHosts) (f : Compared) (host : ℕ) → g.found.now ≡ f → is_among g.hosts.items host ≡ true →
    IsFoundOn (gs ++ g ∷ []) f host
found-last [] g f host is on = inl (is, on)
found-last (h ∷ gs) g f host is on = inr (found-last gs g f host is on)

pub found-cases : (gs : List FoundHosts) (g : FoundHosts) (f : Compared) (host : ℕ) → IsFoundOn (gs ++ g ∷ []) f host →
    IsFoundOn gs f host ⊎ ((g.found.now ≡ f) × (is_among g.hosts.items host ≡ true))
found-cases [] g f host (inl here) = inr here
found-cases [] g f host (inr none) = absurd none
found-cases (h ∷ gs) g f host (inl here) = inl (inl here)
found-cases (h ∷ gs) g f host (inr more) = go (found-cases gs g f host more)
  where
    go : IsFoundOn gs f host ⊎ ((g.found.now ≡ f) × (is_among g.hosts.items host ≡ true)) →
        IsFoundOn (h ∷ gs) f host ⊎ ((g.found.now ≡ f) × (is_among g.hosts.items host ≡ true))
    go (inl on) = inl (inr on)
    go (inr on) = inr on

-- behind the others
pub hosts-pushed : (gs : List FoundHosts) (g : FoundHosts) (f : Compared) (hosts : List ℕ) → g.found.now ≡ f → g.hosts.items ≡ hosts →
    AddsFoundOn gs f hosts (gs ++ g ∷ [])
hosts-pushed gs g f hosts is are = record {
  kept = λ h host on. found-first gs g h host on;
  added = λ host on. found-last gs g f host is (ap (λ hs. is_among hs host) are ∙ on);
  only = λ h host on. go h host (found-cases gs g h host on);
}
  where
    go : (h : Compared) (host : ℕ) → IsFoundOn gs h host ⊎ ((g.found.now ≡ h) × (is_among g.hosts.items host ≡ true)) →
        IsFoundOn gs h host ⊎ ((f ≡ h) × (is_among hosts host ≡ true))
    go h host (inl on) = inl on
    go h host (inr on) = inr (sym is ∙ on.0, ap (λ hs. is_among hs host) (sym are) ∙ on.1)

-- at an index at which the same is found
module _ (f : Compared) (hosts : List ℕ) (v : FoundHosts) where
  abbrev IsWider : FoundHosts → Type 0
  IsWider g = (g.found.now ≡ f) × (v.found.now ≡ g.found.now) × (v.hosts.items ≡ g.hosts.items ++ hosts)

  wider-only : (g : FoundHosts) → IsWider g → (h : Compared) (host : ℕ) → (v.found.now ≡ h) × (is_among v.hosts.items host ≡ true) →
      ((g.found.now ≡ h) × (is_among g.hosts.items host ≡ true)) ⊎ ((f ≡ h) × (is_among hosts host ≡ true))
  wider-only g is h host on =
      by (or_cases (is_among g.hosts.items host) (is_among hosts host)
      (sym (among-append g.hosts.items hosts host) ∙ ap (λ hs. is_among hs host) (sym is.2) ∙ on.1))
    where
      by : (is_among g.hosts.items host ≡ true) ⊎ (is_among hosts host ≡ true) →
          ((g.found.now ≡ h) × (is_among g.hosts.items host ≡ true)) ⊎ ((f ≡ h) × (is_among hosts host ≡ true))
      by (inl there) = inl (sym is.1 ∙ on.0, there)
      by (inr here) = inr (sym is.0 ∙ sym is.1 ∙ on.0, here)

  set-kept : (gs : List FoundHosts) (i : ℕ) (d : FoundHosts) → i < length gs → IsWider (get_or gs i d) → (h : Compared) (host : ℕ) →
      IsFoundOn gs h host → IsFoundOn (slice_set gs i v) h host
  set-kept [] i d less is h host on = absurd on
  set-kept (g ∷ gs) zero d less is h host (inl on) = inl (
    is.1 ∙ on.0,
    ap (λ hs. is_among hs host) is.2 ∙ among-append g.hosts.items hosts host
        ∙ or_left (is_among g.hosts.items host) (is_among hosts host) on.1,
  )
  set-kept (g ∷ gs) zero d less is h host (inr more) = inr more
  set-kept (g ∷ gs) (suc i) d less is h host (inl on) = inl on
  set-kept (g ∷ gs) (suc i) d less is h host (inr more) = inr (set-kept gs i d (omega (arith, less)) is h host more)

  set-added : (gs : List FoundHosts) (i : ℕ) (d : FoundHosts) → i < length gs → IsWider (get_or gs i d) → (host : ℕ) →
      is_among hosts host ≡ true → IsFoundOn (slice_set gs i v) f host
  set-added [] i d less is host on = absurd (omega (arith, less))
  set-added (g ∷ gs) zero d less is host on = inl (
    is.1 ∙ is.0,
    ap (λ hs. is_among hs host) is.2 ∙ among-append g.hosts.items hosts host
        ∙ or_right (is_among g.hosts.items host) (is_among hosts host) on,
  )
  set-added (g ∷ gs) (suc i) d less is host on = inr (set-added gs i d (omega (arith, less)) is host on)

  set-only : (gs : List FoundHosts) (i : ℕ) (d : FoundHosts) → i < length gs → IsWider (get_or gs i d) → (h : Compared) (host : ℕ) →
      IsFoundOn (slice_set gs i v) h host → IsFoundOn gs h host ⊎ ((f ≡ h) × (is_among hosts host ≡ true))
  set-only [] i d less is h host on = absurd (omega (arith, less))
  set-only (g ∷ gs) zero d less is h host (inl on) = go (wider-only g is h host on)
    where
      go : ((g.found.now ≡ h) × (is_among g.hosts.items host ≡ true)) ⊎ ((f ≡ h) × (is_among hosts host ≡ true)) →
          IsFoundOn (g ∷ gs) h host ⊎ ((f ≡ h) × (is_among hosts host ≡ true))
      go (inl own) = inl (inl own)
      go (inr more) = inr more
  set-only (g ∷ gs) zero d less is h host (inr more) = inl (inr more)
  set-only (g ∷ gs) (suc i) d less is h host (inl on) = inl (inl on)
  set-only (g ∷ gs) (suc i) d less is h host (inr more) = go (set-only gs i d (omega (arith, less)) is h host more)
    where
      go : IsFoundOn gs h host ⊎ ((f ≡ h) × (is_among hosts host ≡ true)) →
          IsFoundOn (g ∷ gs) h host ⊎ ((f ≡ h) × (is_among hosts host ≡ true))
      go (inl on) = inl (inr on)
      go (inr on) = inr on

  pub hosts-wider : (gs : List FoundHosts) (i : ℕ) (d : FoundHosts) → i < length gs → (get_or gs i d).found.now ≡ f →
      v.found.now ≡ (get_or gs i d).found.now → v.hosts.items ≡ (get_or gs i d).hosts.items ++ hosts →
      AddsFoundOn gs f hosts (slice_set gs i v)
  hosts-wider gs i d less is same are = record {
    kept = set-kept gs i d less (is, same, are);
    added = set-added gs i d less (is, same, are);
    only = set-only gs i d less (is, same, are);
  }

-- ---- The hosts of classes

on-first : (ks : List HostClass) (k : HostClass) (n : ℕ) (f : Compared) (host : ℕ) → FoundOn ks n f host → FoundOn (ks ++ k ∷ []) n f host
on-first [] k n f host on = absurd on
on-first (j ∷ ks) k n f host (inl here) = inl here
on-first (j ∷ ks) k n f host (inr more) = inr (on-first ks k n f host more)

on-last : (ks : List HostClass) (k : HostClass) (n : ℕ) (f : Compared) (host : ℕ) → is_among k.hosts.items host ≡ true →
    slice_get k.founds.items n ≡ Some f → FoundOn (ks ++ k ∷ []) n f host
on-last [] k n f host on is = inl (on, is)
on-last (j ∷ ks) k n f host on is = inr (on-last ks k n f host on is)

on-cases : (ks : List HostClass) (k : HostClass) (n : ℕ) (f : Compared) (host : ℕ) → FoundOn (ks ++ k ∷ []) n f host →
    FoundOn ks n f host ⊎ ((is_among k.hosts.items host ≡ true) × (slice_get k.founds.items n ≡ Some f))
on-cases [] k n f host (inl here) = inr here
on-cases [] k n f host (inr none) = absurd none
on-cases (j ∷ ks) k n f host (inl here) = inl (inl here)
on-cases (j ∷ ks) k n f host (inr more) = go (on-cases ks k n f host more)
  where
    go : FoundOn ks n f host ⊎ ((is_among k.hosts.items host ≡ true) × (slice_get k.founds.items n ≡ Some f)) →
        FoundOn (j ∷ ks) n f host ⊎ ((is_among k.hosts.items host ≡ true) × (slice_get k.founds.items n ≡ Some f))
    go (inl on) = inl (inr on)
    go (inr on) = inr on

-- a class on which this is found
pub class-with-found : (gs new : List FoundHosts) (k : HostClass) (n : ℕ) (f : Compared) → slice_get k.founds.items n ≡ Some f →
    AddsFoundOn gs f k.hosts.items new → AddsClass gs k n new
class-with-found gs new k n f found adds = record {
  kept = adds.kept;
  added = λ g host on is.
      let same : f ≡ g = cc (found, is) in
      subst (λ (h : Compared). IsFoundOn new h host) same (adds.added host on);
  only = λ g host on. go g host (adds.only g host on);
}
  where
    go : (g : Compared) (host : ℕ) → IsFoundOn gs g host ⊎ ((f ≡ g) × (is_among k.hosts.items host ≡ true)) →
        IsFoundOn gs g host ⊎ ((is_among k.hosts.items host ≡ true) × (slice_get k.founds.items n ≡ Some g))
    go g host (inl before) = inl before
    go g host (inr here) = inr (here.1, found ∙ ap (λ h. Some h) here.0)

-- one for which nothing is found at the index
pub class_without : (gs : List FoundHosts) (k : HostClass) (n : ℕ) → slice_get k.founds.items n ≡ None → AddsClass gs k n gs
class_without gs k n missing = record {
  kept = λ f host on. on;
  added = λ f host on is. absurd (never f is);
  only = λ f host on. inl on;
}
  where
    never : (f : Compared) → slice_get k.founds.items n ≡ Some f → ⊥
    never f is = cc (missing, is)

-- those of a further class
pub class-found-on : (ks : List HostClass) (at n : ℕ) (k : HostClass) (gs new : List FoundHosts) → at < length ks → k ≡ get_or ks at k →
    AreFoundOn (take at ks) n gs → AddsClass gs k n new → AreFoundOn (take (at + 1) ks) n new
class-found-on ks at n k gs new less is so_far adds =
    subst (λ (js : List HostClass). AreFoundOn js n new) (sym (take-more ks at k less is)) (record { all = all; only = only })
  where
    all : (g : Compared) (host : ℕ) → FoundOn (take at ks ++ k ∷ []) n g host → IsFoundOn new g host
    all g host on = go (on-cases (take at ks) k n g host on)
      where
        go : FoundOn (take at ks) n g host ⊎ ((is_among k.hosts.items host ≡ true) × (slice_get k.founds.items n ≡ Some g)) →
            IsFoundOn new g host
        go (inl before) = adds.kept g host (so_far.all g host before)
        go (inr here) = adds.added g host here.0 here.1

    only : (g : Compared) (host : ℕ) → IsFoundOn new g host → FoundOn (take at ks ++ k ∷ []) n g host
    only g host on = go (adds.only g host on)
      where
        go : IsFoundOn gs g host ⊎ ((is_among k.hosts.items host ≡ true) × (slice_get k.founds.items n ≡ Some g)) →
            FoundOn (take at ks ++ k ∷ []) n g host
        go (inl before) = on-first (take at ks) k n g host (so_far.only g host before)
        go (inr here) = on-last (take at ks) k n g host here.0 here.1

pub none-found-on : (n : ℕ) → AreFoundOn [] n []
none-found-on n = record { all = λ f host on. absurd on; only = λ f host on. absurd on }

-- ---- What is found is right

-- the classes behind the first
behind : (p : Pair) (user : ℕ) (u : Person) (ks : List AskClass) (j : HostClass) (js : List HostClass) →
    All (IsClass p user u ks) (j ∷ js) → All (IsClass p user u ks) js
behind p user u ks j js all = λ i d less. all (suc i) d (omega (arith, less))

first-of : (p : Pair) (user : ℕ) (u : Person) (ks : List AskClass) (j : HostClass) (js : List HostClass) →
    All (IsClass p user u ks) (j ∷ js) → IsClass p user u ks j
first-of p user u ks j js all = all zero j (omega arith)

found-right : (p : Pair) (user : ℕ) (u : Person) (ks : List AskClass) (n : ℕ) (k : AskClass) → n < length ks → k ≡ get_or ks n k →
    (js : List HostClass) → All (IsClass p user u ks) js → (f : Compared) (c : Cell) → c.user ≡ user →
    AreAsked (asking p) k.asked.items c.ask → FoundOn js n f c.host → IsFoundAt p (question_at p.directory.now p.groups.now c) f
found-right p user u ks n k less is [] all f c own asked on = absurd on
found-right p user u ks n k less is (j ∷ js) all f c own asked (inl here) =
    let class = first-of p user u ks j js all in
    subst (λ (g : Compared). IsFoundAt p (question_at p.directory.now p.groups.now c) g)
    (get_or_from_slice_get j.founds.items n f f here.1)
    (class.right.1 n k f less c (own, here.0, subst (λ (h : AskClass). AreAsked (asking p) h.asked.items c.ask) is asked))
found-right p user u ks n k less is (j ∷ js) all f c own asked (inr more) =
    found-right p user u ks n k less is js (behind p user u ks j js all) f c own asked more

found-at : (gs : List FoundHosts) (i : ℕ) (d : FoundHosts) (host : ℕ) → i < length gs →
    is_among (get_or gs i d).hosts.items host ≡ true → IsFoundOn gs (get_or gs i d).found.now host
found-at [] i d host less on = absurd (omega (arith, less))
found-at (g ∷ gs) zero d host less on = inl (refl, on)
found-at (g ∷ gs) (suc i) d host less on = inr (found-at gs i d host (omega (arith, less)) on)

pub groups-right : (p : Pair) (user : ℕ) (u : Person) (ks : List AskClass) (n : ℕ) (k : AskClass) (js : List HostClass)
    (gs : List FoundHosts) → n < length ks → k ≡ get_or ks n k → All (IsClass p user u ks) js → AreFoundOn js n gs →
    All (AreRightOn p user k) gs
groups-right p user u ks n k js gs less is all are =
    λ i d within c on. found-right p user u ks n k less is js all (get_or gs i d).found.now c on.0 on.2
    (are.only (get_or gs i d).found.now c.host (found-at gs i d c.host within on.1))

-- ---- Hosts that are done

pub group-done : (p : Pair) (old rows new : List Row) (user : ℕ) (asked : Ask → Type 0) (gs : List FoundHosts) (i : ℕ) (g : FoundHosts) →
    i < length gs → g ≡ get_or gs i g → Progress p old rows (IsOnFound user (take i gs) asked) →
    Progress p rows new (IsOnAmong user g.hosts.items asked) → Progress p old new (IsOnFound user (take (i + 1) gs) asked)
group-done p old rows new user asked gs i g less is so_far one =
    went-on p old rows new (IsOnFound user (take i gs) asked) (IsOnAmong user g.hosts.items asked)
    (IsOnFound user (take (i + 1) gs) asked) either so_far one
  where
    split : (c : Cell) (f : Compared) → c.user ≡ user → asked c.ask →
        IsFoundOn (take i gs) f c.host ⊎ ((g.found.now ≡ f) × (is_among g.hosts.items c.host ≡ true)) →
        IsOnFound user (take i gs) asked c ⊎ IsOnAmong user g.hosts.items asked c
    split c f own is_asked (inl on) = inl (own, (f, on), is_asked)
    split c f own is_asked (inr on) = inr (own, on.1, is_asked)

    either : (c : Cell) → IsOnFound user (take (i + 1) gs) asked c →
        IsOnFound user (take i gs) asked c ⊎ IsOnAmong user g.hosts.items asked c
    either c on = split c on.1.0 on.0 on.2
        (found-cases (take i gs) g on.1.0 c.host (subst (λ (hs : List FoundHosts). IsFoundOn hs on.1.0 c.host)
        (take-more gs i g less is) on.1.1))

have-found : (p : Pair) (user : ℕ) (u : Person) (ks : List AskClass) (n : ℕ) → n < length ks → (js : List HostClass) →
    All (IsClass p user u ks) js → (host : ℕ) → HaveHost js host → (f : Compared) × FoundOn js n f host
have-found p user u ks n less [] all host on = absurd on
have-found p user u ks n less (j ∷ js) all host (inl on) =
    let class = first-of p user u ks j js all in
    let long = class.right.0 in
    let within : n < length j.founds.items = omega (arith, less, long) in
    (get_or j.founds.items n compared.Same, inl (on, slice_get-get_or j.founds.items n compared.Same within))
have-found p user u ks n less (j ∷ js) all host (inr on) =
    let e = have-found p user u ks n less js (behind p user u ks j js all) host on in
    (e.0, inr e.1)

pub groups-done : (p : Pair) (old new : List Row) (user : ℕ) (u : Person) (ks : List AskClass) (n : ℕ) (js : List HostClass)
    (gs : List FoundHosts) (asked : Ask → Type 0) → n < length ks → All (IsClass p user u ks) js → AreFoundOn js n gs →
    Progress p old new (IsOnFound user gs asked) → Progress p old new (IsOnClasses user js asked)
groups-done p old new user u ks n js gs asked less all are so_far = record {
  kept = so_far.kept;
  right = so_far.right;
  done = λ c on.
      let e = have-found p user u ks n less js all c.host on.1 in
      so_far.done c (on.0, (e.0, are.all e.0 c.host e.1), on.2);
}

-- the hosts in another order
pub same-hosts : (hosts others : List ℕ) → IsPermutation hosts others → (host : ℕ) → is_among others host ≡ is_among hosts host
same-hosts hosts others same host = sym (list_any-IsPermutation (λ m. m == host) hosts others same)

pub right-moved : (p : Pair) (user : ℕ) (hosts others : List ℕ) (asked : Ask → Type 0) (f : Compared) → IsPermutation hosts others →
    IsRightIn p user hosts asked f → IsRightIn p user others asked f
right-moved p user hosts others asked f same right =
    λ c on. right c (on.0, sym (same-hosts hosts others same c.host) ∙ on.1, on.2)

pub done-moved : (p : Pair) (old new : List Row) (user : ℕ) (hosts others : List ℕ) (asked : Ask → Type 0) → IsPermutation hosts others →
    Progress p old new (IsOnAmong user others asked) → Progress p old new (IsOnAmong user hosts asked)
done-moved p old new user hosts others asked same so_far = record {
  kept = so_far.kept;
  right = so_far.right;
  done = λ c on. so_far.done c (on.0, same-hosts hosts others same c.host ∙ on.1, on.2);
}

-- ---- Classes of asks

pub asks-done : (p : Pair) (old rows new : List Row) (user : ℕ) (js : List HostClass) (ks : List AskClass) (n : ℕ) (k : AskClass) →
    n < length ks → k ≡ get_or ks n k → Progress p old rows (IsOnClasses user js (HaveAsk (asking p) (take n ks))) →
    Progress p rows new (IsOnClasses user js (AreAsked (asking p) k.asked.items)) →
    Progress p old new (IsOnClasses user js (HaveAsk (asking p) (take (n + 1) ks)))
asks-done p old rows new user js ks n k less is so_far one =
    went-on p old rows new (IsOnClasses user js (HaveAsk (asking p) (take n ks)))
    (IsOnClasses user js (AreAsked (asking p) k.asked.items)) (IsOnClasses user js (HaveAsk (asking p) (take (n + 1) ks))) either so_far one
  where
    split : (c : Cell) → c.user ≡ user → HaveHost js c.host →
        HaveAsk (asking p) (take n ks) c.ask ⊎ AreAsked (asking p) k.asked.items c.ask →
        IsOnClasses user js (HaveAsk (asking p) (take n ks)) c ⊎ IsOnClasses user js (AreAsked (asking p) k.asked.items) c
    split c own on (inl there) = inl (own, on, there)
    split c own on (inr here) = inr (own, on, here)

    either : (c : Cell) → IsOnClasses user js (HaveAsk (asking p) (take (n + 1) ks)) c →
        IsOnClasses user js (HaveAsk (asking p) (take n ks)) c ⊎ IsOnClasses user js (AreAsked (asking p) k.asked.items) c
    either c on = split c on.0 on.1
        (classes-cases (asking p) (take n ks) k c.ask (subst (λ (hs : List AskClass). HaveAsk (asking p) hs c.ask)
        (take-more ks n k less is) on.2))
