-- The comparison on a host holds on each host on which the same blocks list the user.
use Rattle.std.proofs.Common.{◌≡◌, ◌∙◌, inl, inr, ℕ, Bool, true, false, cond, ◌||◌, List, [], ◌∷◌, ◌++◌, ap, arith, refl, sym}
use Rattle.std.proofs.Common.{◌<◌, ◌+◌, ◌⊎◌, Global, Option, Some, Vec, get_or, length, subst, suc, zero}
use Rattle.std.specs.Prelude.{◌==◌, slice_set}
use Rattle.std.specs.List.{list_all, list_any}
use Rattle.std.proofs.lemmas.Bool.{and_parts, eqb-true, or_cases, or_left, or_right}
use Rattle.std.proofs.lemmas.List.Folds.{list_any-append}
use Rattle.sudo_grammar.specs.declared.policy.Policy.{Policy}
use Rattle.sudo_match.specs.declared.people.Group.{Group}
use Rattle.sudo_match.specs.declared.people.Machine.{Machine}
use Rattle.sudo_match.specs.declared.people.Person.{Person}
use Rattle.sudo_match.specs.KnownRows.{KnownRows}
use Rattle.sudo_verdict.specs.Questions.{Question, question_as}
use Rattle.review_compare.specs.declared.ask_class.AskClass.{AskClass}
use Rattle.review_compare.specs.declared.block.Block.{Block}
use Rattle.review_compare.specs.declared.cell.Ask.{Ask}
use Rattle.review_compare.specs.declared.cell.Cell.{Cell}
use Rattle.review_compare.specs.declared.host_class.HostClass.{HostClass}
use Rattle.review_compare.specs.declared.compared.Compared.{Compared}
use Rattle.review_compare.specs.declared.pair.Pair.{Pair}
use Rattle.review_compare.specs.declared.row.Row.{Row}
use Rattle.review_compare.specs.declared.spot.Listed.{Listed}
use Rattle.review_compare.specs.declared.spot.Spot.{Spot}
use Rattle.review_compare.specs.Cells.{Decider, deciders}
use Rattle.review_compare.specs.Differences.{IsDone, known_at, question_at}
use Rattle.review_compare.specs.Body.Chosen.{AreListed, deciders_at, listed_at, runas_at, standing_at}
use Rattle.review_compare.specs.Body.ChangedRows.{AreChanged}
use Rattle.review_compare.specs.Body.AskClasses.{AreAsked, changed_by}
use Rattle.review_compare.specs.Body.Near.{IsFoundNear, each_one, near_deciders, near_of}
use Rattle.review_compare.specs.Body.Classes.{AddsCells, AddsHosts, AreRightIn, AreSameBlocks, HaveHost, IsClass, IsClassed}
use Rattle.review_compare.specs.Body.Classes.{IsFoundAt, IsOnClasses, IsWith}
use Rattle.review_compare.specs.Body.Merged.{is_among}
use Rattle.review_compare.specs.Body.Progress.{asking, AreListedIn, IsBefore, IsOnAsked, IsOnEach, IsSpot, Progress, cell_at}
use Rattle.review_compare.specs.Body.Progress.{question_of}
use Rattle.review_compare.proofs.ChosenLemmas.{stands-at}
use Rattle.review_compare.proofs.DifferenceLemmas.{spot-question}
use Rattle.review_compare.proofs.NearLemmas.{found-moved, near_new, near_old, pair-all, pair-near}
use Rattle.review_compare.proofs.UnchangedLemmas.{less-or, other-host-runas}

-- ---- The near blocks that stand on two hosts

module _ (p : Policy) (bs : List Block) (near : List ℕ) (d : KnownRows) (u : Person) (m n : Machine) (t : Option Person)
    (g : Option Group) where
  at-each : (is : List ℕ) → list_all (listed_at p bs u m) is ≡ true → list_all (listed_at p bs u n) is ≡ true →
      near_deciders p bs is (question_as d u m t g) ≡ near_deciders p bs is (question_as d u n t g)
  at-each [] on also = refl
  at-each (i ∷ is) on also =
      let own = and_parts (listed_at p bs u m i) (list_all (listed_at p bs u m) is) on in
      let its = and_parts (listed_at p bs u n i) (list_all (listed_at p bs u n) is) also in
      let q = question_as d u m t g in
      let r = question_as d u n t g in
      ap (λ (ds : List Decider). ds ++ near_deciders p bs is q)
      (stands-at p bs q i (runas_at p bs q i) own.0 refl
      ∙ ap (λ v. cond v (deciders_at bs i) []) (other-host-runas p bs d u m n t g i)
      ∙ sym (stands-at p bs r i (runas_at p bs r i) its.0 refl))
      ∙ ap (λ (ds : List Decider). standing_at p bs r each_one i ++ ds) (at-each is own.1 its.1)

  same-near : (is : List ℕ) → AreListed p bs near u m is → AreListed p bs near u n is →
      near_deciders p bs near (question_as d u m t g) ≡ near_deciders p bs near (question_as d u n t g)
  same-near is own its =
      sym (own.all (question_as d u m t g) each_one refl refl) ∙ at-each is own.each its.each
      ∙ its.all (question_as d u n t g) each_one refl refl

-- ---- Cells of a spot

pub or-false : (b : Bool) → (b || false) ≡ b
or-false true = refl
or-false false = refl

pub single : (x y : ℕ) → list_any (λ u. u == y) (x ∷ []) ≡ (x == y)
single x y = or-false (x == y)

pub same-self : (n : ℕ) → (n == n) ≡ true
same-self n = grind arith

at-self : (host : ℕ) → list_any (λ m. m == host) (host ∷ []) ≡ true
at-self host = single host host ∙ same-self host

pub asked-here : (p : Pair) (s : Spot) (c : Cell) → IsSpot p s → c.user ≡ s.user → c.host ≡ s.host →
    question_at p.directory.now p.groups.now c ≡ Some (question_of p s c.ask)
asked-here p s c at user on =
    let is : c ≡ cell_at s c.ask = rw (sym user, sym on) refl in
    ap (question_at p.directory.now p.groups.now) is ∙ spot-question p s c.ask at

abbrev at-host : ℕ → Cell → Cell
at-host host c = record { user = c.user; host = host; ask = c.ask }

-- ---- Classes

-- each policy has the same near rows at both spots, for every ask
abbrev HaveSameRows : Pair → Spot → Spot → Type 0
HaveSameRows p s k = (a : Ask) →
    (near_old p (question_of p k a) ≡ near_old p (question_of p s a)) × (near_new p (question_of p k a) ≡ near_new p (question_of p s a))

-- the outcome of the comparison at one spot is right at the other
moved-there : (p : Pair) (s k : Spot) (a : Ask) → HaveSameRows p s k → (f : Compared) →
    IsFoundNear (changed_by p) (deciders p.old.checked.now (question_of p k a)) (deciders p.new.checked.now (question_of p k a)) f →
    IsFoundNear (changed_by p) (deciders p.old.checked.now (question_of p s a)) (deciders p.new.checked.now (question_of p s a)) f
moved-there p s k a rows f is =
    let q = question_of p k a in
    let r = question_of p s a in
    let ds = deciders p.old.checked.now q in
    let es = deciders p.new.checked.now q in
    let here = pair-near p q in
    let there = pair-near p r in
    found-moved ds es (deciders p.old.checked.now r) (deciders p.new.checked.now r) (changed_by p) (near_old p r) (near_new p r)
    (subst (λ (ns : List Decider). AreChanged ds es (changed_by p) ns (near_new p r)) (rows a).0
    (subst (λ (ms : List Decider). AreChanged ds es (changed_by p) (near_old p q) ms) (rows a).1 (pair-all p q)))
    (pair-all p r) (here.0 ∙ ap (near_of (changed_by p)) (rows a).0 ∙ sym there.0)
    (here.1 ∙ ap (near_of (changed_by p)) (rows a).1 ∙ sym there.1) f is

-- two hosts on which the same blocks list the user have the same near rows
same-rows : (p : Pair) (s k : Spot) (l j : Listed) → s.person.now ≡ k.person.now → AreListedIn p s l → AreListedIn p k j →
    AreSameBlocks j l → HaveSameRows p s k
same-rows p s k l j own listed its same a =
    let d = p.directory.now in
    let t = known_at d.people a.target in
    let g = known_at p.groups.now a.group in
    let asked : Person → Question = λ u. question_as d u k.machine.now t g in (
      ap (λ (u : Person). near_old p (asked u)) (sym own)
          ∙ same-near p.old.checked.now p.old.blocks.items p.near.old.items d s.person.now k.machine.now s.machine.now t g l.old.items
          (subst (λ (u : Person). AreListed p.old.checked.now p.old.blocks.items p.near.old.items u k.machine.now l.old.items) (sym own)
          (subst (AreListed p.old.checked.now p.old.blocks.items p.near.old.items k.person.now k.machine.now) same.0 its.old)) listed.old,
      ap (λ (u : Person). near_new p (asked u)) (sym own)
          ∙ same-near p.new.checked.now p.new.blocks.items p.near.new.items d s.person.now k.machine.now s.machine.now t g l.new.items
          (subst (λ (u : Person). AreListed p.new.checked.now p.new.blocks.items p.near.new.items u k.machine.now l.new.items) (sym own)
          (subst (AreListed p.new.checked.now p.new.blocks.items p.near.new.items k.person.now k.machine.now) same.1 its.new)) listed.new,
    )

-- ---- The hosts of classes

have-first : (ks : List HostClass) (k : HostClass) (host : ℕ) → HaveHost ks host → HaveHost (ks ++ k ∷ []) host
have-first [] k host e = absurd e
have-first (j ∷ ks) k host (inl here) = inl here
have-first (j ∷ ks) k host (inr more) = inr (have-first ks k host more)

have-last : (ks : List HostClass) (k : HostClass) (host : ℕ) → is_among k.hosts.items host ≡ true → HaveHost (ks ++ k ∷ []) host
have-last [] k host on = inl on
have-last (j ∷ ks) k host on = inr (have-last ks k host on)

-- a further class
pub adds-class : (ks : List HostClass) (k : HostClass) (hosts : List ℕ) → k.hosts.items ≡ hosts → AddsHosts ks hosts (ks ++ k ∷ [])
adds-class ks k hosts are = record {
  kept = λ other on. have-first ks k other on;
  added = λ host on. have-last ks k host (ap (λ hs. is_among hs host) are ∙ on);
}

-- ---- A class with further hosts

among-append : (hosts more : List ℕ) (host : ℕ) → is_among (hosts ++ more) host ≡ (is_among hosts host || is_among more host)
among-append hosts more host = list_any-append (λ m. m == host) hosts more

-- what is found at the first spot of a class is right at a spot where the same blocks list the user
pub right-there : (p : Pair) (s : Spot) (l : Listed) (ks : List AskClass) (k : HostClass) → IsSpot p s → AreListedIn p s l →
    AreSameBlocks k.listed l → IsClass p s.user s.person.now ks k → AreRightIn p s.user (s.host ∷ []) ks k.founds.items
right-there p s l ks k at listed same class = (
  class.right.0,
  λ n d e less c on. there c (get_or k.founds.items n e) on.0
      (sym (eqb-true s.host c.host (sym (single s.host c.host) ∙ on.1)))
      (class.right.1 n d e less (at-host k.spot.host c) (on.0, class.among, on.2)),
)
  where
    there : (c : Cell) (f : Compared) → c.user ≡ s.user → c.host ≡ s.host →
        IsFoundAt p (question_at p.directory.now p.groups.now (at-host k.spot.host c)) f →
        IsFoundAt p (question_at p.directory.now p.groups.now c) f
    there c f own on is =
        let first : IsFoundNear (changed_by p) (deciders p.old.checked.now (question_of p k.spot c.ask))
        (deciders p.new.checked.now (question_of p k.spot c.ask)) f =
        subst (λ (o : Option Question). IsFoundAt p o f)
        (asked-here p k.spot (at-host k.spot.host c) class.spot (own ∙ sym class.own) refl) is in
        subst (λ (o : Option Question). IsFoundAt p o f) (sym (asked-here p s c at own on))
        (moved-there p s k.spot c.ask (same-rows p s k.spot l k.listed (sym class.person) listed class.listed same) f first)

pub first-class : (p : Pair) (s : Spot) (l : Listed) (ks : List AskClass) (founds : Vec Compared Global) (hosts : Vec ℕ Global) →
    IsSpot p s → AreListedIn p s l → AreRightIn p s.user (s.host ∷ []) ks founds.items → hosts.items ≡ s.host ∷ [] →
    IsClass p s.user s.person.now ks (record { spot = s; listed = l; founds = founds; hosts = hosts })
first-class p s l ks founds hosts at listed right are = record {
  spot = at;
  own = refl;
  person = refl;
  listed = listed;
  among = ap (λ hs. is_among hs s.host) are ∙ at-self s.host;
  right = subst (λ hs. AreRightIn p s.user hs ks founds.items) (sym are) right;
}

-- what is found is right on further hosts
pub class-with : (p : Pair) (user : ℕ) (u : Person) (ks : List AskClass) (k new : HostClass) (more : List ℕ) → IsClass p user u ks k →
    AreRightIn p user more ks k.founds.items → IsWith more k new → IsClass p user u ks new
class-with p user u ks k new more class right is = record {
  spot = subst (IsSpot p) (sym is.spot) class.spot;
  own = ap (λ (t : Spot). t.user) is.spot ∙ class.own;
  person = ap (λ (t : Spot). t.person.now) is.spot ∙ class.person;
  listed = subst (λ (t : Spot). AreListedIn p t new.listed) (sym is.spot)
      (subst (λ (j : Listed). AreListedIn p k.spot j) (sym is.listed) class.listed);
  among = ap (λ (t : Spot). is_among new.hosts.items t.host) is.spot ∙ ap (λ hs. is_among hs k.spot.host) is.hosts_are
      ∙ among-append k.hosts.items more k.spot.host
      ∙ or_left (is_among k.hosts.items k.spot.host) (is_among more k.spot.host) class.among;
  right = (
    ap (λ (fs : Vec Compared Global). length fs.items) is.founds ∙ class.right.0,
    λ n d e less c on.
        subst (λ (fs : Vec Compared Global). IsFoundAt p (question_at p.directory.now p.groups.now c) (get_or fs.items n e))
        (sym is.founds)
        (go n d e less c on.0 on.2 (or_cases (is_among k.hosts.items c.host) (is_among more c.host)
        (sym (among-append k.hosts.items more c.host) ∙ ap (λ hs. is_among hs c.host) (sym is.hosts_are) ∙ on.1))),
  );
}
  where
    go : (n : ℕ) (d : AskClass) (e : Compared) → n < length ks → (c : Cell) → c.user ≡ user →
        AreAsked (asking p) (get_or ks n d).asked.items c.ask →
        (is_among k.hosts.items c.host ≡ true) ⊎ (is_among more c.host ≡ true) →
        IsFoundAt p (question_at p.directory.now p.groups.now c) (get_or k.founds.items n e)
    go n d e less c own asked (inl on) = class.right.1 n d e less c (own, on, asked)
    go n d e less c own asked (inr on) = right.1 n d e less c (own, on, asked)

-- the class in place of the one at an index
pub have-set : (ks : List HostClass) (i : ℕ) (k new : HostClass) (hosts : List ℕ) → i < length ks → get_or ks i k ≡ k →
    IsWith hosts k new → AddsHosts ks hosts (slice_set ks i new)
have-set ks i k new hosts less is with_hosts = record {
  kept = λ other on. kept ks i less is other on;
  added = λ host on. added host on ks i less is;
}
  where
    kept : (js : List HostClass) (n : ℕ) → n < length js → get_or js n k ≡ k → (other : ℕ) → HaveHost js other →
        HaveHost (slice_set js n new) other
    kept [] n more own other on = absurd on
    kept (j ∷ js) zero more own other (inl on) =
        inl (ap (λ hs. is_among hs other) with_hosts.hosts_are ∙ among-append k.hosts.items hosts other
        ∙ or_left (is_among k.hosts.items other) (is_among hosts other)
        (ap (λ (m : HostClass). is_among m.hosts.items other) (sym own) ∙ on))
    kept (j ∷ js) zero more own other (inr on) = inr on
    kept (j ∷ js) (suc n) more own other (inl on) = inl on
    kept (j ∷ js) (suc n) more own other (inr on) = inr (kept js n (omega (arith, more)) own other on)

    added : (host : ℕ) → is_among hosts host ≡ true → (js : List HostClass) (n : ℕ) → n < length js → get_or js n k ≡ k →
        HaveHost (slice_set js n new) host
    added host on [] n more own = absurd (omega (arith, more))
    added host on (j ∷ js) zero more own =
        inl (ap (λ hs. is_among hs host) with_hosts.hosts_are ∙ among-append k.hosts.items hosts host
        ∙ or_right (is_among k.hosts.items host) (is_among hosts host) on)
    added host on (j ∷ js) (suc n) more own = inr (added host on js n (omega (arith, more)) own)

-- ---- The hosts so far

pub cells-none : (p : Pair) (ks : List HostClass) (cells : Cell → Type 0) → Progress p [] [] cells → AddsCells p ks cells ks
cells-none p ks cells all = record {
  kept = λ host on. on;
  added = λ c at. go c (all.done c at);
}
  where
    go : (c : Cell) → IsDone p.old.checked.now p.new.checked.now p.directory.now p.groups.now [] c → IsClassed p ks c
    go c (inl same) = inl same
    go c (inr e) = absurd e.1

pub cells-of : (p : Pair) (old new : List HostClass) (user host : ℕ) (scope : Option Machine) (asked : Ask → Type 0) →
    AddsHosts old (host ∷ []) new → AddsCells p old (IsOnAsked p scope user host asked) new
cells-of p old new user host scope asked adds = record {
  kept = adds.kept;
  added = λ c on. inr (subst (λ (n : ℕ). HaveHost new n) (sym on.0.1) (adds.added host (at-self host)));
}

classed-kept : (p : Pair) (old new : List HostClass) (c : Cell) → ((host : ℕ) → HaveHost old host → HaveHost new host) →
    IsClassed p old c → IsClassed p new c
classed-kept p old new c kept (inl same) = inl same
classed-kept p old new c kept (inr on) = inr (kept c.host on)

pub hosts-more : (p : Pair) (old new : List HostClass) (user host : ℕ) (scope : Option Machine) (asked : Ask → Type 0) →
    ((c : Cell) → IsBefore p scope user host asked c → IsClassed p old c) → AddsCells p old (IsOnAsked p scope user host asked) new →
    (c : Cell) → IsBefore p scope user (host + 1) asked c → IsClassed p new c
hosts-more p old new user host scope asked so_far one c at = go (less-or c.host host at.1)
  where
    go : (c.host < host) ⊎ (c.host ≡ host) → IsClassed p new c
    go (inl less) = classed-kept p old new c one.kept (so_far c (at.0, less, at.2, at.3))
    go (inr is) = one.added c ((at.0, is, at.2), at.3)

-- the rows of the classes of all hosts
pub classes-done : (p : Pair) (rows : List Row) (ks : List HostClass) (user : ℕ) (scope : Option Machine) (asked : Ask → Type 0) →
    ((c : Cell) → IsOnEach p scope user asked c → IsClassed p ks c) → Progress p [] rows (IsOnClasses user ks asked) →
    Progress p [] rows (IsOnEach p scope user asked)
classes-done p rows ks user scope asked all so_far = record {
  kept = so_far.kept;
  right = so_far.right;
  done = λ c at. go c at (all c at);
}
  where
    go : (c : Cell) → IsOnEach p scope user asked c → IsClassed p ks c →
        IsDone p.old.checked.now p.new.checked.now p.directory.now p.groups.now rows c
    go c at (inl same) = inl same
    go c at (inr on) = so_far.done c (at.0, on, at.1)
