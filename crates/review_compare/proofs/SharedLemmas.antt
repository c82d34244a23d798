-- Asks that the same near rows decide, whoever asks.
use Rattle.std.proofs.Common.{◌≡◌, ◌<◌, ◌+◌, ◌∙◌, ◌⊎◌, inl, inr, ℕ, suc, zero, All, Bool, ◌&&◌, cond, List, [], ◌∷◌, ◌++◌}
use Rattle.std.proofs.Common.{ap, arith, refl, subst, sym, get_or, length, map, take, Option, Some, None, option_copied}
use Rattle.std.specs.Prelude.{slice_get}
use Rattle.std.specs.List.{Contains}
use Rattle.std.proofs.lemmas.List.Elements.{Contains-push_cases}
use Rattle.sudo_grammar.specs.declared.policy.Policy.{Policy}
use Rattle.sudo_match.specs.declared.people.Machine.{Machine}
use Rattle.sudo_match.specs.declared.people.Person.{Person}
use Rattle.sudo_verdict.specs.Values.{host_allowed, user_allowed}
use Rattle.sudo_verdict.specs.RunasForms.{runas_allows}
use Rattle.sudo_verdict.specs.Questions.{Question}
use Rattle.review_grants.proofs.ListSteps.{take-more}
use Rattle.review_compare.specs.declared.ask_class.AskClass.{AskClass}
use Rattle.review_compare.specs.declared.ask_class.AskedWith.{AskedWith}
use Rattle.review_compare.specs.declared.block.Block.{Block}
use Rattle.review_compare.specs.declared.cell.Ask.{Ask}
use Rattle.review_compare.specs.declared.cell.Cell.{Cell}
use Rattle.review_compare.specs.declared.pair.Pair.{Pair}
use Rattle.review_compare.specs.declared.row.Row.{Row}
use Rattle.review_compare.specs.declared.cell.AskedGroups.{AskedGroups}
use Rattle.review_compare.specs.declared.cell.AskedGroups.TheVariants as which
use Rattle.review_compare.specs.declared.cell.AskedTargets.{AskedTargets}
use Rattle.review_compare.specs.declared.shared.AnsweredAsks.{AnsweredAsks}
use Rattle.review_compare.specs.declared.shared.Answers.{Answers}
use Rattle.review_compare.specs.declared.shared.SharedAsks.{SharedAsks}
use Rattle.review_compare.specs.declared.shared.SplitAsks.{SplitAsks}
use Rattle.review_compare.specs.declared.spot.Listed.{Listed}
use Rattle.review_compare.specs.Blocks.{block_decider}
use Rattle.review_compare.specs.Cells.{Decider}
use Rattle.review_compare.specs.Differences.{Asking, IsDone, targets_of}
use Rattle.review_compare.specs.Body.AskClasses.{AreAsked, Decide, IsAskClass, IsAskedWith, changed_by, plain}
use Rattle.review_compare.specs.Body.Chosen.{runas_at, runas_if, standing_among, standing_if}
use Rattle.review_compare.specs.Body.Classes.{AreSameBlocks}
use Rattle.review_compare.specs.Body.Near.{each_one, near_of}
use Rattle.review_compare.specs.Body.Progress.{AreLeft, IsForAsked, IsOnEach, Progress, ask_of, asking}
use Rattle.review_compare.specs.Body.SharedAsks.{AreAlike, AreBriefly, HaveAnswered, HaveShared, IsAnsweredAlike}
use Rattle.review_compare.specs.Body.SharedAsks.{IsBriefly, IsShared, IsSplit}
use Rattle.review_compare.specs.Body.Whoever.{AreAnswered, AreFormsIn}
use Rattle.review_compare.proofs.AskLemmas.{decide-same}
use Rattle.review_compare.proofs.DifferenceLemmas.{asks-left, each-asked}
use Rattle.review_compare.proofs.WhoeverLemmas.{answered-alike}

-- ---- The same near rows stand

stands-alike : (p : Policy) (q r : Question) (o : Option Block) → q.user ≡ r.user → q.host ≡ r.host → runas_if p q o ≡ runas_if p r o →
    standing_if p q o ≡ standing_if p r o
stands-alike p q r None user host same = refl
stands-alike p q r (Some b) user host same =
    ap (λ (u : Person). cond ((user_allowed p b.users.now u && host_allowed p b.hosts.now q.host) && runas_allows p q (option_copied
    b.runas)) (map (block_decider b) b.rows.items) []) user
    ∙ ap (λ (m : Machine). cond ((user_allowed p b.users.now r.user && host_allowed p b.hosts.now m) && runas_allows p q (option_copied
    b.runas)) (map (block_decider b) b.rows.items) []) host
    ∙ ap (λ v. cond ((user_allowed p b.users.now r.user && host_allowed p b.hosts.now r.host) && v) (map (block_decider b)
    b.rows.items) []) same

among-alike : (p : Policy) (bs : List Block) (q r : Question) (is : List ℕ) → q.user ≡ r.user → q.host ≡ r.host →
    ((k : ℕ) → k < length is → runas_at p bs q (get_or is k 0) ≡ runas_at p bs r (get_or is k 0)) →
    standing_among p bs q each_one is ≡ standing_among p bs r each_one is
among-alike p bs q r [] user host same = refl
among-alike p bs q r (i ∷ is) user host same =
    ap (λ (ds : List Decider). ds ++ standing_among p bs q each_one is)
    (stands-alike p q r (slice_get bs i) user host (same 0 (omega arith)))
    ∙ ap (λ (ds : List Decider). standing_if p r (slice_get bs i) ++ ds)
    (among-alike p bs q r is user host (λ k less. same (suc k) (omega (arith, less))))

-- asks to which the blocks answer the same are alike
pub answered-are-alike : (p : Pair) (forms : Listed) (a b : Ask) (old new : List Bool) → AreFormsIn p forms →
    AreAnswered p forms a old new → AreAnswered p forms b old new → AreAlike p a b
answered-are-alike p forms a b old new are own its = record {
  old = λ u m. ap (λ (ds : List Decider). near_of (changed_by p) ds)
      (among-alike p.old.checked.now p.old.blocks.items (ask_of p u m a) (ask_of p u m b) p.near.old.items refl refl
      (λ k less. answered-alike p.old.checked.now p.old.blocks.items (ask_of p u m a) (ask_of p u m b) forms.old.items old own.in_old.long
      (own.in_old.are u m) (its.in_old.are u m) (get_or p.near.old.items k 0) (are.old k less)));
  new = λ u m. ap (λ (ds : List Decider). near_of (changed_by p) ds)
      (among-alike p.new.checked.now p.new.blocks.items (ask_of p u m a) (ask_of p u m b) p.near.new.items refl refl
      (λ k less. answered-alike p.new.checked.now p.new.blocks.items (ask_of p u m a) (ask_of p u m b) forms.new.items new own.in_new.long
      (own.in_new.are u m) (its.in_new.are u m) (get_or p.near.new.items k 0) (are.new k less)));
}

-- where an ask is decided, one that is alike is
pub decide-alike : (p : Pair) (u : Person) (a b : Ask) (l : Listed) → AreAlike p a b → Decide p u b l → Decide p u a l
decide-alike p u a b l alike decide = record {
  old = λ m. alike.old u m ∙ decide.old m;
  new = λ m. alike.new u m ∙ decide.new m;
}

-- ---- Copies of asks

abbrev head : List (AskedGroups × List AskedTargets) → AskedGroups × List AskedTargets
head [] = (which.Own, [])
head (x ∷ xs) = x

abbrev tail : List (AskedGroups × List AskedTargets) → List (AskedGroups × List AskedTargets)
tail [] = []
tail (x ∷ xs) = xs

plain-append : (ws vs : List AskedWith) → map plain (ws ++ vs) ≡ map plain ws ++ map plain vs
plain-append [] vs = refl
plain-append (w ∷ ws) vs = ap (λ (xs : List (AskedGroups × List AskedTargets)). plain w ∷ xs) (plain-append ws vs)

module _ (asks : Asking) where
  moved : (w v : AskedWith) (a : Ask) → plain w ≡ plain v → IsAskedWith asks w a → IsAskedWith asks v a
  moved w v a e is = (
    ap (λ (x : AskedGroups × List AskedTargets). asks a.target a.group x.0) (sym e) ∙ is.0,
    subst (λ (ts : List AskedTargets). Contains (targets_of ts) a.target) (ap (λ (x : AskedGroups × List AskedTargets). x.1) e) is.1,
  )

  pub plain-asked : (ws vs : List AskedWith) → map plain ws ≡ map plain vs → (a : Ask) → AreAsked asks ws a → AreAsked asks vs a
  plain-asked [] vs same a e = absurd e
  plain-asked (w ∷ ws) [] same a e = cc
  plain-asked (w ∷ ws) (v ∷ vs) same a (inl here) = inl (moved w v a (ap head same) here)
  plain-asked (w ∷ ws) (v ∷ vs) same a (inr more) = inr (plain-asked ws vs (ap tail same) a more)

  -- the asks of both lists, and no others, are in a copy of both
  pub both-asked : (ws vs new : List AskedWith) → map plain new ≡ map plain ws ++ map plain vs → (a : Ask) → AreAsked asks new a →
      AreAsked asks ws a ⊎ AreAsked asks vs a
  both-asked [] vs new same a e = inr (plain-asked new vs same a e)
  both-asked (w ∷ ws) vs [] same a e = absurd e
  both-asked (w ∷ ws) vs (n ∷ new) same a (inl here) = inl (inl (moved n w a (ap head same) here))
  both-asked (w ∷ ws) vs (n ∷ new) same a (inr more) = go (both-asked ws vs new (ap tail same) a more)
    where
      go : AreAsked asks ws a ⊎ AreAsked asks vs a → AreAsked asks (w ∷ ws) a ⊎ AreAsked asks vs a
      go (inl e) = inl (inr e)
      go (inr e) = inr e

  asked-left : (ws vs : List AskedWith) (a : Ask) → AreAsked asks ws a → AreAsked asks (ws ++ vs) a
  asked-left [] vs a e = absurd e
  asked-left (w ∷ ws) vs a (inl here) = inl here
  asked-left (w ∷ ws) vs a (inr more) = inr (asked-left ws vs a more)

  asked-right : (ws vs : List AskedWith) (a : Ask) → AreAsked asks vs a → AreAsked asks (ws ++ vs) a
  asked-right [] vs a e = e
  asked-right (w ∷ ws) vs a e = inr (asked-right ws vs a e)

  pub own-copied : (ws vs new : List AskedWith) → map plain new ≡ map plain ws ++ map plain vs → (a : Ask) → AreAsked asks ws a →
      AreAsked asks new a
  own-copied ws vs new same a e = plain-asked (ws ++ vs) new (plain-append ws vs ∙ sym same) a (asked-left ws vs a e)

  pub more-copied : (ws vs new : List AskedWith) → map plain new ≡ map plain ws ++ map plain vs → (a : Ask) → AreAsked asks vs a →
      AreAsked asks new a
  more-copied ws vs new same a e = plain-asked (ws ++ vs) new (plain-append ws vs ∙ sym same) a (asked-right ws vs a e)

-- ---- Classes of a user

-- a class with asks that are alike to one that the same blocks decide
pub class-shared : (p : Pair) (u : Person) (r k : AskClass) (s : SharedAsks) (l : Listed) → IsAskClass p u r → AreSameBlocks r.allowing l →
    IsShared p s → Decide p u s.first l → k.allowing ≡ r.allowing →
    map plain k.asked.items ≡ map plain r.asked.items ++ map plain s.asked.items → IsAskClass p u k
class-shared p u r k s l is same shared decide allowing copied a e =
    subst (Decide p u a) (sym allowing) (go (both-asked (asking p) r.asked.items s.asked.items k.asked.items copied a e))
  where
    go : AreAsked (asking p) r.asked.items a ⊎ AreAsked (asking p) s.asked.items a → Decide p u a r.allowing
    go (inl before) = is a before
    go (inr here) = decide-same p u a l r.allowing same (decide-alike p u a s.first l (shared a here) decide)

-- a class of such asks alone
pub class-of-shared : (p : Pair) (u : Person) (k : AskClass) (s : SharedAsks) (l : Listed) → IsShared p s → Decide p u s.first l →
    k.allowing ≡ l → map plain k.asked.items ≡ map plain s.asked.items → IsAskClass p u k
class-of-shared p u k s l shared decide allowing copied a e =
    subst (Decide p u a) (sym allowing)
    (decide-alike p u a s.first l (shared a (plain-asked (asking p) k.asked.items s.asked.items copied a e)) decide)

-- ---- Classes for all users

-- a class with a further ask to which the blocks answer the same
pub shared-added : (p : Pair) (forms : Listed) (r s : AnsweredAsks) (ask : Ask) (old new : List Bool) → IsAnsweredAlike p forms r →
    r.answers.old.items ≡ old → r.answers.new.items ≡ new → AreAnswered p forms ask old new → s.first ≡ r.first →
    s.answers ≡ r.answers → s.asks.items ≡ r.asks.items ++ ask ∷ [] → IsAnsweredAlike p forms s
shared-added p forms r s ask old new is in_old in_new answered first same adds = record {
  first = moved s.first (subst (λ (a : Ask). AreAnswered p forms a r.answers.old.items r.answers.new.items) (sym first) is.first);
  each = λ a e. moved a (go a (Contains-push_cases r.asks.items ask a (subst (λ (xs : List Ask). Contains xs a) adds e)));
}
  where
    moved : (a : Ask) → AreAnswered p forms a r.answers.old.items r.answers.new.items →
        AreAnswered p forms a s.answers.old.items s.answers.new.items
    moved a it = subst (λ (v : Answers). AreAnswered p forms a v.old.items v.new.items) (sym same) it

    its : AreAnswered p forms ask r.answers.old.items r.answers.new.items
    its =
        subst (λ (xs : List Bool). AreAnswered p forms ask xs r.answers.new.items) (sym in_old)
        (subst (λ (ys : List Bool). AreAnswered p forms ask old ys) (sym in_new) answered)

    go : (a : Ask) → Contains r.asks.items a ⊎ (ask ≡ a) → AreAnswered p forms a r.answers.old.items r.answers.new.items
    go a (inl before) = is.each a before
    go a (inr here) = subst (λ (b : Ask). AreAnswered p forms b r.answers.old.items r.answers.new.items) here its

-- a class of one ask
pub shared-of-one : (p : Pair) (forms : Listed) (s : AnsweredAsks) (ask : Ask) (v : Answers) →
    AreAnswered p forms ask v.old.items v.new.items → s.first ≡ ask → s.answers ≡ v → s.asks.items ≡ ask ∷ [] → IsAnsweredAlike p forms s
shared-of-one p forms s ask v answered first same are = record {
  first = subst (λ (a : Ask). AreAnswered p forms a s.answers.old.items s.answers.new.items) (sym first) its;
  each = λ a e. go a (Contains-push_cases [] ask a (subst (λ (xs : List Ask). Contains xs a) are e));
}
  where
    its : AreAnswered p forms ask s.answers.old.items s.answers.new.items
    its = subst (λ (w : Answers). AreAnswered p forms ask w.old.items w.new.items) (sym same) answered

    go : (a : Ask) → Contains {X = Ask} [] a ⊎ (ask ≡ a) → AreAnswered p forms a s.answers.old.items s.answers.new.items
    go a (inl none) = absurd (omega (arith, none.1))
    go a (inr here) = subst (λ (b : Ask). AreAnswered p forms b s.answers.old.items s.answers.new.items) here its

-- a class with brief entries has the same asks
pub briefly-shared : (p : Pair) (forms : Listed) → AreFormsIn p forms → (k : AnsweredAsks) (s : SharedAsks) → IsAnsweredAlike p forms k →
    IsBriefly p k s → IsShared p s
briefly-shared p forms are k s is brief a e = go ((brief.asked).only a e)
  where
    go : AreAsked (asking p) [] a ⊎ Contains k.asks.items a → AreAlike p a s.first
    go (inl none) = absurd none
    go (inr there) = subst (λ (b : Ask). AreAlike p a b) (sym brief.first)
        (answered-are-alike p forms a k.first k.answers.old.items k.answers.new.items are (is.each a there) is.first)

pub all-briefly : (p : Pair) (forms : Listed) → AreFormsIn p forms → (ks : List AnsweredAsks) (ss : List SharedAsks) →
    All (IsAnsweredAlike p forms) ks → AreBriefly p ks ss → All (IsShared p) ss
all-briefly p forms are [] [] all brief = λ n d less. absurd (omega (arith, less))
all-briefly p forms are [] (s ∷ ss) all brief = absurd brief
all-briefly p forms are (k ∷ ks) [] all brief = absurd brief
all-briefly p forms are (k ∷ ks) (s ∷ ss) all brief =
    by (briefly-shared p forms are k s (all 0 k (omega arith)) brief.0)
    (all-briefly p forms are ks ss (λ n d less. all (suc n) d (omega (arith, less))) brief.1)
  where
    by : IsShared p s → All (IsShared p) ss → (n : ℕ) (d : SharedAsks) → n < length (s ∷ ss) → IsShared p (get_or (s ∷ ss) n d)
    by first rest zero d less = first
    by first rest (suc n) d less = rest n d (omega (arith, less))

pub have-briefly : (p : Pair) (ks : List AnsweredAsks) (ss : List SharedAsks) → AreBriefly p ks ss → (a : Ask) → HaveAnswered ks a →
    HaveShared (asking p) ss a
have-briefly p [] ss brief a e = absurd e
have-briefly p (k ∷ ks) [] brief a e = absurd brief
have-briefly p (k ∷ ks) (s ∷ ss) brief a (inl here) = inl (((brief.0).asked).added a here)
have-briefly p (k ∷ ks) (s ∷ ss) brief a (inr more) = inr (have-briefly p ks ss brief.1 a more)

-- asks that are split stay so with brief entries
pub still-split : (p : Pair) (ks : List AnsweredAsks) (ss : List SharedAsks) (own : List Ask) → AreBriefly p ks ss → (a : Ask) →
    Contains own a ⊎ HaveAnswered ks a → Contains own a ⊎ HaveShared (asking p) ss a
still-split p ks ss own brief a (inl e) = inl e
still-split p ks ss own brief a (inr e) = inr (have-briefly p ks ss brief a e)

-- one further class with brief entries
pub briefly-more : (p : Pair) (ks : List AnsweredAsks) (ss : List SharedAsks) (k : AnsweredAsks) (s : SharedAsks) → AreBriefly p ks ss →
    IsBriefly p k s → AreBriefly p (ks ++ k ∷ []) (ss ++ s ∷ [])
briefly-more p [] [] k s are is = (is, tt)
briefly-more p [] (t ∷ ss) k s are is = absurd are
briefly-more p (j ∷ ks) [] k s are is = absurd are
briefly-more p (j ∷ ks) (t ∷ ss) k s are is = (are.0, briefly-more p ks ss k s are.1 is)

-- ---- The asks that are left

-- one ask more is split
pub split-more : (asks own more : List Ask) (ss ts : List AnsweredAsks) (n : ℕ) (ask : Ask) → n < length asks → ask ≡ get_or asks n ask →
    ((a : Ask) → Contains (take n asks) a → Contains own a ⊎ HaveAnswered ss a) →
    ((a : Ask) → (Contains own a → Contains more a) × (HaveAnswered ss a → HaveAnswered ts a)) → Contains more ask ⊎ HaveAnswered ts ask →
    (a : Ask) → Contains (take (n + 1) asks) a → Contains more a ⊎ HaveAnswered ts a
split-more asks own more ss ts n ask less is so_far kept has a there =
    go (Contains-push_cases (take n asks) ask a (subst (λ (xs : List Ask). Contains xs a) (take-more asks n ask less is) there))
  where
    still : Contains own a ⊎ HaveAnswered ss a → Contains more a ⊎ HaveAnswered ts a
    still (inl e) = inl ((kept a).0 e)
    still (inr e) = inr ((kept a).1 e)

    go : Contains (take n asks) a ⊎ (ask ≡ a) → Contains more a ⊎ HaveAnswered ts a
    go (inl before) = still (so_far a before)
    go (inr here) = subst (λ (b : Ask). Contains more b ⊎ HaveAnswered ts b) here has

-- what is found where the asks of classes are asked is found where each ask is
pub split-asked : (p : Pair) (rows : List Row) (user : ℕ) (u : Person) (scope : Option Machine) (split : SplitAsks) (left : List Ask)
    (asked : Ask → Type 0) → slice_get p.directory.now.people user ≡ Some u → IsSplit p split → AreLeft p u split.own.items left →
    ((a : Ask) → Contains left a → asked a) → ((a : Ask) → HaveShared (asking p) split.shared.items a → asked a) →
    Progress p [] rows (IsOnEach p scope user asked) → Progress p [] rows (IsForAsked p scope user split.all.items)
split-asked p rows user u scope split left asked there is are own shared made = record {
  kept = made.kept;
  right = made.right;
  done = λ c at. by c at (is.all c.ask at.asked);
}
  where
    of_own : Progress p [] rows (IsForAsked p scope user split.own.items)
    of_own = asks-left p rows user u scope split.own.items left there are (each-asked p rows scope user asked left own made)

    by : (c : Cell) → IsForAsked p scope user split.all.items c →
        Contains split.own.items c.ask ⊎ HaveShared (asking p) split.shared.items c.ask →
        IsDone p.old.checked.now p.new.checked.now p.directory.now p.groups.now rows c
    by c at (inl e) = of_own.done c (record { own = at.own; on = at.on; asked = e })
    by c at (inr e) = made.done c (at.own, shared c.ask e, at.on)
