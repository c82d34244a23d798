-- The table of who may run a command, item by item; and what a missing record tells.
use Rattle.std.proofs.Common.{◌≡◌, ◌<◌, ◌≤◌, ◌+◌, ◌∙◌, ℕ, false, List, [], ◌∷◌, ◌++◌, ap, append-nil}
use Rattle.std.proofs.Common.{append_assoc, drop, flat_map, get_or, length, refl, subst, sym, take, Option, Some, None}
use Rattle.std.proofs.lemmas.List.{take-append-drop}
use Rattle.std.proofs.lemmas.List.Concat.{flat_map-append}
use Rattle.std.specs.Io.KnownBytes.{Appends}
use Rattle.sudo_grammar.specs.declared.policy.Policy.{Policy}
use Rattle.sudo_match.specs.declared.request.Request.{Request}
use Rattle.sudo_match.specs.declared.request.Verdict.{Verdict}
use Rattle.sudo_match.specs.declared.request.Verdict.TheVariants.{Allow, Deny, NoMatch, Unknown}
use Rattle.sudo_verdict.specs.Verdicts.{verdict_of}
use Rattle.review_grants.specs.Body.Pending.{IsOnItsWay, Puts, StopsIn}
use Rattle.review_grants.specs.Body.Who.{IsRequestOf, with_host}
use Rattle.review_grants.specs.WhoRows.{Sought, UnlistedMayNot, is_allowed, request_at, ruled_line}
use Rattle.review_grants.specs.Writing.{IsStopped}
use Rattle.review_grants.specs.declared.writing.Pending.{Pending}
use Rattle.review_grants.specs.declared.writing.Stopped.{Stopped}
use Rattle.review_grants.proofs.ListSteps.{flat_map-next, take-whole}
use Rattle.review_grants.proofs.WritingLemmas.{stopped-within}

-- ---- One item after the other

appends-none : (old : Option (List ℕ)) → Appends old old []
appends-none None = tt
appends-none (Some a) = sym (append-nil a)

-- what is pending before the first write is the text itself
pub first-pending : (old : Option (List ℕ)) (pending : Pending) (text : List ℕ) → pending.text.items ≡ text → pending.written ≡ 0
    → IsOnItsWay old old pending text
first-pending old pending text same unwritten = record {
  part = [];
  gone = appends-none old;
  is = sym same;
  counted = unwritten;
}

pub puts-none : (old : Option (List ℕ)) (waits : Pending) → Puts old old waits waits []
puts-none old waits before made way = subst (IsOnItsWay before old waits) (sym (append-nil made)) way

puts-more : (a b c : Option (List ℕ)) (p q r : Pending) (x y : List ℕ) → Puts a b p q x → Puts b c q r y
    → Puts a c p r (x ++ y)
puts-more a b c p q r x y first second before made way =
    subst (IsOnItsWay before c r) (append_assoc made x y) (second before (made ++ x) (first before made way))

stops-more : (a b c : Option (List ℕ)) (p q : Pending) (x y : List ℕ) (stop : Stopped) → Puts a b p q x
    → StopsIn b c q y stop → StopsIn a c p (x ++ y) stop
stops-more a b c p q x y stop first stopped before made way =
    subst (λ text. IsStopped before c text stop) (append_assoc made x y) (stopped before (made ++ x) (first before made way))

stops-sooner : (a c : Option (List ℕ)) (p : Pending) (x more : List ℕ) (stop : Stopped) → StopsIn a c p x stop
    → StopsIn a c p (x ++ more) stop
stops-sooner a c p x more stop stopped before made way =
    subst (λ text. IsStopped before c text stop) (append_assoc made x more)
    (stopped-within before c (made ++ x) more stop (stopped before made way))

-- the texts of the first items, with one more
part-next : {X : Type 0} (f : X → List ℕ) (xs : List X) (n : ℕ) (x : X) → n < length xs → x ≡ get_or xs n x
    → flat_map f (take n xs) ++ f x ≡ flat_map f (take (n + 1) xs)
part-next f xs n x within is =
    flat_map-next f xs n x [] (flat_map f (take n xs)) (flat_map f (take n xs) ++ f x) within is refl refl

part-rest : {X : Type 0} (f : X → List ℕ) (xs : List X) (n : ℕ)
    → flat_map f (take n xs) ++ flat_map f (drop n xs) ≡ flat_map f xs
part-rest f xs n = sym (flat_map-append f (take n xs) (drop n xs)) ∙ ap (flat_map f) (take-append-drop n xs)

pub puts-next : {X : Type 0} (f : X → List ℕ) (xs : List X) (n : ℕ) (x : X) (a b c : Option (List ℕ)) (p q r : Pending)
    → n < length xs → x ≡ get_or xs n x → Puts a b p q (flat_map f (take n xs)) → Puts b c q r (f x)
    → Puts a c p r (flat_map f (take (n + 1) xs))
puts-next f xs n x a b c p q r within is first second =
    subst (Puts a c p r) (part-next f xs n x within is) (puts-more a b c p q r (flat_map f (take n xs)) (f x) first second)

-- it stops at an item
pub stops-at : {X : Type 0} (f : X → List ℕ) (xs : List X) (n : ℕ) (x : X) (a b c : Option (List ℕ)) (p q : Pending)
    (stop : Stopped) → n < length xs → x ≡ get_or xs n x → Puts a b p q (flat_map f (take n xs)) → StopsIn b c q (f x) stop
    → StopsIn a c p (flat_map f xs) stop
stops-at f xs n x a b c p q stop within is first stopped =
    let so_far : List ℕ = flat_map f (take n xs) in
    let upto : StopsIn a c p (flat_map f (take (n + 1) xs)) stop =
    subst (λ text. StopsIn a c p text stop) (part-next f xs n x within is) (stops-more a b c p q so_far (f x) stop first stopped) in
    subst (λ text. StopsIn a c p text stop) (part-rest f xs (n + 1))
    (stops-sooner a c p (flat_map f (take (n + 1) xs)) (flat_map f (drop (n + 1) xs)) stop upto)

pub puts-all : {X : Type 0} (f : X → List ℕ) (xs : List X) (n : ℕ) (a b : Option (List ℕ)) (p q : Pending) → length xs ≤ n
    → Puts a b p q (flat_map f (take n xs)) → Puts a b p q (flat_map f xs)
puts-all f xs n a b p q past puts = subst (Puts a b p q) (ap (flat_map f) (take-whole xs n past)) puts

-- ---- The request at hand

-- on another host
pub request-moved : (a : Sought) (user host : List ℕ) (r : Request) → IsRequestOf a user r
    → with_host r host ≡ request_at a user host
request-moved a user host r is = ap (λ (q : Request). with_host q host) is

-- on a host
pub request-there : (a : Sought) (user host : List ℕ) (r : Request) → r ≡ request_at a user host → IsRequestOf a user r
request-there a user host r is = is ∙ ap (request_at a user) (sym (ap (λ (q : Request). q.host) is))

-- ---- A missing record

not-empty : {A : Type 0} (xs ys : List ℕ) (b : ℕ) → xs ++ (ys ++ b ∷ []) ≡ [] → A
not-empty [] [] b h = cc
not-empty [] (y ∷ ys) b h = cc
not-empty (x ∷ xs) ys b h = cc

-- the record of a request that is allowed has bytes
unruled : (p : Policy) (r : Request) (v : Verdict) → ruled_line p r v ≡ [] → is_allowed v ≡ false
unruled p r (Allow place tags) none = not-empty _ _ _ none
unruled p r (Deny place) none = refl
unruled p r NoMatch none = refl
unruled p r (Unknown w) none = refl

pub unlisted_may_not : UnlistedMayNot
unlisted_may_not p d a u m none =
    unruled p (request_at a u.name m.name) (verdict_of p d (request_at a u.name m.name)) none
