-- Where the reading of a line stops. From each state a line can continue, so that the tokens up to it begin a form; and no
-- form begins with a further token that no step takes, since reading stops there whatever follows.
use Rattle.std.specs.Prelude.{codes, map}
use Rattle.std.proofs.Common.{cond, inl, inr, ◌⊎◌, ◌≡◌, ℕ, suc, ◌+◌, ◌≤◌, ◌<◌, List, [], ◌∷◌, ◌++◌, length, refl, ap}
use Rattle.std.proofs.Common.{sym, ◌∙◌, subst, append_assoc, append-nil, arith, ltb, ltb-true, lt-ltb, ltb-false}
use Rattle.std.proofs.Common.{Option, None, Some, Result, Ok, Err, true, false, Bool}
use Rattle.sudo_base.proofs.Options.{some_injective}
use Rattle.sudo_text.specs.declared.token.Mark.{Mark}
use Rattle.sudo_text.specs.declared.token.Mark.TheVariants as marks
use Rattle.sudo_text.specs.declared.token.Token.{Token}
use Rattle.sudo_text.specs.declared.token.TokenKind.TheVariants as tokens
use Rattle.sudo_grammar.specs.declared.kind.Kind.{Kind}
use Rattle.sudo_grammar.specs.declared.kind.Member.{Member}
use Rattle.sudo_grammar.specs.declared.policy.Definition.{Definition}
use Rattle.sudo_grammar.specs.declared.policy.EntryBody.{EntryBody}
use Rattle.sudo_grammar.specs.declared.policy.EntryBody.TheVariants as entries
use Rattle.sudo_grammar.specs.Words.{name_of}
use Rattle.sudo_grammar.specs.Forms.{Writes}
use Rattle.sudo_grammar.specs.Body.States.{Purpose, Defines, Users, Hosts, RunasUsers, RunasGroups, Binds, State}
use Rattle.sudo_grammar.specs.Body.States.{Start, AliasName, AfterName, Item, AfterItem, Command, AfterCommand}
use Rattle.sudo_grammar.specs.Body.States.{RunasStart, GroupsStart, DefaultsStart, AtParameter, AfterSwitch, AtValue}
use Rattle.sudo_grammar.specs.Body.States.{AfterValue, Included, at_alias_name, step, entry_after_list, state_after}
use Rattle.sudo_grammar.specs.Faults.{Room, Stop, HasRoom}
use Rattle.sudo_grammar.specs.Body.Refused.{refused_at}
use Rattle.sudo_grammar.specs.Body.Reading.{entry_or_stop, reading, stop_at}
use Rattle.sudo_grammar.specs.Body.Remaining.{Completes}
use Rattle.sudo_grammar.specs.Standing.{BeginsEntry}
use Rattle.sudo_grammar.proofs.Complete.{entry-read, reading-step}
use Rattle.sudo_grammar.proofs.Unique.{count}
use Rattle.sudo_grammar.proofs.Limits.{reading-stops}
use Rattle.sudo_grammar.proofs.Sound.{backward, sound}

-- `ALL`
abbrev pub all : Token
all = record { kind = tokens.Word false (map (λ b. record { byte = b; escaped = false }) (codes "ALL")); start = 0; end = 3 }

-- `A`
abbrev pub a : Token
a = record { kind = tokens.Word false (record { byte = 65; escaped = false } ∷ []); start = 0; end = 1 }

abbrev pub the_mark : Mark → Token
the_mark m = record { kind = tokens.Mark m; start = 0; end = 1 }

-- tokens by which a line can go on to its end, after a list and from a state
abbrev finish_list : Purpose → List Token
finish_list (Defines k d w) = []
finish_list Users = all ∷ the_mark marks.Equals ∷ all ∷ []
finish_list (Hosts us ss) = the_mark marks.Equals ∷ all ∷ []
finish_list (RunasUsers g) = the_mark marks.RightParen ∷ all ∷ []
finish_list (RunasGroups g us) = the_mark marks.RightParen ∷ all ∷ []
finish_list (Binds k) = all ∷ []

abbrev finish : State → List Token
finish Start = all ∷ all ∷ the_mark marks.Equals ∷ all ∷ []
finish (AliasName k d) = a ∷ the_mark marks.Equals ∷ all ∷ []
finish (AfterName k d w) = the_mark marks.Equals ∷ all ∷ []
finish (Item p n d) = all ∷ finish_list p
finish (AfterItem p d) = finish_list p
finish (Command g r d n) = all ∷ []
finish (AfterCommand g s) = []
finish (RunasStart g) = the_mark marks.RightParen ∷ all ∷ []
finish (GroupsStart g us) = the_mark marks.RightParen ∷ all ∷ []
finish DefaultsStart = all ∷ []
finish (AtParameter b d n) = all ∷ []
finish (AfterSwitch b d n name) = []
finish (AtValue b d name operator) = all ∷ []
finish (AfterValue b d) = []
finish (Included folder hash path) = []

-- some entry goes on so
abbrev IsLive : State → List Token → Type 0
IsLive state ts = (room : Room) × ((e : EntryBody) × (reading room state ts ≡ Ok e))

abbrev none : Room
none k = 0

live-list : (p : Purpose) (n : ℕ) (d : List Member) → IsLive (Item p n d) (all ∷ finish_list p)
live-list (Defines k done w) n d = (none, (_, refl))
live-list Users n d = (none, (_, refl))
live-list (Hosts us ss) n d = (none, (_, refl))
live-list (RunasUsers g) n d = (none, (_, refl))
live-list (RunasGroups g us) n d = (none, (_, refl))
live-list (Binds k) n d = (none, (_, refl))

live-after : (p : Purpose) (d : List Member) → IsLive (AfterItem p d) (finish_list p)
live-after (Defines k done w) d = (none, (_, refl))
live-after Users d = (none, (_, refl))
live-after (Hosts us ss) d = (none, (_, refl))
live-after (RunasUsers g) d = (none, (_, refl))
live-after (RunasGroups g us) d = (none, (_, refl))
live-after (Binds k) d = (none, (_, refl))

-- from each state a line can go on
live : (state : State) → IsLive state (finish state)
live Start = (none, (_, refl))
live (AliasName k d) =
    let wide : Room = λ k. suc (length d) in
    let taken : step wide (AliasName k d) a ≡ Some (AfterName k d (65 ∷ [])) =
    rw (lt-ltb (length d) (suc (length d)) (omega arith)) refl in
    (wide, (_, reading-step wide (AliasName k d) (AfterName k d (65 ∷ [])) a (the_mark marks.Equals ∷ all ∷ []) taken))
live (AfterName k d w) = (none, (_, refl))
live (Item p n d) = live-list p n d
live (AfterItem p d) = live-after p d
live (Command g r d n) = (none, (_, refl))
live (AfterCommand g s) = (none, (_, refl))
live (RunasStart g) = (none, (_, refl))
live (GroupsStart g us) = (none, (_, refl))
live DefaultsStart = (none, (_, refl))
live (AtParameter b d n) = (none, (_, refl))
live (AfterSwitch b d n name) = (none, (_, refl))
live (AtValue b d name operator) = (none, (_, refl))
live (AfterValue b d) = (none, (_, refl))
live (Included folder hash path) = (none, (_, refl))

-- what goes on from a state that was reached goes on from the state before
pub completes_back : (room : Room) (state q : State) (front more : List Token) (e : EntryBody)
    → state_after room state front ≡ Some q → Completes q e more → Completes state e (front ++ more)
completes_back room state q [] more e h g = subst (λ x. Completes x e more) (sym (some_injective _ _ h)) g
completes_back room state q (t ∷ ts) more e h g = go (step room state t) refl h (λ next h. completes_back room next q ts more e h g)
  where
    go : (r : Option State) → step room state t ≡ r
        → elim r as (λ _. Option State) [ Some next ↦ state_after room next ts | None ↦ None ] ≡ Some q
        → ((next : State) → state_after room next ts ≡ Some q → Completes next e (ts ++ more))
        → Completes state e (t ∷ ts ++ more)
    go (Some next) is h hyp = backward room state next t (ts ++ more) e is (hyp next h)
    go None is h hyp = cc

-- a form begins with the tokens that lead to a state
pub begins : (room : Room) (front : List Token) (q : State) → state_after room Start front ≡ Some q → BeginsEntry front
begins room front q h = go (live q)
  where
    go : IsLive q (finish q) → BeginsEntry front
    go (wide, (e, read)) = (e, finish q, completes_back room Start q front (finish q) e h (sound wide q (finish q) e read))

-- the reading of a front and more is that of what is left, from the state after the front
pub reading-front : (room : Room) (state q : State) (front more : List Token) → state_after room state front ≡ Some q
    → reading room state (front ++ more) ≡ reading room q more
reading-front room state q [] more h = rw (some_injective _ _ h) refl
reading-front room state q (t ∷ ts) more h = go (step room state t) refl h (λ next. reading-front room next q ts more)
  where
    go : (r : Option State) → step room state t ≡ r
        → elim r as (λ _. Option State) [ Some next ↦ state_after room next ts | None ↦ None ] ≡ Some q
        → ((next : State) → state_after room next ts ≡ Some q → reading room next (ts ++ more) ≡ reading room q more)
        → reading room state (t ∷ ts ++ more) ≡ reading room q more
    go (Some next) is h hyp = reading-step room state next t (ts ++ more) is ∙ hyp next h
    go None is h hyp = cc

-- one room has all that another has
abbrev pub Covers : Room → Room → Type 0
Covers room wide = (k : Kind) → room k ≤ wide k

name-wide : (room wide : Room) → Covers room wide → (k : Kind) (d : List Definition) (w : Option (List ℕ)) (next : State)
    → at_alias_name room k d w ≡ Some next → at_alias_name wide k d w ≡ Some next
name-wide room wide covers k d None next h = cc
name-wide room wide covers k d (Some w) next h = go (ltb (length d) (room k)) refl h
  where
    go : (b : Bool) → ltb (length d) (room k) ≡ b → cond b (Some (AfterName k d w)) None ≡ Some next
        → at_alias_name wide k d (Some w) ≡ Some next
    go false is h = cc
    go true is h =
        let fits : length d < room k = ltb-true (length d) (room k) is in
        let wider : room k ≤ wide k = covers k in
        let still : length d < wide k = omega arith in
        rw (lt-ltb (length d) (wide k) still) h

step-wide : (room wide : Room) → Covers room wide → (state next : State) (t : Token)
    → step room state t ≡ Some next → step wide state t ≡ Some next
step-wide room wide covers (AliasName k d) next t h = name-wide room wide covers k d (name_of t.kind) next h
step-wide room wide covers _ next t h = h

pub state_after-wide : (room wide : Room) → Covers room wide → (state q : State) (ts : List Token)
    → state_after room state ts ≡ Some q → state_after wide state ts ≡ Some q
state_after-wide room wide covers state q [] h = h
state_after-wide room wide covers state q (t ∷ ts) h =
    go (step room state t) refl h (λ next. state_after-wide room wide covers next q ts)
  where
    go : (r : Option State) → step room state t ≡ r
        → elim r as (λ _. Option State) [ Some next ↦ state_after room next ts | None ↦ None ] ≡ Some q
        → ((next : State) → state_after room next ts ≡ Some q → state_after wide next ts ≡ Some q)
        → state_after wide state (t ∷ ts) ≡ Some q
    go (Some next) is h hyp = rw (step-wide room wide covers state next t is, state_after) (hyp next h)
    go None is h hyp = cc

-- no room makes the step
abbrev pub NoStep : Room → State → Token → Type 0
NoStep room state t = (wide : Room) → Covers room wide → step wide state t ≡ None

pub name-none : (room : Room) (k : Kind) (d : List Definition) (w : Option (List ℕ))
    → at_alias_name room k d w ≡ None
    → ((wide : Room) → Covers room wide → at_alias_name wide k d w ≡ None)
    ⊎ ((v : List ℕ) × ((w ≡ Some v) × (room k ≤ length d)))
name-none room k d None h = inl (λ wide covers. refl)
name-none room k d (Some w) h = go (ltb (length d) (room k)) refl h
  where
    go : (b : Bool) → ltb (length d) (room k) ≡ b → cond b (Some (AfterName k d w)) None ≡ None
        → ((wide : Room) → Covers room wide → at_alias_name wide k d (Some w) ≡ None)
        ⊎ ((v : List ℕ) × ((Some w ≡ Some v) × (room k ≤ length d)))
    go true is h = cc
    go false is h = inr (w, (refl, ltb-false (length d) (room k) is))

-- room enough for the entry as well
abbrev pub with_room : Room → EntryBody → Room
with_room room e k = room k + count e

has_room : (room : Room) (e : EntryBody) → HasRoom (with_room room e) e
has_room room (entries.Aliases k ds) = omega arith
has_room room _ = tt

-- a form that begins with tokens that lead to a state is read on from there
pub form-front : (room : Room) (state : State) (front more : List Token) (e : EntryBody)
    → state_after room Start front ≡ Some state → Writes e (front ++ more) → reading (with_room room e) state more ≡ Ok e
form-front room state front more e reached w =
    let wide : Room = with_room room e in
    let covers : Covers room wide = λ k. omega arith in
    sym (reading-front wide Start state front more (state_after-wide room wide covers Start state front reached))
    ∙ entry-read wide e (front ++ more) w (has_room room e)

-- no form begins with a front and a token that no step takes
pub dead : (room : Room) (state : State) (t : Token) (front : List Token) → state_after room Start front ≡ Some state
    → NoStep room state t → BeginsEntry (front ++ t ∷ []) → ⊥
dead room state t front reached none (e, rest, w) =
    let covers : Covers room (with_room room e) = λ k. omega arith in
    let whole : (front ++ t ∷ []) ++ rest ≡ front ++ t ∷ rest = rw append_assoc refl in
    let read : reading (with_room room e) state (t ∷ rest) ≡ Ok e =
    form-front room state front (t ∷ rest) e reached (subst (λ x. Writes e x) whole w) in
    let same : ◌≡◌ {A = Result EntryBody Stop} (Ok e) (Err (stop_at state (t ∷ rest))) =
    sym read ∙ reading-stops (with_room room e) state t rest (none (with_room room e) covers) in
    cc

-- nor is a front a form where the line can't end
pub dead_end : (room : Room) (state : State) (front : List Token) → state_after room Start front ≡ Some state
    → entry_after_list state ≡ None → (e : EntryBody) → Writes e front → ⊥
dead_end room state front reached none e w =
    let read : reading (with_room room e) state [] ≡ Ok e =
    form-front room state front [] e reached (subst (λ x. Writes e x) (sym (append-nil front)) w) in
    let stops : reading (with_room room e) state [] ≡ Err (stop_at state []) = ap (entry_or_stop state) none in
    let same : ◌≡◌ {A = Result EntryBody Stop} (Ok e) (Err (stop_at state [])) = sym read ∙ stops in
    cc

-- no step leads on, or the line can't end
abbrev pub IsHalted : Room → State → List Token → Type 0
IsHalted room state [] = entry_after_list state ≡ None
IsHalted room state (t ∷ ts) = step room state t ≡ None

-- Reading stops at a state that the tokens before lead to, and from which no step leads on.
pub record Halts (room : Room) (state : State) (ts : List Token) (stop : Stop) : Type 0 where
  pub front : List Token
  pub whole : ts ≡ front ++ stop.rest
  pub last : State
  pub reached : state_after room state front ≡ Some last
  pub refusal : stop.refusal ≡ refused_at last stop.rest
  pub halted : IsHalted room last stop.rest

pub err_injective : {A B : Type 0} {x y : B} → ◌≡◌ {A = Result A B} (Err x) (Err y) → x ≡ y
err_injective h = cc

-- a halt one token on
halts-back : (room : Room) (state next : State) (t : Token) (ts : List Token) (stop : Stop)
    → step room state t ≡ Some next → Halts room next ts stop → Halts room state (t ∷ ts) stop
halts-back room state next t ts stop is h = record {
  front = t ∷ h.front;
  whole = ap (λ x. t ∷ x) h.whole;
  last = h.last;
  reached = rw (is, state_after) h.reached;
  refusal = h.refusal;
  halted = h.halted;
}

pub halts : (room : Room) (state : State) (ts : List Token) (stop : Stop) → reading room state ts ≡ Err stop
    → Halts room state ts stop
halts room state [] stop h = go (entry_after_list state) refl h
  where
    go : (r : Option EntryBody) → entry_after_list state ≡ r → entry_or_stop state r ≡ Err stop → Halts room state [] stop
    go (Some x) is h = cc
    go None is h = subst (λ x. Halts room state [] x) (err_injective h)
        (record { front = []; whole = refl; last = state; reached = refl; refusal = refl; halted = is })
halts room state (t ∷ ts) stop h = go (step room state t) refl h (λ next. halts room next ts stop)
  where
    go : (r : Option State) → step room state t ≡ r
        → elim r as (λ _. Result EntryBody Stop) [ Some next ↦ reading room next ts | None ↦ Err (stop_at state (t ∷ ts)) ] ≡ Err stop
        → ((next : State) → reading room next ts ≡ Err stop → Halts room next ts stop)
        → Halts room state (t ∷ ts) stop
    go (Some next) is h hyp = halts-back room state next t ts stop is (hyp next h)
    go None is h hyp = subst (λ x. Halts room state (t ∷ ts) x) (err_injective h)
        (record { front = []; whole = refl; last = state; reached = refl; refusal = refl; halted = is })
