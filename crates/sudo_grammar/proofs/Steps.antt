-- Tokens that lead to a state, cut into those before a token, that token, and those after it.
use Rattle.std.proofs.Common.{◌≡◌, List, [], ◌∷◌, ◌++◌, refl, ap, Option, None, Some, Result, Ok, Err}
use Rattle.sudo_base.proofs.Options.{some_injective}
use Rattle.sudo_text.specs.declared.token.Token.{Token}
use Rattle.sudo_grammar.specs.declared.policy.EntryBody.{EntryBody}
use Rattle.sudo_grammar.specs.Forms.{Writes}
use Rattle.sudo_grammar.specs.Faults.{Room, Stop}
use Rattle.sudo_grammar.specs.Body.States.{State, Start, step, state_after}
use Rattle.sudo_grammar.specs.Body.Reading.{reading, stop_at}
use Rattle.sudo_grammar.specs.Body.Remaining.{Completes}
use Rattle.sudo_grammar.proofs.Sound.{sound}
use Rattle.sudo_grammar.proofs.Stops.{form-front, with_room, completes_back}

-- one token more
pub state_after-step : (room : Room) (state q next : State) (front : List Token) (t : Token)
    → state_after room state front ≡ Some q → step room q t ≡ Some next → state_after room state (front ++ t ∷ []) ≡ Some next
state_after-step room state q next [] t reached is = rw (some_injective _ _ reached, is, state_after) refl
state_after-step room state q next (u ∷ us) t reached is =
    go (step room state u) refl reached (λ later. state_after-step room later q next us t)
  where
    go : (r : Option State) → step room state u ≡ r
        → elim r as (λ _. Option State) [ Some later ↦ state_after room later us | None ↦ None ] ≡ Some q
        → ((later : State) → state_after room later us ≡ Some q → step room q t ≡ Some next
        → state_after room later (us ++ t ∷ []) ≡ Some next)
        → state_after room state (u ∷ us ++ t ∷ []) ≡ Some next
    go (Some later) taken h hyp = rw (taken, state_after) (hyp later h is)
    go None taken h hyp = cc

-- a state that tokens lead to, and the step from there by the next one
pub record Passes (room : Room) (state : State) (before : List Token) (t : Token) (more : List Token) (q : State) : Type 0 where
  pub from : State
  pub to : State
  pub reached : state_after room state before ≡ Some from
  pub taken : step room from t ≡ Some to
  pub on : state_after room to more ≡ Some q

-- tokens that lead to a state pass by that of each token
pub passes : (room : Room) (state q : State) (before : List Token) (t : Token) (more : List Token)
    → state_after room state (before ++ t ∷ more) ≡ Some q → Passes room state before t more q
passes room state q [] t more h = go (step room state t) refl h
  where
    go : (r : Option State) → step room state t ≡ r
        → elim r as (λ _. Option State) [ Some next ↦ state_after room next more | None ↦ None ] ≡ Some q
        → Passes room state [] t more q
    go (Some next) is h = record { from = state; to = next; reached = refl; taken = is; on = h }
    go None is h = cc
passes room state q (u ∷ us) t more h = go (step room state u) refl h (λ next. passes room next q us t more)
  where
    later : (next : State) → step room state u ≡ Some next → Passes room next us t more q → Passes room state (u ∷ us) t more q
    later next is p = record { from = p.from; to = p.to; reached = rw (is, state_after) p.reached; taken = p.taken; on = p.on }

    go : (r : Option State) → step room state u ≡ r
        → elim r as (λ _. Option State) [ Some next ↦ state_after room next (us ++ t ∷ more) | None ↦ None ] ≡ Some q
        → ((next : State) → state_after room next (us ++ t ∷ more) ≡ Some q → Passes room next us t more q)
        → Passes room state (u ∷ us) t more q
    go (Some next) is h hyp = later next is (hyp next h)
    go None is h hyp = cc

-- some tokens end in a token
pub ends_in : {A : Type 0} (x : A) (xs : List A) → (before : List A) × ((last : A) × (x ∷ xs ≡ before ++ last ∷ []))
ends_in x [] = ([], (x, refl))
ends_in {A = A} x (y ∷ ys) = go (ends_in y ys)
  where
    go : (before : List A) × ((last : A) × (y ∷ ys ≡ before ++ last ∷ []))
        → (before : List A) × ((last : A) × (x ∷ y ∷ ys ≡ before ++ last ∷ []))
    go (before, (last, e)) = (x ∷ before, (last, ap (λ l. x ∷ l) e))

-- what is read leads to a state
pub read-reaches : (room : Room) (state : State) (ts : List Token) (e : EntryBody) → reading room state ts ≡ Ok e
    → (q : State) × (state_after room state ts ≡ Some q)
read-reaches room state [] e h = (state, refl)
read-reaches room state (t ∷ ts) e h = go (step room state t) refl h (λ next. read-reaches room next ts e)
  where
    go : (r : Option State) → step room state t ≡ r
        → elim r as (λ _. Result EntryBody Stop) [ Some next ↦ reading room next ts | None ↦ Err (stop_at state (t ∷ ts)) ] ≡ Ok e
        → ((next : State) → reading room next ts ≡ Ok e → (q : State) × (state_after room next ts ≡ Some q))
        → (q : State) × (state_after room state (t ∷ ts) ≡ Some q)
    go None is h hyp = cc
    go (Some next) is h hyp = at (hyp next h)
      where
        at : (q : State) × (state_after room next ts ≡ Some q) → (q : State) × (state_after room state (t ∷ ts) ≡ Some q)
        at (q, reached) = (q, rw (is, state_after) reached)

-- the forms that are left at a state are those of the entries that begin so
pub state-left : (room : Room) (front : List Token) (state : State) (e : EntryBody) (ts : List Token)
    → state_after room Start front ≡ Some state → Writes e (front ++ ts) → Completes state e ts
state-left room front state e ts reached w = sound (with_room room e) state ts e (form-front room state front ts e reached w)

pub state-whole : (room : Room) (front : List Token) (state : State) (e : EntryBody) (ts : List Token)
    → state_after room Start front ≡ Some state → Completes state e ts → Writes e (front ++ ts)
state-whole room front state e ts reached g = completes_back room Start state front ts e reached g
