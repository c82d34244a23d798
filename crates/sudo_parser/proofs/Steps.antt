-- One step of a reading, and the token at which it stops.
use Rattle.std.proofs.Common.{arith, ◌<◌, ◌≡◌, List, [], ◌∷◌, length, refl, ap, sym, ◌∙◌, subst, Option, None, Some, Result, Ok, Err}
use Rattle.std.specs.Result.{IfErr, IsErrAnd}
use Rattle.sudo_text.specs.declared.token.Mark.{Mark}
use Rattle.sudo_text.specs.declared.token.Token.{Token}
use Rattle.sudo_grammar.specs.declared.policy.EntryBody.{EntryBody}
use Rattle.sudo_grammar.specs.declared.fault.Refusal.{Refusal}
use Rattle.sudo_parser.specs.declared.stops.ParserStop.{ParserStop}
use Rattle.sudo_parser.specs.declared.stops.ParserStop.TheVariants as stops
use Rattle.sudo_grammar.specs.Faults.{Room, Stop}
use Rattle.sudo_grammar.specs.Body.States.{State, step, entry_after_list}
use Rattle.sudo_grammar.specs.Body.Refused.{refused_at}
use Rattle.sudo_grammar.specs.Body.Reading.{stop_at, entry_or_stop, reading}
use Rattle.sudo_parser.specs.Body.Stops.{Stops, IsMark, IsNext, IsNotNext}
use Rattle.sudo_grammar.proofs.Complete.{reading-step}
use Rattle.sudo_grammar.proofs.Limits.{reading-stops}

pub reading-missing : (room : Room) (state : State) → entry_after_list state ≡ None → reading room state [] ≡ Err (stop_at state [])
reading-missing room state h = ap (entry_or_stop state) h

-- the mark that comes next is read by one step
pub reading-mark : (room : Room) (state next : State) (m : Mark) (ts rest : List Token)
    → ((t : Token) → IsMark m t → step room state t ≡ Some next) → IsNext m ts rest
    → reading room state ts ≡ reading room next rest
reading-mark room state next m [] rest h is = absurd is
reading-mark room state next m (t ∷ ts) rest h is = reading-step room state next t ts (h t is.0) ∙ ap (reading room next) is.1

-- the stop at a state
pub stops_here : (room : Room) (state : State) (ts : List Token) (r : Refusal) → reading room state ts ≡ Err (stop_at state ts)
    → refused_at state ts ≡ r → Stops (stops.At r (length ts)) (reading room state ts)
stops_here room state ts r h is = (stop_at state ts, (h, (is, refl)))

-- a stop is the same where the reading is
pub stops_same : (e : ParserStop) (a b : Result EntryBody Stop) → a ≡ b → Stops e b → Stops e a
stops_same e a b same h = subst (λ x. Stops e x) (sym same) h

-- where no token leads on and none may be missing, the reading stops
pub stops_always : (room : Room) (state : State) (ts : List Token) (r : Refusal) → entry_after_list state ≡ None
    → ((t : Token) (us : List Token) → ts ≡ t ∷ us → step room state t ≡ None) → refused_at state ts ≡ r
    → Stops (stops.At r (length ts)) (reading room state ts)
stops_always room state [] r last none is = stops_here room state [] r (reading-missing room state last) is
stops_always room state (t ∷ ts) r last none is =
    stops_here room state (t ∷ ts) r (reading-stops room state t ts (none t ts refl)) is

-- a state whose steps are another's reads as that one
pub reading-same : (room : Room) (p q : State) (ts : List Token) → entry_after_list p ≡ entry_after_list q
    → refused_at p ts ≡ refused_at q ts
    → ((t : Token) (us : List Token) → ts ≡ t ∷ us → step room p t ≡ step room q t) → reading room p ts ≡ reading room q ts
reading-same room p q [] last refused same = go (entry_after_list q) last
  where
    go : (e : Option EntryBody) → entry_after_list p ≡ e → entry_or_stop p (entry_after_list p) ≡ entry_or_stop q e
    go None h = ap (entry_or_stop p) h ∙ ap (λ r. Err (record { rest = []; refusal = r })) refused
    go (Some e) h = ap (entry_or_stop p) h
reading-same room p q (t ∷ ts) last refused same = go (step room q t) refl (same t ts refl)
  where
    go : (next : Option State) → step room q t ≡ next → step room p t ≡ step room q t
        → reading room p (t ∷ ts) ≡ reading room q (t ∷ ts)
    go None is h = reading-stops room p t ts (h ∙ is) ∙ ap (λ r. Err (record { rest = t ∷ ts; refusal = r })) refused
        ∙ sym (reading-stops room q t ts is)
    go (Some next) is h = reading-step room p next t ts (h ∙ is) ∙ sym (reading-step room q next t ts is)

-- what does not come next is not the first token
pub not_head : (m : Mark) (ts : List Token) (t : Token) (us : List Token) → ts ≡ t ∷ us → IsNotNext m ts → IsMark m t → ⊥
not_head m ts t us is h = subst (IsNotNext m) is h

pub IsNext-less : (m : Mark) (ts rest : List Token) → IsNext m ts rest → length rest < length ts
IsNext-less m [] rest h = absurd h
IsNext-less m (t ∷ ts) rest h = omega (arith, ap length h.1)

-- a stop that is passed on is the stop of the whole reading
pub passed-on : {X E : Type 0} (r : Result X E) (e : E) (P : E → Type 0) → IsErrAnd r (λ y. y ≡ e) → P e → IfErr r P
passed-on (Ok x) e P h p = tt
passed-on (Err y) e P h p = subst P (sym h) p
