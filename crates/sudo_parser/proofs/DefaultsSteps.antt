-- The steps of a Defaults line, as the parser takes them.
use Rattle.std.proofs.Common.{◌≡◌, ℕ, zero, suc, List, [], ◌∷◌, length, refl, ap, sym, ◌∙◌, subst, false, Option, None, arith}
use Rattle.sudo_text.specs.declared.token.Mark.TheVariants as marks
use Rattle.sudo_text.specs.declared.token.Token.{Token}
use Rattle.sudo_text.specs.declared.token.TokenKind.{TokenKind}
use Rattle.sudo_text.specs.declared.token.TokenKind.TheVariants as tokens
use Rattle.sudo_grammar.specs.declared.policy.Binding.{Binding}
use Rattle.sudo_grammar.specs.declared.policy.Parameter.{Parameter}
use Rattle.sudo_grammar.specs.declared.policy.Parameter.TheVariants as parameters
use Rattle.sudo_grammar.specs.declared.fault.Expected.TheVariants as wants
use Rattle.sudo_grammar.specs.declared.fault.Refusal.TheVariants as refusals
use Rattle.sudo_parser.specs.declared.stops.ParserStop.{ParserStop}
use Rattle.sudo_parser.specs.declared.stops.ParserStop.TheVariants as stops
use Rattle.sudo_parser.specs.Body.Stops.{Stops, IsNotNext}
use Rattle.sudo_grammar.specs.Body.Reading.{reading}
use Rattle.sudo_parser.proofs.Steps.{stops_here, stops_same}
use Rattle.sudo_grammar.specs.declared.policy.Operator.{Operator}
use Rattle.sudo_grammar.specs.Openings.{is_word}
use Rattle.sudo_grammar.specs.Faults.{Room}
use Rattle.sudo_grammar.specs.Body.States.{AtParameter, AfterSwitch, AtValue, at_parameter, after_switch, at_value}
use Rattle.sudo_parser.specs.Body.Lists.{ReadsBangs}
use Rattle.sudo_parser.specs.Body.Defaults.{IsWordNext, IsNoWordNext, IsWordMissing, IsOperatorNext, EndsParameter}
use Rattle.sudo_parser.specs.Body.Defaults.{ReadsParameter, StopsInParameter}
use Rattle.sudo_grammar.proofs.Complete.{operator-value, word-parameter, reading-step}
use Rattle.sudo_grammar.proofs.Limits.{reading-stops}

parameter-none : (b : Option Binding) (d : List Parameter) (n : ℕ) (t : Token) (k : TokenKind)
    → (k ≡ tokens.Mark marks.Bang → ⊥) → is_word k ≡ false → at_parameter b d n t k ≡ None
parameter-none b d n t (tokens.Mark marks.Bang) bang h = absurd (bang refl)
parameter-none b d n t (tokens.Word quoted chars) bang h = cc
parameter-none b d n t _ bang h = refl

bangs-read : (ts : List Token) (n : ℕ) (rest : List Token) → ReadsBangs ts n rest → (room : Room) (b : Option Binding)
    (d : List Parameter) → reading room (AtParameter b d 0) ts ≡ reading room (AtParameter b d n) rest
bangs-read ts n rest r room b d = r.reads room (λ k. AtParameter b d k) (λ k t is. ap (at_parameter b d k t) is)

missing-here : (room : Room) (b : Option Binding) (d : List Parameter) (n : ℕ) (ts : List Token) → IsNotNext marks.Bang ts
    → IsNoWordNext ts → Stops (stops.At (refusals.Syntax wants.Parameter) (length ts)) (reading room (AtParameter b d n) ts)
missing-here room b d n [] bang none = stops_here room (AtParameter b d n) [] _ refl refl
missing-here room b d n (t ∷ ts) bang none = stops_here room (AtParameter b d n) (t ∷ ts) _
    (reading-stops room (AtParameter b d n) t ts (parameter-none b d n t t.kind bang none)) refl

-- no word where the name of a parameter must stand
pub name-missing : (ts : List Token) (n : ℕ) (named : List Token) (e : ParserStop) → ReadsBangs ts n named
    → IsNotNext marks.Bang named → IsWordMissing wants.Parameter named e → StopsInParameter ts e
name-missing ts n named (stops.At refusal left) r bang (is, (count, none)) = λ room b d.
    subst (λ x. Stops (stops.At x left) (reading room (AtParameter b d 0) ts)) (sym is)
    (subst (λ x. Stops (stops.At (refusals.Syntax wants.Parameter) x) (reading room (AtParameter b d 0) ts)) (sym count)
    (stops_same (stops.At (refusals.Syntax wants.Parameter) (length named)) _ _ (bangs-read ts n named r room b d)
    (missing-here room b d n named bang none)))
name-missing ts n named stops.Memory r bang h = λ room b d. tt

switched_past : (n : ℕ) (w : Token) (b : Option Binding) (d : List Parameter) (k : TokenKind) → (k ≡ tokens.Mark marks.Comma → ⊥)
    → after_switch b d (suc n) w k ≡ None
switched_past n w b d (tokens.Mark marks.Comma) comma = absurd (comma refl)
switched_past n w b d _ comma = refl

past : (n : ℕ) (w : Token) (rest : List Token) → (n ≡ 0 → ⊥) → EndsParameter (parameters.Switch n w) rest
past n w [] some = tt
past zero w (t ∷ ts) some = absurd (some refl)
past (suc n) w (t ∷ ts) some = λ room b d comma. switched_past n w b d t.kind comma

-- a parameter after exclamation marks
pub switched_reads : (ts : List Token) (n : ℕ) (named : List Token) (w : Token) (rest : List Token) → ReadsBangs ts n named
    → IsWordNext named w rest → (n ≡ 0 → ⊥) → ReadsParameter ts (parameters.Switch n w) rest
switched_reads ts n named w rest r (is, word) some = record {
  less = omega (arith, r.no_longer, ap length is);
  past = past n w rest some;
  reads = λ room b d. bangs-read ts n named r room b d ∙ ap (reading room (AtParameter b d n)) is
      ∙ reading-step room (AtParameter b d n) (AfterSwitch b d n w) w rest (word-parameter b d n w w.kind word);
}

value-none : (b : Option Binding) (d : List Parameter) (w : Token) (o : Operator) (t : Token) (k : TokenKind) → is_word k ≡ false
    → at_value b d w o t k ≡ None
value-none b d w o t (tokens.Word quoted chars) h = cc
value-none b d w o t _ h = refl

no-value : (room : Room) (b : Option Binding) (d : List Parameter) (w : Token) (o : Operator) (ts : List Token) → IsNoWordNext ts
    → Stops (stops.At (refusals.Syntax wants.Value) (length ts)) (reading room (AtValue b d w o) ts)
no-value room b d w o [] none = stops_here room (AtValue b d w o) [] _ refl refl
no-value room b d w o (t ∷ ts) none = stops_here room (AtValue b d w o) (t ∷ ts) _
    (reading-stops room (AtValue b d w o) t ts (value-none b d w o t t.kind none)) refl

operator-read : (room : Room) (b : Option Binding) (d : List Parameter) (w : Token) (o : Operator) (ts rest : List Token)
    → IsOperatorNext ts o rest → reading room (AfterSwitch b d 0 w) ts ≡ reading room (AtValue b d w o) rest
operator-read room b d w o [] rest h = absurd h
operator-read room b d w o (t ∷ ts) rest h =
    reading-step room (AfterSwitch b d 0 w) (AtValue b d w o) t ts (operator-value b d w o t.kind h.0)
    ∙ ap (reading room (AtValue b d w o)) h.1

name-read : (room : Room) (b : Option Binding) (d : List Parameter) (ts : List Token) (n : ℕ) (named : List Token) (w : Token)
    (after : List Token) → ReadsBangs ts n named → n ≡ 0 → IsWordNext named w after
    → reading room (AtParameter b d 0) ts ≡ reading room (AfterSwitch b d 0 w) after
name-read room b d ts n named w after r none (is, word) = bangs-read ts n named r room b d
    ∙ ap (λ k. reading room (AtParameter b d k) named) none ∙ ap (reading room (AtParameter b d 0)) is
    ∙ reading-step room (AtParameter b d 0) (AfterSwitch b d 0 w) w after (word-parameter b d 0 w w.kind word)

-- no word where the value of a parameter must stand
pub value-missing : (ts : List Token) (n : ℕ) (named : List Token) (w : Token) (after : List Token) (o : Operator) (valued : List Token)
    (e : ParserStop) → ReadsBangs ts n named → n ≡ 0 → IsWordNext named w after → IsOperatorNext after o valued
    → IsWordMissing wants.Value valued e → StopsInParameter ts e
value-missing ts n named w after o valued (stops.At refusal left) r bare word op (is, (count, none)) = λ room b d.
    subst (λ x. Stops (stops.At x left) (reading room (AtParameter b d 0) ts)) (sym is)
    (subst (λ x. Stops (stops.At (refusals.Syntax wants.Value) x) (reading room (AtParameter b d 0) ts)) (sym count)
    (stops_same (stops.At (refusals.Syntax wants.Value) (length valued)) _ _
    (name-read room b d ts n named w after r bare word ∙ operator-read room b d w o after valued op) (no-value room b d w o valued none)))
value-missing ts n named w after o valued stops.Memory r bare word op h = λ room b d. tt
