-- The steps of the first token of a line, as the parser takes them.
use Rattle.std.proofs.Common.{◌≡◌, ℕ, ◌+◌, List, [], ◌∷◌, length, refl, ap, sym, ◌∙◌, subst, cond, Bool, true, false, Option, Result, arith}
use Rattle.std.specs.Prelude.{not, ◌==◌}
use Rattle.sudo_parser.specs.Body.Openings.{IsInclude}
use Rattle.sudo_text.specs.declared.token.Ch.{Ch}
use Rattle.sudo_text.specs.declared.token.Token.{Token}
use Rattle.sudo_text.specs.declared.token.TokenKind.{TokenKind}
use Rattle.sudo_text.specs.declared.token.TokenKind.TheVariants as tokens
use Rattle.sudo_grammar.specs.declared.policy.EntryBody.{EntryBody}
use Rattle.sudo_grammar.specs.declared.fault.Expected.TheVariants as wants
use Rattle.sudo_grammar.specs.declared.fault.Refusal.TheVariants as refusals
use Rattle.sudo_grammar.specs.declared.fault.Unsupported.TheVariants as forms
use Rattle.sudo_parser.specs.declared.stops.ParserStop.{ParserStop}
use Rattle.sudo_parser.specs.declared.stops.ParserStop.TheVariants as stops
use Rattle.sudo_parser.specs.Body.Stops.{Stops, GivesEntry}
use Rattle.sudo_grammar.specs.Body.Reading.{reading}
use Rattle.sudo_parser.proofs.Steps.{reading-same, stops_here, stops_same}
use Rattle.sudo_grammar.specs.Openings.{Directive, BadDirective, Other, opening_of, has_host_escape}
use Rattle.sudo_grammar.specs.Faults.{Room}
use Rattle.sudo_grammar.specs.Body.States.{Start, Users, Item, Included, State, at_start, step}
use Rattle.sudo_grammar.specs.Refusals.{refused_start}
use Rattle.sudo_grammar.proofs.Complete.{reading-step}
use Rattle.sudo_grammar.proofs.Limits.{reading-stops}

bad-opening : (folder hash : Bool) (path : List Ch) → has_host_escape path ≡ true
    → opening_of (tokens.Include folder hash path) ≡ BadDirective path
bad-opening folder hash [] h = cc
bad-opening folder hash (c ∷ cs) h = ap (λ x. cond (not x) (Directive folder hash (c ∷ cs)) (BadDirective (c ∷ cs))) h

good-opening : (folder hash : Bool) (path : List Ch) → (path ≡ [] → ⊥) → has_host_escape path ≡ false
    → opening_of (tokens.Include folder hash path) ≡ Directive folder hash path
good-opening folder hash [] some h = absurd (some refl)
good-opening folder hash (c ∷ cs) some h = ap (λ x. cond (not x) (Directive folder hash (c ∷ cs)) (BadDirective (c ∷ cs))) h

bad-refused : (ts : List Token) (path : List Ch) → has_host_escape path ≡ true
    → refused_start ts (BadDirective path) ≡ refusals.Unsupported forms.HostEscape
bad-refused ts [] h = cc
bad-refused ts (c ∷ cs) h = refl

pub include-escaped : (room : Room) (t : Token) (rest : List Token) (folder hash : Bool) (path : List Ch) (left : ℕ)
    → has_host_escape path ≡ true → t.kind ≡ tokens.Include folder hash path → left ≡ length rest + 1
    → Stops (stops.At (refusals.Unsupported forms.HostEscape) left) (reading room Start (t ∷ rest))
include-escaped room t rest folder hash path left h is count =
    let bad : opening_of t.kind ≡ BadDirective path = ap opening_of is ∙ bad-opening folder hash path h in
    let long : left ≡ length (t ∷ rest) = omega (arith, count) in
    subst (λ x. Stops (stops.At (refusals.Unsupported forms.HostEscape) x) (reading room Start (t ∷ rest))) (sym long)
    (stops_here room Start (t ∷ rest) _ (reading-stops room Start t rest (ap (λ o. at_start o t) bad))
    (ap (refused_start (t ∷ rest)) bad ∙ bad-refused (t ∷ rest) path h))

pub include-more : (room : Room) (t : Token) (rest : List Token) (folder hash : Bool) (path : List Ch) → (path ≡ [] → ⊥)
    → has_host_escape path ≡ false → t.kind ≡ tokens.Include folder hash path → (rest ≡ [] → ⊥)
    → Stops (stops.At (refusals.Syntax wants.EndOfLine) (length rest)) (reading room Start (t ∷ rest))
include-more room t [] folder hash path some h is more = absurd (more refl)
include-more room t (u ∷ us) folder hash path some h is more =
    stops_same (stops.At (refusals.Syntax wants.EndOfLine) (length (u ∷ us))) _ _
    (reading-step room Start (Included folder hash path) t (u ∷ us)
    (ap (λ o. at_start o t) (ap opening_of is ∙ good-opening folder hash path some h)))
    (stops_here room (Included folder hash path) (u ∷ us) _ refl refl)

-- a line that begins with nothing else begins with a user
pub rule-read : (room : Room) (whole : List Token) (t : Token) (ts : List Token) → whole ≡ t ∷ ts → opening_of t.kind ≡ Other
    → reading room Start whole ≡ reading room (Item Users 0 []) whole
rule-read room whole t ts is other = subst (λ x. reading room Start x ≡ reading room (Item Users 0 []) x) (sym is)
    (reading-same room Start (Item Users 0 []) (t ∷ ts) refl (ap (refused_start (t ∷ ts)) other)
    (λ u us same. ap (λ x. at_start (opening_of x.kind) x) (sym (head-same same)) ∙ ap (λ o. at_start o t) other
    ∙ ap (first room) (head-same same)))
  where
    first : Room → Token → Option State
    first room x = step room (Item Users 0 []) x

    head-same : {a b : Token} {xs ys : List Token} → a ∷ xs ≡ b ∷ ys → a ≡ b
    head-same h = cc

pub rule-gives : (room : Room) (whole : List Token) (t : Token) (ts : List Token) (r : Result EntryBody ParserStop) → whole ≡ t ∷ ts
    → opening_of t.kind ≡ Other → GivesEntry r (reading room (Item Users 0 []) whole) → GivesEntry r (reading room Start whole)
rule-gives room whole t ts r is other h = subst (GivesEntry r) (sym (rule-read room whole t ts is other)) h

pub not_empty : {A : Type 0} (xs : List A) → (length xs == 0) ≡ false → xs ≡ [] → ⊥
not_empty [] h is = cc
not_empty (x ∷ xs) h is = cc

pub not_include : (k : TokenKind) → ((folder hash : Bool) (path : List Ch) → k ≡ tokens.Include folder hash path → ⊥)
    → IsInclude k → ⊥
not_include (tokens.Include folder hash path) other h = other folder hash path refl
not_include _ other h = h
