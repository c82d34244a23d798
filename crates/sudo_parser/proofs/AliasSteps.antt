-- The steps of an alias line, as the parser takes them.
use Rattle.std.proofs.Common.{◌≡◌, ℕ, ◌<◌, List, [], ◌∷◌, length, refl, ap, sym, ◌∙◌, subst, cond, Bool, true, None, Some, arith, ltb, leb}
use Rattle.std.specs.Prelude.{is_some, not}
use Rattle.sudo_text.specs.declared.token.Mark.TheVariants as marks
use Rattle.sudo_text.specs.declared.token.Token.{Token}
use Rattle.sudo_text.specs.declared.token.TokenKind.{TokenKind}
use Rattle.sudo_text.specs.declared.token.TokenKind.TheVariants as tokens
use Rattle.sudo_grammar.specs.declared.kind.Kind.{Kind}
use Rattle.sudo_grammar.specs.declared.kind.Member.{Member}
use Rattle.sudo_grammar.specs.declared.policy.Definition.{Definition}
use Rattle.sudo_grammar.specs.declared.fault.Expected.TheVariants as wants
use Rattle.sudo_grammar.specs.declared.fault.Refusal.{Refusal}
use Rattle.sudo_grammar.specs.declared.fault.Refusal.TheVariants as refusals
use Rattle.sudo_grammar.specs.declared.fault.Unsupported.TheVariants as forms
use Rattle.sudo_parser.specs.declared.stops.ParserStop.TheVariants as stops
use Rattle.sudo_parser.specs.Body.Stops.{Stops, IsNotNext}
use Rattle.sudo_grammar.specs.Body.Reading.{reading}
use Rattle.sudo_parser.proofs.Steps.{stops_here, stops_same}
use Rattle.std.proofs.lemmas.Bool.Decides.{nat_tests}
use Rattle.sudo_grammar.specs.Words.{name_of}
use Rattle.sudo_grammar.specs.Faults.{Room}
use Rattle.sudo_grammar.specs.Body.States.{Defines, AliasName, AfterName, AfterItem, at_alias_name, after_item}
use Rattle.sudo_grammar.specs.Refusals.{refused_name}
use Rattle.sudo_parser.specs.Body.Aliases.{IsFull, StopsInName, ReadsDefinition, ReadsToDefinition}
use Rattle.sudo_grammar.proofs.Limits.{reading-stops}

-- no token where the name of a definition must stand
pub name-missing : (full : Bool) (whole : List Token) → whole ≡ []
    → StopsInName full whole (stops.At (refusals.Syntax wants.AliasName) 0)
name-missing full whole is = subst (λ x. StopsInName full x (stops.At (refusals.Syntax wants.AliasName) 0)) (sym is)
    (λ room kind done same. stops_here room (AliasName kind done) [] _ refl refl)

name-stops : (full : Bool) (t : Token) (ts : List Token) (r : Refusal)
    → ((room : Room) (kind : Kind) (done : List Definition) → IsFull room kind done full
    → at_alias_name room kind done (name_of t.kind) ≡ None)
    → refused_name (t ∷ ts) ≡ r → StopsInName full (t ∷ ts) (stops.At r (length (t ∷ ts)))
name-stops full t ts r none is = λ room kind done same.
    stops_here room (AliasName kind done) (t ∷ ts) r (reading-stops room (AliasName kind done) t ts (none room kind done same)) is

-- another token there
pub name-other : (full : Bool) (whole : List Token) (t : Token) (ts : List Token) → whole ≡ t ∷ ts
    → name_of t.kind ≡ None → StopsInName full whole (stops.At (refusals.Syntax wants.AliasName) (length whole))
name-other full whole t ts is h = subst
    (λ x. StopsInName full x (stops.At (refusals.Syntax wants.AliasName) (length x))) (sym is)
    (name-stops full t ts (refusals.Syntax wants.AliasName)
    (λ room kind done same. ap (at_alias_name room kind done) h)
    (ap (λ n. cond (is_some n) refusals.TooMany (refusals.Syntax wants.AliasName)) h))

-- a name too many there
pub name-full : (full : Bool) (whole : List Token) (t : Token) (ts : List Token) (w : List ℕ) → whole ≡ t ∷ ts
    → name_of t.kind ≡ Some w → full ≡ true → StopsInName full whole (stops.At refusals.TooMany (length whole))
name-full full whole t ts w is h all = subst
    (λ x. StopsInName full x (stops.At refusals.TooMany (length x))) (sym is)
    (name-stops full t ts refusals.TooMany
    (λ room kind done same. ap (at_alias_name room kind done) h
    ∙ ap (λ b. cond b (Some (AfterName kind done w)) None) (same ∙ ap not all))
    (ap (λ n. cond (is_some n) refusals.TooMany (refusals.Syntax wants.AliasName)) h))

-- after the definitions a token that can't stand there
list-stuck : (kind : Kind) (done : List Definition) (w : List ℕ) (ms : List Member) (t : Token) (k : TokenKind)
    → (k ≡ tokens.Mark marks.Comma → ⊥) → (k ≡ tokens.Mark marks.Colon → ⊥) → after_item (Defines kind done w) ms t k ≡ None
list-stuck kind done w ms t (tokens.Mark marks.Comma) comma colon = absurd (comma refl)
list-stuck kind done w ms t (tokens.Mark marks.Colon) comma colon = absurd (colon refl)
list-stuck kind done w ms t _ comma colon = refl

pub definitions-stop : (room : Room) (kind : Kind) (limit : ℕ) (ts : List Token) (ds : List Definition) (rest : List Token)
    (d : Definition) (after : List Token) (full : Bool) → room kind ≡ limit
    → ReadsToDefinition kind limit ts ds rest → ReadsDefinition kind full rest d after
    → IsFull room kind ds full → IsNotNext marks.Colon after → 0 < length after
    → Stops (stops.At (refusals.Syntax wants.EndOfLine) (length after)) (reading room (AliasName kind []) ts)
definitions-stop room kind limit ts ds rest d [] full same so_far r fits colon some = absurd (omega arith)
definitions-stop room kind limit ts ds rest d (t ∷ after) full same so_far r fits colon some =
    stops_same (stops.At (refusals.Syntax wants.EndOfLine) (length (t ∷ after))) _ _ (so_far room same ∙ r.reads room ds fits)
    (stops_here room (AfterItem (Defines kind ds d.name) d.members) (t ∷ after) _
    (reading-stops room (AfterItem (Defines kind ds d.name) d.members) t after
    (list-stuck kind ds d.name d.members t t.kind r.no_more colon))
    (ap (λ b. cond b (refusals.Unsupported forms.CommandOption) (refusals.Syntax wants.EndOfLine)) r.no_option))

not_leb : (a b : ℕ) → ltb a b ≡ not (leb b a)
not_leb a b = grind (arith, nat_tests)

-- the test of the code
pub full_by : (room : Room) (kind : Kind) (ds : List Definition) (limit n : ℕ) → room kind ≡ limit → n ≡ length ds
    → IsFull room kind ds (leb limit n)
full_by room kind ds limit n same is =
    ap (λ r. ltb (length ds) r) same ∙ not_leb (length ds) limit ∙ ap (λ m. not (leb limit m)) (sym is)
