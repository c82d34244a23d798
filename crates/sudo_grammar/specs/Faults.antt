-- The grammar fault of a line: where it is, and why. Both are defined by prefixes of forms alone.
use Rattle.std.specs.Prelude.{◌≡◌, ℕ, ◌≤◌, List, [], ◌∷◌, ◌++◌, length, Some, ◌⊎◌}
use Rattle.sudo_text.specs.declared.token.Token.{Token}
use Rattle.sudo_grammar.specs.declared.kind.Kind.{Kind}
use Rattle.sudo_grammar.specs.declared.policy.Definition.{Definition}
use Rattle.sudo_grammar.specs.declared.policy.EntryBody.{EntryBody}
use Rattle.sudo_grammar.specs.declared.policy.EntryBody.TheVariants as entries
use Rattle.sudo_grammar.specs.declared.fault.Expected.{Expected}
use Rattle.sudo_grammar.specs.declared.fault.Refusal.{Refusal}
use Rattle.sudo_grammar.specs.Words.{name_of}
use Rattle.sudo_grammar.specs.Forms.{definition_list, Writes}
use Rattle.sudo_grammar.specs.Standing.{BeginsEntry, IsExpected}
use Rattle.sudo_grammar.specs.Refusals.{IsRefusal}

-- the number of definitions of each kind that are still allowed
abbrev pub Room : Type 0
Room = Kind → ℕ

-- within the limits of definitions
abbrev pub HasRoom : Room → EntryBody → Type 0
HasRoom room (entries.Aliases kind ds) = length ds ≤ room kind
HasRoom room _ = Unit {0}

-- the tokens write the entry, within the limits
abbrev pub WritesWithin : Room → EntryBody → List Token → Type 0
WritesWithin room e ts = Writes e ts × HasRoom room e

-- after these tokens and the definitions that they have, further definitions of the kind could follow: the tokens are a
-- line of aliases up to the name of a definition
abbrev pub DefinitionsFollow : Kind → List Definition → List Token → Type 0
DefinitionsFollow kind done front = (ds : List Definition) (ts : List Token) → definition_list kind ds ts []
    → Writes (entries.Aliases kind (done ++ ds)) (front ++ ts)

-- the name after these tokens would be the name of a definition over the limit
abbrev pub IsOneTooMany : Room → List Token → Token → Type 0
IsOneTooMany room front t = (kind : Kind) × (done : List Definition) × (w : List ℕ)
    × DefinitionsFollow kind done front × (name_of t.kind ≡ Some w) × (room kind ≤ length done)

-- the line cannot continue after the front with the next token, or end there
abbrev pub IsStuck : Room → List Token → List Token → Type 0
IsStuck room front [] = (e : EntryBody) → Writes e front → ⊥
IsStuck room front (t ∷ ts) = (BeginsEntry (front ++ t ∷ []) → ⊥) ⊎ IsOneTooMany room front t

-- a refusal, and the tokens from the refused one on
pub record Stop : Type 0 where
  pub rest : List Token
  pub refusal : Refusal

-- the line's fault: it is at the first token up to which the tokens begin no form, or which is the name of a definition
-- over the limit, or at the end of the line
pub record IsGrammarFault (room : Room) (ts : List Token) (stop : Stop) : Type 0 where
  pub front : List Token
  pub whole : ts ≡ front ++ stop.rest
  pub begins : BeginsEntry front
  -- no name in the front is that of a definition over the limit
  pub within : (before : List Token) (t : Token) (more : List Token) → front ≡ before ++ t ∷ more → IsOneTooMany room before t → ⊥
  pub stuck : IsStuck room front stop.rest
  -- what was expected there, and the refusal
  pub expected : Expected
  pub wanted : IsExpected expected front
  pub refused : IsRefusal expected front stop.rest stop.refusal
