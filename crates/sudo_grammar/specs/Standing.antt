-- What could stand at a place of a line, and what is expected there. A place is given by the tokens before it, and all
-- is defined by the forms that begin with them.
--
-- A line can often go on in several ways: after a command with its end, a comma or a colon. A syntax error names the
-- first sort of token, in a fixed order, of which each token could stand. So its word is:
--
--     after a keyword, and after `:` in an alias line                                             alias name
--     after the name of an alias; after a host item of a section                                  =
--     where a user, host, runas or group item must begin, or its word stand; after the user
--     list; after `(` and `:` of a runas                                                          member
--     where a command must stand                                                                  command
--     after an item of a runas                                                                    )
--     after `Defaults`, after a bound list, after `,` or `!` among parameters                     parameter
--     after `=`, `+=`, `-=` of a parameter                                                        value
--     anywhere else                                                                               end of line
use Rattle.std.specs.Prelude.{◌≡◌, ℕ, List, [], ◌∷◌, ◌++◌, Some, Ok, Bool, true, false, ◌⊎◌}
use Rattle.sudo_text.specs.declared.token.Ch.{Ch}
use Rattle.sudo_text.specs.declared.token.Mark.TheVariants as marks
use Rattle.sudo_text.specs.declared.token.Token.{Token}
use Rattle.sudo_text.specs.declared.token.TokenKind.TheVariants as tokens
use Rattle.sudo_grammar.specs.declared.kind.Kind.{Kind}
use Rattle.sudo_grammar.specs.declared.kind.Kind.TheVariants as kinds
use Rattle.sudo_grammar.specs.declared.kind.Atom.{Atom}
use Rattle.sudo_grammar.specs.declared.policy.EntryBody.{EntryBody}
use Rattle.sudo_grammar.specs.declared.fault.Expected.{Expected}
use Rattle.sudo_grammar.specs.declared.fault.Expected.TheVariants as wants
use Rattle.sudo_grammar.specs.Words.{name_of}
use Rattle.sudo_grammar.specs.Members.{atom_of}
use Rattle.sudo_grammar.specs.Openings.{opening_of, is_direct, is_word, Directive}
use Rattle.sudo_grammar.specs.Forms.{Writes}

-- the tokens begin a form of some entry
abbrev pub BeginsEntry : List Token → Type 0
BeginsEntry front = (e : EntryBody) × (rest : List Token) × Writes e (front ++ rest)

-- each member of lists of the kind could stand after the front
abbrev pub MembersStand : Kind → List Token → Type 0
MembersStand kind front = (t : Token) (a : Atom) → atom_of kind t.kind ≡ Ok a → BeginsEntry (front ++ t ∷ [])

-- each token of that sort could stand after the front; or the line could end there
abbrev pub CanStand : Expected → List Token → Type 0
CanStand wants.AliasName front = (t : Token) (w : List ℕ) → name_of t.kind ≡ Some w → BeginsEntry (front ++ t ∷ [])
CanStand wants.Equals front = (t : Token) → t.kind ≡ tokens.Mark marks.Equals → BeginsEntry (front ++ t ∷ [])
CanStand wants.Member front = (kind : Kind) × ((kind ≡ kinds.Cmnd → ⊥) × MembersStand kind front)
CanStand wants.Command front = MembersStand kinds.Cmnd front
CanStand wants.RightParen front = (t : Token) → t.kind ≡ tokens.Mark marks.RightParen → BeginsEntry (front ++ t ∷ [])
-- a parameter begins with its word or with an exclamation mark
CanStand wants.Parameter front = (t : Token) → (is_word t.kind ≡ true) ⊎ (t.kind ≡ tokens.Mark marks.Bang)
    → is_direct t ≡ false → BeginsEntry (front ++ t ∷ [])
CanStand wants.Value front = (t : Token) → is_word t.kind ≡ true → BeginsEntry (front ++ t ∷ [])
CanStand wants.Path front = (t : Token) (folder hash : Bool) (path : List Ch)
    → opening_of t.kind ≡ Directive folder hash path → BeginsEntry (front ++ t ∷ [])
CanStand wants.EndOfLine front = (e : EntryBody) × Writes e front

-- the order of the sorts: each is before those of which tokens could stand at its places as well
abbrev pub sorts : List Expected
sorts = wants.EndOfLine ∷ wants.Equals ∷ wants.Command ∷ wants.Parameter ∷ wants.Value ∷ wants.Member ∷ wants.RightParen
    ∷ wants.AliasName ∷ []

-- the first of these sorts of which each token could stand after the front
abbrev pub IsFirst : Expected → List Expected → List Token → Type 0
IsFirst x [] front = ⊥
IsFirst x (y ∷ ys) front = ((x ≡ y) × CanStand y front) ⊎ ((CanStand y front → ⊥) × IsFirst x ys front)

-- what is expected after the front
abbrev pub IsExpected : Expected → List Token → Type 0
IsExpected x front = IsFirst x sorts front
