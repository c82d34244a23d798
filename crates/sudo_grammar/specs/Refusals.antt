-- The refusal where a line cannot go on: the tokens before it say what was expected there, and the tokens from the
-- refused one on say whether a form is recognized and refused.
use Rattle.std.specs.Prelude.{◌≡◌, ℕ, Bool, true, false, List, [], ◌∷◌, ◌++◌, Result, Ok, Err, ◌⊎◌}
use Rattle.std.specs.Prelude.{if◌then◌else◌, is_some, ◌&&◌, ◌==◌}
use Rattle.sudo_text.specs.declared.token.Mark.TheVariants as marks
use Rattle.sudo_text.specs.declared.token.Token.{Token}
use Rattle.sudo_grammar.specs.declared.kind.Kind.{Kind}
use Rattle.sudo_grammar.specs.declared.kind.Kind.TheVariants as kinds
use Rattle.sudo_grammar.specs.declared.kind.Atom.{Atom}
use Rattle.sudo_text.specs.declared.token.Mark.{Mark}
use Rattle.sudo_grammar.specs.declared.fault.Expected.{Expected}
use Rattle.sudo_grammar.specs.declared.fault.Expected.TheVariants as wants
use Rattle.sudo_grammar.specs.declared.fault.Refusal.{Refusal}
use Rattle.sudo_grammar.specs.declared.fault.Refusal.TheVariants as refusals
use Rattle.sudo_grammar.specs.declared.fault.Unsupported.TheVariants as forms
use Rattle.sudo_grammar.specs.Words.{name_of, plain_word, is_option_name, is_digest_name}
use Rattle.sudo_grammar.specs.Openings.{Opening, BadDirective, opening_of, is_percent, is_mark, word_passes}
use Rattle.sudo_grammar.specs.Members.{atom_of, expected_in}
use Rattle.sudo_grammar.specs.Standing.{MembersStand}

-- the next token is this mark; `is_next_at`: and begins at an offset
abbrev pub is_next : Mark → List Token → Bool
is_next m [] = false
is_next m (t ∷ ts) = is_mark m t.kind

abbrev pub is_next_at : ℕ → Mark → List Token → Bool
is_next_at offset m [] = false
is_next_at offset m (t ∷ ts) = is_mark m t.kind && (t.start == offset)

-- a refusal, or the one that the next token decides: `%` with a colon directly after it is a non-Unix group, and the
-- name of a digest with a colon after it is a digest
abbrev pub with_next : Kind → Token → List Token → Refusal → Refusal
with_next kinds.Cmnd t ts refusal =
    if word_passes is_digest_name (plain_word t.kind) && is_next marks.Colon ts
    then refusals.Unsupported forms.Digest else refusal
with_next kinds.Host t ts refusal = refusal
with_next _ t ts refusal =
    if is_percent t.kind && is_next_at t.end marks.Colon ts
    then refusals.Unsupported forms.NonUnixGroup else refusal

abbrev pub refused_atom : Kind → Token → List Token → Result Atom Refusal → Refusal
refused_atom kind t ts (Ok atom) = refusals.Syntax (expected_in kind)
refused_atom kind t ts (Err refusal) = with_next kind t ts refusal

-- the refusal of tokens that begin with no member of lists of the kind
abbrev pub refused_member : Kind → List Token → Refusal
refused_member kind [] = refusals.Syntax (expected_in kind)
refused_member kind (t ∷ ts) = refused_atom kind t ts (atom_of kind t.kind)

-- an option of a command, such as `CWD=`: where a command could stand, its name was read as that of an alias; no line goes
-- on with the `=`, and the refusal is that of the name, without a column
abbrev pub IsOption : List Token → List Token → Type 0
IsOption front ts = (before : List Token) × (t : Token) × (front ≡ before ++ t ∷ []) × MembersStand kinds.Cmnd before
    × ((word_passes is_option_name (plain_word t.kind) && is_next marks.Equals ts) ≡ true)

-- the refusal at the name of an alias: one definition too many, or no name
abbrev pub refused_name : List Token → Refusal
refused_name [] = refusals.Syntax wants.AliasName
refused_name (t ∷ ts) = if is_some (name_of t.kind) then refusals.TooMany else refusals.Syntax wants.AliasName

-- the refusal of the first token of a line: of an include directive that has no path, or `%h` in it, or of what is no user
abbrev pub refused_start : List Token → Opening → Refusal
refused_start ts (BadDirective []) = refusals.Syntax wants.Path
refused_start ts (BadDirective (c ∷ cs)) = refusals.Unsupported forms.HostEscape
refused_start ts _ = refused_member kinds.User ts

abbrev pub refused_first : List Token → Refusal
refused_first [] = refusals.Syntax wants.Member
refused_first (t ∷ ts) = refused_start (t ∷ ts) (opening_of t.kind)

-- the refusal of the tokens after a front, where that is expected
abbrev pub IsRefusal : Expected → List Token → List Token → Refusal → Type 0
IsRefusal wants.AliasName front ts refusal = refusal ≡ refused_name ts
IsRefusal wants.Command front ts refusal = refusal ≡ refused_member kinds.Cmnd ts
IsRefusal wants.Member [] ts refusal = refusal ≡ refused_first ts
-- users and groups to run as are refused as users are
IsRefusal wants.Member front ts refusal = (MembersStand kinds.User front × (refusal ≡ refused_member kinds.User ts))
    ⊎ ((MembersStand kinds.User front → ⊥) × (refusal ≡ refused_member kinds.Host ts))
IsRefusal x front ts refusal = (IsOption front ts × (refusal ≡ refusals.Unsupported forms.CommandOption))
    ⊎ ((IsOption front ts → ⊥) × (refusal ≡ refusals.Syntax x))
