-- How the characters of a word, a value, a path or arguments are spelled in the text of a line. sudoers(5), "Other special
-- characters and reserved words".
use Rattle.std.specs.Prelude.{◌≡◌, ◌≢◌, ℕ, ◌+◌, ◌*◌, Bool, true, false, All, List, [], ◌∷◌, ◌++◌, Ok}
use Rattle.sudo_grammar.specs.Members.{atom_of}
use Rattle.sudo_grammar.specs.declared.kind.Atom.{Atom}
use Rattle.sudo_grammar.specs.declared.kind.Kind.TheVariants as kinds
use Rattle.sudo_text.specs.Bytes.{hex_value, is_blank, is_control, is_hex}
use Rattle.sudo_text.specs.Pieces.{escaped, plain}
use Rattle.sudo_text.specs.declared.token.Ch.{Ch}
use Rattle.sudo_text.specs.declared.token.TokenKind.TheVariants.{Word}

-- the bytes that spell a character; `hex`: in a run in which `\xHH` is a byte, `spaced`: among arguments
pub data Spells (hex spaced : Bool) : Ch → List ℕ → Type 0 where
  -- a byte other than a backslash is itself
  itself : (b : ℕ) → b ≢ 92 → is_control b ≡ false → Spells hex spaced (plain b) (b ∷ [])
  -- a backslash and a byte are that byte, escaped; where `\xHH` is a byte, the byte is no `x`
  escape : (b : ℕ) → is_control b ≡ false → (hex ≡ true → b ≢ 120) → Spells hex spaced (escaped b) (92 ∷ b ∷ [])
  -- `\x` and two hexadecimal digits are the byte of that number, escaped
  number : (high low : ℕ) → hex ≡ true → is_hex high ≡ true → is_hex low ≡ true
      → Spells hex spaced (escaped (hex_value high * 16 + hex_value low)) (92 ∷ 120 ∷ high ∷ low ∷ [])
  -- blanks among arguments are one space
  blanks : (b : ℕ) (bs : List ℕ) → spaced ≡ true → All (λ c. is_blank c ≡ true) (b ∷ bs) → Spells hex spaced (plain 32) (b ∷ bs)

-- the bytes that spell characters, one after the other
pub data SpellsAll (hex spaced : Bool) : List Ch → List ℕ → Type 0 where
  none : SpellsAll hex spaced [] []
  next : (c : Ch) (cs : List Ch) (first rest : List ℕ) → Spells hex spaced c first → SpellsAll hex spaced cs rest
      → SpellsAll hex spaced (c ∷ cs) (first ++ rest)

-- the bytes spell characters of which P holds, in a run in which `\xHH` is a byte
abbrev pub SpellSome : List ℕ → (List Ch → Type 0) → Type 0
SpellSome bytes P = (chars : List Ch) × SpellsAll true false chars bytes × P chars

-- the word of these characters, between double quotes or not, is this atom: in a list of users, and of those to run as
abbrev pub ReadAsUser : Bool → List Ch → Atom → Type 0
ReadAsUser quoted chars atom =
    (atom_of kinds.User (Word quoted chars) ≡ Ok atom) × (atom_of kinds.Runas (Word quoted chars) ≡ Ok atom)
