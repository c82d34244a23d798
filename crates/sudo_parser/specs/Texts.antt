-- The text of a written-out member: sudoers(5), "SUDOERS FILE FORMAT" and "Other special characters and reserved
-- words", with an escape before each byte of a name that has a special meaning.
use Rattle.std.specs.Prelude.{ℕ, ◌+◌, ◌/◌, ◌%◌, Bool, true, false, ◌||◌, ◌==◌, nat_lt, List, [], ◌∷◌, ◌++◌, Option}
use Rattle.std.specs.Prelude.{None, Some, if◌then◌else◌, codes, decimal}
use Rattle.std.specs.List.{flat_map, list_any}
use Rattle.std.specs.Str.{bytes_eq}
use Rattle.sudo_text.specs.declared.token.Ch.{Ch}
use Rattle.sudo_grammar.specs.declared.kind.Atom.{Atom}
use Rattle.sudo_grammar.specs.declared.kind.Atom.TheVariants as atoms
use Rattle.sudo_grammar.specs.declared.kind.Signed.{Signed}
use Rattle.sudo_grammar.specs.Words.{is_name}

-- a hexadecimal digit, in lower case
abbrev pub hex_digit : ℕ → ℕ
hex_digit n = if nat_lt n 10 then 48 + n else 87 + n

-- a space and the bytes with a special meaning between words
abbrev pub needs_backslash : ℕ → Bool
needs_backslash b = list_any (λ s. s == b) (codes " !=:,()\\\"#")

abbrev pub is_ascii_control : ℕ → Bool
is_ascii_control b = nat_lt b 32 || (b == 127)

-- a byte of a name
abbrev pub byte_text : ℕ → List ℕ
byte_text b =
    if needs_backslash b then 92 ∷ b ∷ []
    else if is_ascii_control b then 92 ∷ 120 ∷ hex_digit (b / 16) ∷ hex_digit (b % 16) ∷ []
    else b ∷ []

abbrev pub name_text : List ℕ → List ℕ
name_text = flat_map byte_text

-- the first byte of a user's name: a percent sign and a plus have a special meaning there
abbrev pub first_text : ℕ → List ℕ
first_text b = if (b == 37) || (b == 43) then 92 ∷ b ∷ [] else byte_text b

abbrev pub user_text : List ℕ → List ℕ
user_text [] = []
user_text (b ∷ bs) =
    if is_name (b ∷ bs) || bytes_eq (b ∷ bs) (codes "ALL") then 34 ∷ (b ∷ bs) ++ 34 ∷ []
    else first_text b ++ name_text bs

-- a character of a pattern
abbrev pub ch_text : Ch → List ℕ
ch_text c = if c.escaped then 92 ∷ c.byte ∷ [] else c.byte ∷ []

abbrev pub chars_text : List Ch → List ℕ
chars_text = flat_map ch_text

-- a character between double quotes
abbrev pub quoted_ch_text : Ch → List ℕ
quoted_ch_text c = if (c.byte == 34) || (c.byte == 92) then 92 ∷ c.byte ∷ [] else c.byte ∷ []

abbrev pub host_text : List Ch → Bool → List ℕ
host_text chars true = 34 ∷ flat_map quoted_ch_text chars ++ 34 ∷ []
host_text chars false = chars_text chars

abbrev pub address_text : ℕ → List ℕ
address_text a = decimal (a / 16777216) ++ (46 ∷ decimal (a / 65536 % 256) ++ (46 ∷ decimal (a / 256 % 256) ++ (46 ∷ decimal (a % 256))))

abbrev pub command_text : List Ch → Option (List Ch) → List ℕ
command_text path None = chars_text path
command_text path (Some args) = chars_text path ++ (32 ∷ chars_text args)

abbrev pub atom_text : Atom → List ℕ
atom_text atoms.All = codes "ALL"
atom_text (atoms.Alias name) = name_text name
atom_text (atoms.Name name) = user_text name
atom_text (atoms.Uid id) = 35 ∷ decimal id
atom_text (atoms.Group name) = 37 ∷ name_text name
atom_text (atoms.Gid id) = 37 ∷ 35 ∷ decimal id
atom_text (atoms.Host chars quoted) = host_text chars quoted
atom_text (atoms.Address a) = address_text a
atom_text (atoms.Net addr mask) = address_text addr ++ (47 ∷ address_text mask)
atom_text (atoms.Command path args) = command_text path args

abbrev pub signed_text : Signed → List ℕ
signed_text m = (if m.negated then 33 ∷ [] else []) ++ atom_text m.atom
