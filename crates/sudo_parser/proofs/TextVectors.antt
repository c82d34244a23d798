-- Worked texts of members, each by computation. (Texts with numbers are tested by running.)
use Rattle.std.proofs.Common.{◌≡◌, List, [], ◌∷◌, ◌++◌, refl, None, Some, true, false}
use Rattle.std.specs.Prelude.{map, codes}
use Prim.Native.String.{String}
use Rattle.sudo_text.specs.declared.token.Ch.{Ch}
use Rattle.sudo_grammar.specs.declared.kind.Atom.TheVariants as atoms
use Rattle.sudo_parser.specs.Texts.{signed_text, atom_text}

abbrev chars : String → List Ch
chars s = map (λ b. record { byte = b; escaped = false }) (codes s)

abbrev escaped : String → List Ch
escaped s = map (λ b. record { byte = b; escaped = true }) (codes s)

negated : signed_text (record { negated = true; atom = atoms.All }) ≡ codes "!ALL"
negated = refl

group : signed_text (record { negated = true; atom = atoms.Group (codes "domain users") }) ≡ codes "!%domain\\ users"
group = refl

-- a name that reads as ALL or as an alias stands in double quotes, and no other
all : atom_text (atoms.Name (codes "ALL")) ≡ codes "\"ALL\""
all = refl

alias : atom_text (atoms.Name (codes "WEB_1")) ≡ codes "\"WEB_1\""
alias = refl

lower : atom_text (atoms.Name (codes "wEB")) ≡ codes "wEB"
lower = refl

-- a percent sign and a plus have a meaning at the front of a name alone, and a number sign everywhere
percent : atom_text (atoms.Name (codes "%a%#")) ≡ codes "\\%a%\\#"
percent = refl

plus : atom_text (atoms.Name (codes "+a+")) ≡ codes "\\+a+"
plus = refl

number_sign : atom_text (atoms.Name (codes "#1")) ≡ codes "\\#1"
number_sign = refl

group_percent : atom_text (atoms.Group (codes "%a")) ≡ codes "%%a"
group_percent = refl

marks : atom_text (atoms.Name (codes "a!=:,()\\\"b")) ≡ codes "a\\!\\=\\:\\,\\(\\)\\\\\\\"b"
marks = refl

-- control bytes, the tab among them, by two lower-case digits
control : atom_text (atoms.Name (97 ∷ 9 ∷ 31 ∷ 127 ∷ [])) ≡ codes "a\\x09\\x1f\\x7f"
control = refl

-- the characters of a pattern are written as they were
host : atom_text (atoms.Host (chars "web" ++ escaped "?" ++ chars "*") false) ≡ codes "web\\?*"
host = refl

quoted : atom_text (atoms.Host (chars "we\"b\\?") true) ≡ codes "\"we\\\"b\\\\?\""
quoted = refl

command : atom_text (atoms.Command (chars "/bin/a" ++ escaped ",") (Some (chars "-l *"))) ≡ codes "/bin/a\\, -l *"
command = refl

bare : atom_text (atoms.Command (chars "/bin/") None) ≡ codes "/bin/"
bare = refl
