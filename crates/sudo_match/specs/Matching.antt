-- The matching of atoms with a user, a group, a host, and a command with its arguments, as in sudoers(5), "User_List",
-- "Runas_List", "Host_List", "Cmnd_List" and "Wildcards".
use Rattle.std.specs.Prelude.{ℕ, ◌-◌, ◌/◌, ◌^◌, Bool, true, false, not, ◌&&◌, ◌||◌, ◌==◌, if◌then◌else◌, List, []}
use Rattle.std.specs.Prelude.{◌∷◌, map, length, bit_and, bytes_eq, codes, Option, Some, None}
use Rattle.std.specs.List.{list_any, before_first}
use Rattle.sudo_text.specs.declared.token.Ch.{Ch}
use Rattle.sudo_grammar.specs.declared.kind.Atom.{Atom}
use Rattle.sudo_grammar.specs.declared.kind.Atom.TheVariants as atom
use Rattle.sudo_match.specs.declared.people.Person.{Person}
use Rattle.sudo_match.specs.declared.people.Group.{Group}
use Rattle.sudo_match.specs.declared.people.Machine.{Machine}
use Rattle.sudo_match.specs.declared.people.Interface.{Interface}
use Rattle.sudo_match.specs.declared.patterns.Slash.{Slash}
use Rattle.sudo_match.specs.declared.patterns.Slash.TheVariants.{Any, Not}
use Rattle.sudo_match.specs.Pattern.{is_byte, is_plain, begins, parts, path_chars, fits}
use Rattle.sudo_match.specs.HostNames.{host_chars, quoted_chars}
use Rattle.sudo_match.specs.Class.{lower_text}

-- ---- Users and groups

unfoldable pub user_fits : Atom → Person → Bool
user_fits atom.All u = true
user_fits (atom.Name n) u = bytes_eq n u.name
user_fits (atom.Uid i) u = i == u.uid
user_fits (atom.Group n) u = list_any (λ g. bytes_eq g.name n) u.groups
user_fits (atom.Gid i) u = list_any (λ g. g.gid == i) u.groups
user_fits _ u = false

-- an atom of a group list, where a plain name is a group's
unfoldable pub group_fits : Atom → Group → Bool
group_fits atom.All g = true
group_fits (atom.Name n) g = bytes_eq n g.name
group_fits (atom.Group n) g = bytes_eq n g.name
group_fits (atom.Uid i) g = i == g.gid
group_fits (atom.Gid i) g = i == g.gid
group_fits _ g = false

-- ---- Hosts

-- the characters have a dot
abbrev pub pattern_has_dot : List Ch → Bool
pattern_has_dot chars = list_any (is_byte 46) chars

-- a host's name up to its first dot
abbrev pub short_name : List ℕ → List ℕ
short_name name = before_first (λ b. b == 46) name

-- the name with which a pattern is compared: the whole one for a pattern with a dot
abbrev pub compared_name : List Ch → List ℕ → List ℕ
compared_name chars name = if pattern_has_dot chars then name else short_name name

abbrev pub host_pattern : List Ch → Bool → List Ch
host_pattern chars quoted = if quoted then quoted_chars chars else host_chars chars

-- the mask with the given number of leading bits set
abbrev pub mask_of : ℕ → ℕ
mask_of bits = 2 ^ 32 - 2 ^ (32 - bits)

-- an address of 127.0.0.0/8
abbrev pub is_loopback : ℕ → Bool
is_loopback addr = addr / 2 ^ 24 == 127

-- the address is that of an interface, or of its network
abbrev pub address_fits : ℕ → Interface → Bool
address_fits addr i = not (is_loopback i.addr) && (addr == i.addr || addr == bit_and i.addr (mask_of i.bits))

-- an interface and a network agree under the network's mask
abbrev pub net_fits : ℕ → ℕ → Interface → Bool
net_fits addr mask i = not (is_loopback i.addr) && (bit_and addr mask == bit_and i.addr mask)

unfoldable pub host_fits : Atom → Machine → Bool
host_fits atom.All m = true
host_fits (atom.Host chars quoted) m = fits (parts (host_pattern chars quoted)) (lower_text (compared_name chars m.name)) Any
host_fits (atom.Address addr) m = list_any (address_fits addr) m.interfaces
host_fits (atom.Net addr mask) m = list_any (net_fits addr mask) m.interfaces
host_fits _ m = false

-- ---- Commands

-- the characters are these bytes, none of them escaped
abbrev pub spells_text : List ℕ → List Ch → Bool
spells_text name chars = (length chars == length name) && begins (map is_plain name) chars

abbrev pub is_empty : List ℕ → Bool
is_empty [] = true
is_empty (b ∷ bs) = false

-- a command without arguments allows any, `""` allows none, and any other text is a pattern
abbrev pub arguments_fit : Slash → Option (List Ch) → List ℕ → Bool
arguments_fit slash None arguments = true
arguments_fit slash (Some chars) arguments = if spells_text (codes "\"\"") chars then is_empty arguments else fits
    (parts chars) arguments slash

-- `*` in the arguments of a command may fit a `/`, except in the paths that `sudoedit` edits
abbrev pub arguments_slash : List Ch → Slash
arguments_slash path = if spells_text (codes "sudoedit") path then Not else Any

unfoldable pub command_fits : Atom → List ℕ → List ℕ → Bool
command_fits atom.All command arguments = true
command_fits (atom.Command path args) command arguments =
    fits (parts (path_chars path)) command Not && arguments_fit (arguments_slash path) args arguments
command_fits _ command arguments = false
