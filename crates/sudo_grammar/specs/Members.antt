-- The meaning of a token as a member of a list, or its refusal: sudoers(5), "Aliases" and "SUDOERS FILE FORMAT". A
-- reader checks this file against the manual page's descriptions of User_List, Runas_List, Host_List and Cmnd_List.
use Rattle.std.specs.Prelude.{ℕ, ◌+◌, ◌-◌, ◌*◌, ◌^◌, Bool, true, false, not, ◌&&◌, ◌==◌, nat_le, nat_lt, List, []}
use Rattle.std.specs.Prelude.{◌∷◌, length, Option, None, Some, Result, Ok, Err, if◌then◌else◌, codes, take, drop}
use Rattle.std.specs.Prelude.{position, slice_get}
use Rattle.std.specs.Option.{option_map, option_and_then}
use Rattle.std.specs.List.{list_all, list_any}
use Rattle.std.specs.Str.{bytes_eq}
use Rattle.sudo_text.specs.declared.token.Ch.{Ch}
use Rattle.sudo_text.specs.declared.token.TokenKind.{TokenKind}
use Rattle.sudo_text.specs.declared.token.TokenKind.TheVariants as tokens
use Rattle.sudo_grammar.specs.declared.kind.Kind.{Kind}
use Rattle.sudo_grammar.specs.declared.kind.Kind.TheVariants as kinds
use Rattle.sudo_grammar.specs.declared.kind.Atom.{Atom}
use Rattle.sudo_grammar.specs.declared.kind.Atom.TheVariants as atoms
use Rattle.sudo_grammar.specs.declared.fault.Expected.{Expected}
use Rattle.sudo_grammar.specs.declared.fault.Expected.TheVariants as wants
use Rattle.sudo_grammar.specs.declared.fault.Unsupported.TheVariants as forms
use Rattle.sudo_grammar.specs.declared.fault.Refusal.{Refusal}
use Rattle.sudo_grammar.specs.declared.fault.Refusal.TheVariants as refusals
use Rattle.sudo_text.specs.Bytes.{is_digit}
use Rattle.sudo_grammar.specs.Words.{bytes_of, has_no_escape, plain_word, is_name}

-- the expected token in a list of a kind
abbrev pub expected_in : Kind → Expected
expected_in kinds.Cmnd = wants.Command
expected_in _ = wants.Member

-- the refusal of an empty user, group or host
abbrev pub no_member : Refusal
no_member = refusals.Syntax wants.Member

-- the value of decimal digits appended to a value
abbrev pub decimal_after : ℕ → List ℕ → ℕ
decimal_after value [] = value
decimal_after value (b ∷ bs) = decimal_after (10 * value + (b - 48)) bs

-- the value of one or more decimal digits
abbrev pub decimal : List ℕ → Option ℕ
decimal [] = None
decimal (b ∷ bs) = if list_all is_digit (b ∷ bs) then Some (decimal_after 0 (b ∷ bs)) else None

-- the value, if it fits 32 bits
abbrev pub in_range : Option ℕ → Option ℕ
in_range None = None
in_range (Some n) = if nat_lt n 4294967296 then Some n else None

abbrev pub number_of : List ℕ → Option ℕ
number_of bytes = in_range (decimal bytes)

abbrev pub ok_number : (ℕ → Atom) → Option ℕ → Result Atom Refusal
ok_number make None = Err refusals.BadNumber
ok_number make (Some n) = Ok (make n)

-- an ID
abbrev pub id_of : (ℕ → Atom) → List ℕ → Result Atom Refusal
id_of make bytes = ok_number make (number_of bytes)

-- a group, by the bytes after `%`
abbrev pub group_of : List ℕ → Result Atom Refusal
group_of [] = Err no_member
group_of (b ∷ bs) =
    if b == 58 then Err (refusals.Unsupported forms.NonUnixGroup)
    else if b == 35 then id_of atoms.Gid bs
    else Ok (atoms.Group (b ∷ bs))

-- a user, a group, or one of their refused forms; escapes matter at the first byte alone
abbrev pub user_of : List Ch → Result Atom Refusal
user_of [] = Err no_member
user_of (c ∷ cs) =
    if c.escaped then Ok (atoms.Name (bytes_of (c ∷ cs)))
    else if c.byte == 43 then Err (refusals.Unsupported forms.Netgroup)
    else if c.byte == 37 then group_of (bytes_of cs)
    else if c.byte == 35 then id_of atoms.Uid (bytes_of cs)
    else Ok (atoms.Name (bytes_of (c ∷ cs)))

-- the bytes before the first separator, and those after it
abbrev pub cut_at : ℕ → List ℕ → Option (List ℕ × List ℕ)
cut_at separator bytes = option_map (λ i. (take i bytes, drop (i + 1) bytes)) (position (λ b. b == separator) bytes)

-- one to three digits
abbrev pub is_octet : List ℕ → Bool
is_octet bytes = (nat_lt 0 (length bytes) && nat_lt (length bytes) 4) && list_all is_digit bytes

-- four groups of bytes with three dots between them
abbrev pub dotted_groups : List ℕ → Option (List ℕ × List ℕ × List ℕ × List ℕ)
dotted_groups bytes = option_and_then
    (λ p. option_and_then (λ q. option_map (λ r. (p.0, q.0, r.0, r.1)) (cut_at 46 q.1)) (cut_at 46 p.1)) (cut_at 46 bytes)

abbrev pub is_below_256 : ℕ → Bool
is_below_256 n = nat_lt n 256

-- the address of four numbers; a number over 255 is refused
abbrev pub address_of_numbers : ℕ → ℕ → ℕ → ℕ → Result ℕ Refusal
address_of_numbers a b c d =
    if ((is_below_256 a && is_below_256 b) && is_below_256 c) && is_below_256 d
    then Ok (16777216 * a + 65536 * b + 256 * c + d) else Err refusals.BadNumber

-- the value of one to three digits
abbrev pub octet_of : List ℕ → Option ℕ
octet_of bytes = if is_octet bytes then number_of bytes else None

-- the address of four groups, if each is one to three digits
abbrev pub address_of_groups : (List ℕ × List ℕ × List ℕ × List ℕ) → Option (Result ℕ Refusal)
address_of_groups g =
    option_and_then (λ a. option_and_then (λ b. option_and_then (λ c. option_map (λ d. address_of_numbers a b c d)
    (octet_of g.3)) (octet_of g.2)) (octet_of g.1)) (octet_of g.0)

-- the address that bytes spell: four groups of one to three digits with dots between them; none for bytes of another
-- shape, and a refusal if a group is over 255
abbrev pub address_of : List ℕ → Option (Result ℕ Refusal)
address_of bytes = option_and_then address_of_groups (dotted_groups bytes)

-- the mask with the given number of leading bits set
abbrev pub mask_of_bits : ℕ → Result ℕ Refusal
mask_of_bits bits = if nat_le bits 32 then Ok (4294967296 - 2 ^ (32 - bits)) else Err refusals.BadNumber

abbrev pub spelled_mask : Option (Result ℕ Refusal) → Result ℕ Refusal
spelled_mask None = Err refusals.BadNumber
spelled_mask (Some mask) = mask

abbrev pub mask_or : Option ℕ → List ℕ → Result ℕ Refusal
mask_or (Some bits) bytes = mask_of_bits bits
mask_or None bytes = spelled_mask (address_of bytes)

-- a mask: a number of bits up to 32, or as an address
abbrev pub mask_in : List ℕ → Result ℕ Refusal
mask_in bytes = mask_or (number_of bytes) bytes

abbrev pub net_with : ℕ → Result ℕ Refusal → Result Atom Refusal
net_with addr (Ok mask) = Ok (atoms.Net addr mask)
net_with addr (Err refusal) = Err refusal

-- a network: an address and a mask
abbrev pub network_of : Option (Result ℕ Refusal) → List ℕ → Result Atom Refusal
network_of None back = Err refusals.BadNumber
network_of (Some (Err refusal)) back = Err refusal
network_of (Some (Ok addr)) back = net_with addr (mask_in back)

abbrev pub address_or_host : List Ch → Option (Result ℕ Refusal) → Result Atom Refusal
address_or_host chars None = Ok (atoms.Host chars false)
address_or_host chars (Some (Ok addr)) = Ok (atoms.Address addr)
address_or_host chars (Some (Err refusal)) = Err refusal

-- the given byte, unescaped
abbrev pub is_bare : ℕ → Option Ch → Bool
is_bare b None = false
is_bare b (Some c) = not c.escaped && (c.byte == b)

-- an unescaped `/`
abbrev pub is_slash : Ch → Bool
is_slash c = not c.escaped && (c.byte == 47)

-- an unquoted host word without escapes, of these bytes: an address, a network or a name
abbrev pub plain_host_of : List Ch → List ℕ → Option (List ℕ × List ℕ) → Result Atom Refusal
plain_host_of chars bytes None = address_or_host chars (address_of bytes)
plain_host_of chars bytes (Some parts) = network_of (address_of parts.0) parts.1

abbrev pub unquoted_host_of : List Ch → Result Atom Refusal
unquoted_host_of chars =
    if has_no_escape chars then plain_host_of chars (bytes_of chars) (cut_at 47 (bytes_of chars))
    else if list_any is_slash chars then Err refusals.BadNumber
    else Ok (atoms.Host chars false)

abbrev pub host_of : Bool → List Ch → Result Atom Refusal
host_of quoted [] = Err no_member
host_of quoted (c ∷ cs) =
    if is_bare 43 (Some c) then Err (refusals.Unsupported forms.Netgroup)
    else if quoted then Ok (atoms.Host (c ∷ cs) true)
    else unquoted_host_of (c ∷ cs)

-- the first character is an unescaped `^`
abbrev pub begins_with_caret : List Ch → Bool
begins_with_caret chars = is_bare 94 (slice_get chars 0)

-- the last character is an unescaped `$`
abbrev pub ends_in_dollar : List Ch → Bool
ends_in_dollar chars = is_bare 36 (slice_get chars (length chars - 1))

-- arguments that are a regular expression
abbrev pub is_regular_expression : Option (List Ch) → Bool
is_regular_expression None = false
is_regular_expression (Some args) = begins_with_caret args && ends_in_dollar args

abbrev pub command_of : List Ch → Option (List Ch) → Result Atom Refusal
command_of path args =
    if is_regular_expression args then Err (refusals.Unsupported forms.RegularExpression)
    else Ok (atoms.Command path args)

-- the refusal of a word as a command
abbrev pub no_command : Bool → List Ch → Refusal
no_command quoted chars =
    if quoted then refusals.NotCommand
    else if begins_with_caret chars then refusals.Unsupported forms.RegularExpression
    else if has_no_escape chars && bytes_eq (bytes_of chars) (codes "list") then refusals.Unsupported forms.List
    else refusals.NotCommand

-- a word that is neither ALL nor a name of an alias
abbrev pub word_atom : Kind → Bool → List Ch → Result Atom Refusal
word_atom kinds.User quoted chars = user_of chars
word_atom kinds.Runas quoted chars = user_of chars
word_atom kinds.Host quoted chars = host_of quoted chars
word_atom kinds.Cmnd quoted chars = Err (no_command quoted chars)

abbrev pub command_atom : Kind → List Ch → Option (List Ch) → Result Atom Refusal
command_atom kinds.Cmnd path args = command_of path args
command_atom _ path args = Err no_member

-- a token that is neither ALL nor a name of an alias
abbrev pub other_atom : Kind → TokenKind → Result Atom Refusal
other_atom kind (tokens.Word quoted chars) = word_atom kind quoted chars
other_atom kind (tokens.Command path args) = command_atom kind path args
other_atom kind _ = Err (refusals.Syntax (expected_in kind))

-- the meaning of an unquoted word without escapes
abbrev pub plain_atom : Kind → TokenKind → List ℕ → Result Atom Refusal
plain_atom kind token w =
    if bytes_eq w (codes "ALL") then Ok atoms.All
    else if is_name w then Ok (atoms.Alias w)
    else other_atom kind token

-- the meaning of a token in a list of a kind, or its refusal
abbrev pub atom_of : Kind → TokenKind → Result Atom Refusal
atom_of kind token = elim (plain_word token)
    [ Some w ↦ plain_atom kind token w | None ↦ other_atom kind token ]
