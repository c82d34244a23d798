-- The content of a file of netgroups: netgroup(5), with the name of the netgroup before the fields of each of its triples.
use Rattle.std.specs.Prelude.{ℕ, Bool, not, ◌&&◌, ◌||◌, ◌==◌, nat_le, List, [], ◌∷◌, codes, filter_map, bytes_eq}
use Rattle.std.specs.List.{list_all, list_any}
use Rattle.std.specs.Prelude.{Option, Some, None, Result, if◌then◌else◌}
use Rattle.sudo_match.specs.Matching.{is_empty}
use Rattle.audit_files.specs.Files.{value_in_file}
use Rattle.audit_files.specs.Rows.{Fields, records_of}
use Rattle.audit_files.specs.Users.{row_fault}
use Rattle.audit_files.specs.declared.fault.FileFault.{FileFault}
use Rattle.audit_files.specs.declared.netgroups.Triple.{Triple}

abbrev pub netgroups_header : Fields
netgroups_header = codes "netgroup" ∷ codes "host" ∷ codes "user" ∷ codes "domain" ∷ []

abbrev pub is_letter : ℕ → Bool
is_letter b = (nat_le 65 b && nat_le b 90) || (nat_le 97 b && nat_le b 122)

-- a letter, a digit, a dot, a hyphen or an underscore
abbrev pub is_host_byte : ℕ → Bool
is_host_byte b = is_letter b || (nat_le 48 b && nat_le b 57) || (b == 45) || (b == 46) || (b == 95)

-- the name of a host, and not an address or a pattern: such bytes, of which one is a letter
abbrev pub is_host_name : List ℕ → Bool
is_host_name field = list_all is_host_byte field && list_any is_letter field

-- any host, none, or one
abbrev pub is_host_field : List ℕ → Bool
is_host_field field = is_empty field || bytes_eq field (codes "-") || is_host_name field

-- a nonempty netgroup, with a host, a user and any domain
abbrev pub triple_of : Fields → Option Triple
triple_of (netgroup ∷ host ∷ user ∷ domain ∷ []) =
    if not (is_empty netgroup) && is_host_field host
    then Some (record { netgroup = netgroup; host = host; user = user }) else None
triple_of _ = None

abbrev pub triple_fault : List Fields → Fields → Option FileFault
triple_fault before fields = row_fault before (triple_of fields)

-- the triples that the bytes of such a file state, or its first fault
abbrev pub triples : List ℕ → Result (List Triple) FileFault
triples text = value_in_file netgroups_header triple_fault (filter_map triple_of) (records_of text)
