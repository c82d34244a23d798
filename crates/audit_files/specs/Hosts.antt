-- The content of a hosts file.
use Rattle.std.specs.Prelude.{◌≡◌, refl, Bool, true, false, nat_le, ℕ, List, [], ◌∷◌, ◌+◌, ◌*◌, nat_lt, codes}
use Rattle.std.specs.Prelude.{filter_map, Option, Some, None, Result, option_map, option_and_then, if◌then◌else◌}
use Rattle.std.proofs.lemmas.Bool.{leb-true}
use Rattle.sudo_match.specs.declared.people.Interface.{Interface}
use Rattle.sudo_match.specs.declared.people.Machine.{Machine}
use Rattle.audit_files.specs.Files.{value_in_file}
use Rattle.audit_files.specs.Numerals.{numeral_value}
use Rattle.sudo_match.specs.Matching.{is_empty}
use Rattle.audit_files.specs.Parts.{items_of}
use Rattle.sudo_grammar.specs.Members.{cut_at}
use Rattle.audit_files.specs.Rows.{Fields, records_of}
use Rattle.audit_files.specs.Users.{row_fault}
use Rattle.audit_files.specs.declared.fault.FileFault.{FileFault}

abbrev pub hosts_header : Fields
hosts_header = codes "host" ∷ codes "interfaces" ∷ []

-- the byte of an address: a number below 256
abbrev pub address_byte : List ℕ → Option ℕ
address_byte text = option_and_then (λ n. if nat_lt n 256 then Some n else None) (numeral_value text)

-- the address of four bytes, the first one highest
abbrev pub address_by : Option ℕ → Option ℕ → Option ℕ → Option ℕ → Option ℕ
address_by (Some a) (Some b) (Some c) (Some d) = Some (((a * 256 + b) * 256 + c) * 256 + d)
address_by _ _ _ _ = None

-- the address of four bytes, separated by dots
abbrev pub host_address : List ℕ → Option ℕ
host_address text =
    option_and_then (λ p. option_and_then (λ q. option_and_then (λ r.
    address_by (address_byte p.0) (address_byte q.0) (address_byte r.0) (address_byte r.1)) (cut_at 46 q.1))
    (cut_at 46 p.1)) (cut_at 46 text)

-- an interface with this number of bits, if they are at most 32
abbrev pub interface_if : (addr bits : ℕ) (fits : Bool) → nat_le bits 32 ≡ fits → Option Interface
interface_if addr bits true e = Some (record { addr = addr; bits = bits; in_range = leb-true bits 32 e })
interface_if addr bits false e = None

abbrev pub interface_with : ℕ → ℕ → Option Interface
interface_with addr bits = interface_if addr bits (nat_le bits 32) refl

-- an address, a slash, and the number of its network bits, up to 32
abbrev pub interface_of : List ℕ → Option Interface
interface_of word =
    option_and_then (λ p. option_and_then (λ a. option_and_then (λ n. interface_with a n) (numeral_value p.1))
    (host_address p.0)) (cut_at 47 word)

-- a nonempty host, and interfaces separated by one space
abbrev pub machine_of : Fields → Option Machine
machine_of (host ∷ interfaces ∷ []) =
    if is_empty host then None else option_map (λ list. record { name = host; interfaces = list }) (items_of interface_of interfaces)
machine_of _ = None

abbrev pub machine_fault : List Fields → Fields → Option FileFault
machine_fault before fields = row_fault before (machine_of fields)

-- the hosts that the bytes of a hosts file state, or its first fault
abbrev pub machines : List ℕ → Result (List Machine) FileFault
machines text = value_in_file hosts_header machine_fault (filter_map machine_of) (records_of text)
