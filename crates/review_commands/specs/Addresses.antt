-- The content of a file of the IPv6 addresses of hosts.
use Rattle.std.specs.Prelude.{ℕ, ◌+◌, ◌==◌, not, if◌then◌else◌, List, [], ◌∷◌, length, take, drop, codes, filter_map}
use Rattle.std.specs.Prelude.{Option, None, Some, Result, option_map}
use Rattle.std.specs.List.{list_all, take_while}
use Rattle.sudo_text.specs.Bytes.{is_digit}
use Rattle.audit_files.specs.Files.{value_in_file}
use Rattle.audit_files.specs.Netgroups.{is_host_name}
use Rattle.audit_files.specs.Rows.{Fields, records_of}
use Rattle.audit_files.specs.Users.{row_fault}
use Rattle.audit_files.specs.declared.fault.FileFault.{FileFault}
use Rattle.review_texts.specs.Ipv6.{address_of, prefix_of}
use Rattle.review_texts.specs.declared.ipv6.HostAddress.{HostAddress}

abbrev pub addresses_header : Fields
addresses_header = codes "host" ∷ codes "address" ∷ []

-- the length of a prefix, in decimal digits
abbrev pub len_of : List ℕ → Option ℕ
len_of digits = if list_all is_digit digits then prefix_of digits else None

abbrev pub with_len : Option ℕ → Option ℕ → Option (ℕ × ℕ)
with_len None len = None
with_len (Some address) None = None
with_len (Some address) (Some len) = Some (address, len)

-- the offset of the first slash of a text, or the length of one without
abbrev pub slash_at : List ℕ → ℕ
slash_at text = length (take_while (λ b. not (b == 47)) text)

-- an address with the length of its prefix behind a slash, or with that of the whole address
abbrev pub interface_of : List ℕ → Option (ℕ × ℕ)
interface_of text =
    if slash_at text == length text then with_len (address_of text) (Some 128)
    else with_len (address_of (take (slash_at text) text)) (len_of (drop (slash_at text + 1) text))

-- a host's name, and one of its addresses
abbrev pub address_by : List ℕ → Option (ℕ × ℕ) → Option HostAddress
address_by host None = None
address_by host (Some i) = Some (record { host = host; address = i.0; len = i.1 })

abbrev pub host_address_of : Fields → Option HostAddress
host_address_of (host ∷ address ∷ []) = if is_host_name host then address_by host (interface_of address) else None
host_address_of _ = None

abbrev pub address_fault : List Fields → Fields → Option FileFault
address_fault before fields = row_fault before (host_address_of fields)

-- the addresses that the bytes of such a file state, or its first fault
abbrev pub host_addresses : List ℕ → Result (List HostAddress) FileFault
host_addresses text = value_in_file addresses_header address_fault (filter_map host_address_of) (records_of text)
