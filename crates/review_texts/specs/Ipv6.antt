-- IPv6 addresses as members of a list of hosts. What a text is as an address: RFC 4291, 2.2. Which hosts match it: sudoers(5),
-- "Host_List", and the sources of sudo, of what the page leaves open.
use Rattle.std.specs.Prelude.{ℕ, ◌+◌, ◌-◌, ◌*◌, ◌%◌, ◌^◌, Bool, not, ◌&&◌, ◌||◌, ◌==◌, nat_eq, nat_le, nat_lt, if◌then◌else◌}
use Rattle.std.specs.Prelude.{List, [], ◌∷◌, ◌++◌, length, take, drop, replicate, slice_index, codes, count_by, map, fold}
use Rattle.std.specs.Prelude.{Option, None, Some}
use Rattle.std.specs.List.{list_any, starts_with, take_while}
use Rattle.std.specs.Option.{option_and_then, option_map}
use Rattle.std.specs.Str.{bytes_eq}
use Rattle.sudo_text.specs.Bytes.{hex_value, is_blank, is_digit, is_hex}
use Rattle.sudo_text.specs.Rules.{begins_defaults}
use Rattle.sudo_match.specs.Matching.{is_empty}
use Rattle.review_texts.specs.declared.ipv6.Ipv6Member.{Ipv6Member}
use Rattle.review_texts.specs.declared.ipv6.Ipv6Member.TheVariants.{Address, Network}
use Rattle.review_texts.specs.declared.ipv6.HostAddress.{HostAddress}
use Rattle.review_texts.specs.declared.netgroups.Members.TheVariants.{Hosts}
use Rattle.review_texts.specs.Netgroups.{ends_item, host_text, list_or, nobody, with_member}

-- ---- The value of a text

-- the groups of a text, behind those that are done and so many digits, of this value, of one that is not
abbrev pub groups_after : List ℕ → ℕ → ℕ → List ℕ → Option (List ℕ)
groups_after done count value [] = if count == 0 then None else Some (done ++ value ∷ [])
groups_after done count value (b ∷ bs) =
    if b == 58 then (if count == 0 then None else groups_after (done ++ value ∷ []) 0 0 bs)
    else (if is_hex b && nat_lt count 4 then groups_after done (count + 1) (16 * value + hex_value b) bs else None)

-- the groups of a text, each of one to four hexadecimal digits, with a colon between two; an empty text has none
abbrev pub groups_of : List ℕ → Option (List ℕ)
groups_of text = if is_empty text then Some [] else groups_after [] 0 0 text

-- the value of four groups of 16 bits from a place on, and that of eight groups
abbrev pub value_at : List ℕ → ℕ → ℕ
value_at groups at =
    2 ^ 48 * slice_index groups at + 2 ^ 32 * slice_index groups (at + 1) + 2 ^ 16 * slice_index groups (at + 2)
    + slice_index groups (at + 3)

abbrev pub value_of : List ℕ → Option ℕ
value_of groups = if length groups == 8 then Some (2 ^ 64 * value_at groups 0 + value_at groups 4) else None

-- the value of the groups before and behind `::`, which stands for one or more groups of zeros
abbrev pub filled : Option (List ℕ) → Option (List ℕ) → Option ℕ
filled None back = None
filled (Some front) None = None
filled (Some front) (Some back) =
    if nat_lt (length front + length back) 8
    then value_of (front ++ replicate (8 - (length front + length back)) 0 ++ back)
    else None

-- the offset of the first `::`, or the length of a text without one
abbrev pub gap_at : List ℕ → ℕ
gap_at [] = 0
gap_at (b ∷ bs) = if starts_with nat_eq (b ∷ bs) (codes "::") then 0 else 1 + gap_at bs

-- the address that a text is, a number of 128 bits
abbrev pub address_of : List ℕ → Option ℕ
address_of text =
    if nat_lt (gap_at text) (length text)
    then filled (groups_of (take (gap_at text) text)) (groups_of (drop (gap_at text + 2) text))
    else option_and_then value_of (groups_of text)

-- the number that one to three digits are, without a zero before another digit
abbrev pub number_of : List ℕ → Option ℕ
number_of [] = None
number_of (a ∷ []) = Some (a - 48)
number_of (a ∷ b ∷ []) = if a == 48 then None else Some (10 * (a - 48) + (b - 48))
number_of (a ∷ b ∷ c ∷ []) = if a == 48 then None else Some (100 * (a - 48) + 10 * (b - 48) + (c - 48))
number_of (a ∷ b ∷ c ∷ d ∷ ds) = None

-- the length of a prefix that digits are: at most 128
abbrev pub prefix_of : List ℕ → Option ℕ
prefix_of digits = option_and_then (λ n. if nat_le n 128 then Some n else None) (number_of digits)

-- ---- The hosts that have it

-- the number of an address's network: the address with zeros behind so many bits
abbrev pub network_of : ℕ → ℕ → ℕ
network_of len address = address - address % 2 ^ (128 - len)

-- An address of a host matches a member. sudo looks at neither the unspecified address nor the loopback one, `::` and `::1`. A member
-- that is an address is the host's, or the number of its network; in another network the host's address has the same number. No host
-- is in a network of length 0.
abbrev pub matches : Ipv6Member → HostAddress → Bool
matches (Address address) h = nat_lt 1 h.address && ((h.address == address) || (network_of h.len h.address == address))
matches (Network address len) h =
    nat_lt 1 h.address && (nat_lt 0 len && (network_of len h.address == network_of len address))

-- hosts, and that of an address which matches a member, if it is not one of them
abbrev pub with_host : Ipv6Member → List (List ℕ) → HostAddress → List (List ℕ)
with_host member hosts h =
    if matches member h && not (list_any (λ host. bytes_eq host h.host) hosts) then hosts ++ h.host ∷ [] else hosts

-- the hosts that have an address which matches a member, each once
abbrev pub hosts_of : List HostAddress → Ipv6Member → List (List ℕ)
hosts_of known member = fold (with_host member) [] known

-- the list of hosts as members, each but the first behind a comma and this sign
abbrev pub members_of : List ℕ → List (List ℕ) → List ℕ
members_of sign hosts = fold (with_member sign) [] (map host_text hosts)

-- the list that stands for a member
abbrev pub host_list : List HostAddress → List ℕ → Ipv6Member → List ℕ
host_list known sign member = list_or (nobody Hosts) (members_of sign (hosts_of known member))

-- ---- Where one is spelled

-- a hexadecimal digit or a colon
abbrev pub is_ipv6_byte : ℕ → Bool
is_ipv6_byte b = is_hex b || (b == 58)

-- the address at an offset, and the offset behind it
abbrev pub run_at : List ℕ → ℕ → List ℕ
run_at text at = take_while is_ipv6_byte (drop at text)

abbrev pub run_end : List ℕ → ℕ → ℕ
run_end text at = at + length (run_at text at)

-- a slash stands behind it, and digits behind that
abbrev pub has_slash : List ℕ → ℕ → Bool
has_slash text at = slice_index text (run_end text at) == 47

abbrev pub digits_at : List ℕ → ℕ → List ℕ
digits_at text at = take_while is_digit (drop (run_end text at + 1) text)

-- the offset behind the member
abbrev pub ipv6_end : List ℕ → ℕ → ℕ
ipv6_end text at = if has_slash text at then run_end text at + 1 + length (digits_at text at) else run_end text at

abbrev pub network_with : Option ℕ → Option ℕ → Option Ipv6Member
network_with None len = None
network_with (Some address) None = None
network_with (Some address) (Some len) = Some (Network address len)

-- the member at an offset
abbrev pub member_at : List ℕ → ℕ → Option Ipv6Member
member_at text at =
    if has_slash text at then network_with (address_of (run_at text at)) (prefix_of (digits_at text at))
    else option_map Address (address_of (run_at text at))

-- a host may begin behind this byte: a blank or one of `, = ! @`
abbrev pub lets_host_begin : ℕ → Bool
lets_host_begin b = is_blank b || (b == 44) || (b == 61) || (b == 33) || (b == 64)

-- The bytes of a member stand at an offset, and nothing else of an item before or behind them. sudo takes none with eight colons, and
-- behind `Defaults@` none that begins with one.
unfoldable pub spells_ipv6 : List ℕ → ℕ → Bool
spells_ipv6 text at =
    (is_ipv6_byte (slice_index text at) && lets_host_begin (slice_index text (at - 1)))
    && (ends_item text (ipv6_end text at) && nat_le (count_by (λ b. b == 58) (run_at text at)) 7
    && not (begins_defaults text && (slice_index text at == 58)))
