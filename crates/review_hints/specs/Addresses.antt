-- IPv6 addresses in place of a host, which sudo reads and this reader does not. sudoers(5), "Host_List"; RFC 4291, 2.2.
use Rattle.std.specs.Prelude.{ℕ, Bool, true, false, not, ◌&&◌, ◌||◌, ◌==◌, nat_le, nat_lt, if◌then◌else◌, List, [], ◌∷◌}
use Rattle.std.specs.Prelude.{codes, count_by, length, reverse, take, drop, Option, None, Some, ◌+◌, ◌-◌}
use Rattle.std.specs.List.{list_any, take_while}
use Rattle.std.specs.Str.{bytes_eq}
use Rattle.sudo_grammar.specs.declared.fault.Expected.{Expected}
use Rattle.sudo_grammar.specs.declared.fault.Expected.TheVariants as expecteds
use Rattle.sudo_text.specs.Bytes.{is_blank, is_hex}
use Rattle.review_hints.specs.FirstWords.{begins_with_keyword}
use Rattle.review_hints.specs.Stretches.{first_byte, first_word, last_byte}

-- a hexadecimal digit or a colon
abbrev pub is_address_byte : ℕ → Bool
is_address_byte b = is_hex b || (b == 58)

-- at most four digits between two colons, after this number of digits
abbrev pub has_short_groups : ℕ → List ℕ → Bool
has_short_groups count [] = true
has_short_groups count (b ∷ bs) =
    if b == 58 then has_short_groups 0 bs else (nat_lt count 4 && has_short_groups (count + 1) bs)

-- the number of colons directly behind a colon; the byte before the text is a colon or not
abbrev pub gap_count : Bool → List ℕ → ℕ
gap_count colon [] = 0
gap_count colon (b ∷ bs) = (if colon && (b == 58) then 1 else 0) + gap_count (b == 58) bs

abbrev pub colon_count : List ℕ → ℕ
colon_count = count_by (λ b. b == 58)

-- a digit begins and ends the text
abbrev pub has_outer_digits : List ℕ → Bool
has_outer_digits text = not (first_byte text == 58) && not (last_byte text == 58)

-- eight groups, or fewer with `::` at one place
abbrev pub has_groups : List ℕ → Bool
has_groups text =
    if gap_count false text == 0 then (has_outer_digits text && (colon_count text == 7))
    else ((gap_count false text == 1) && nat_le (colon_count text) 7)

-- the longest address has 39 bytes
abbrev pub is_address : List ℕ → Bool
is_address text = nat_le (length text) 39 && (has_short_groups 0 text && has_groups text)

-- the number of bytes of an address directly before an offset, and from it on
abbrev pub count_before : List ℕ → ℕ → ℕ
count_before line at = length (take_while is_address_byte (reverse (take at line)))

abbrev pub count_behind : List ℕ → ℕ → ℕ
count_behind line at = length (take_while is_address_byte (drop at line))

-- the text before those bytes, those before the offset, all of them, and the text behind them
abbrev pub front : List ℕ → ℕ → List ℕ
front line at = take (at - count_before line at) line

abbrev pub before : List ℕ → ℕ → List ℕ
before line at = drop (at - count_before line at) (take at line)

abbrev pub around : List ℕ → ℕ → List ℕ
around line at = drop (at - count_before line at) (take (at + count_behind line at) line)

abbrev pub back : List ℕ → ℕ → List ℕ
back line at = drop (at + count_behind line at) line

-- a host may begin behind this text: at the front of a line, or behind a blank, `,`, `=`, `!` or `@`
abbrev pub lets_host_follow : List ℕ → Bool
lets_host_follow text =
    (length text == 0) || is_blank (last_byte text)
    || (last_byte text == 44) || (last_byte text == 61) || (last_byte text == 33) || (last_byte text == 64)

-- an address may end before this text: at the end of the line, or before a blank, `,`, `=`, the `/` of a network or the
-- `%` of a zone
abbrev pub lets_address_end : List ℕ → Bool
lets_address_end text =
    (length text == 0) || is_blank (first_byte text)
    || (first_byte text == 44) || (first_byte text == 61) || (first_byte text == 47) || (first_byte text == 37)

-- an address surrounds the offset
abbrev pub has_address : List ℕ → ℕ → Bool
has_address line at =
    is_address (around line at) && (lets_host_follow (front line at) && lets_address_end (back line at))

-- a colon is at the offset
abbrev pub is_at_colon : List ℕ → ℕ → Bool
is_at_colon line at = first_byte (drop at line) == 58

-- the first colon of an address is at the offset
abbrev pub is_at_first_colon : List ℕ → ℕ → Bool
is_at_first_colon line at = is_at_colon line at && not (list_any (λ b. b == 58) (before line at))

-- the fault is one that an address in place of a host gives: in a rule, at its first colon; in a Defaults line, at the
-- first colon behind `@`
abbrev pub is_host_fault : List ℕ → List ℕ → ℕ → Expected → Bool
is_host_fault first line at expecteds.AliasName = false
is_host_fault first line at expecteds.Equals = not (begins_with_keyword first) && is_at_first_colon line at
is_host_fault first line at expecteds.Member =
    not (begins_with_keyword first) && (is_at_colon line at && (length (before line at) == 0))
is_host_fault first line at expecteds.Command = false
is_host_fault first line at expecteds.RightParen = false
is_host_fault first line at expecteds.Parameter = is_at_first_colon line at && (last_byte (front line at) == 64)
is_host_fault first line at expecteds.Value = false
is_host_fault first line at expecteds.Path = false
is_host_fault first line at expecteds.EndOfLine = false

-- the line defines aliases of hosts
abbrev pub defines_hosts : List ℕ → Bool
defines_hosts first = bytes_eq (first_word first) (codes "Host_Alias")

-- the hint at an address in place of a host
abbrev pub address_hint : List ℕ → List ℕ → ℕ → Option Expected → Option (List ℕ)
address_hint first line at None = None
address_hint first line at (Some expected) =
    if (defines_hosts first || is_host_fault first line at expected) && has_address line at
    then Some (codes "IPv6 addresses are not supported")
    else None
