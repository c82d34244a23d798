-- The digests before a command, as sudoers(5), "Digest_Spec", has them: a name, a colon and a value of the length that the
-- name wants, in hexadecimal digits or in base64, and then a path, `sudoedit` or `ALL`, as sudo wants one.
use Rattle.std.specs.Prelude.{ℕ, ◌+◌, ◌-◌, ◌*◌, ◌/◌, Bool, not, ◌&&◌, ◌||◌, ◌==◌, nat_eq, nat_le, nat_lt, if◌then◌else◌}
use Rattle.std.specs.Prelude.{List, length, drop, slice_index, codes}
use Rattle.std.specs.List.{list_all, starts_with, take_while}
use Rattle.sudo_text.specs.Bytes.{is_blank, is_digit}
use Rattle.sudo_text.specs.Pieces.{skip}
use Rattle.sudo_text.specs.Rules.{begins_defaults}
use Rattle.sudo_grammar.specs.Words.{is_name_byte, is_upper}
use Rattle.review_texts.specs.Options.{is_lower}

-- the bytes of the digest whose name begins a text; 0 where none does
abbrev pub digest_size : List ℕ → ℕ
digest_size text =
    if starts_with nat_eq text (codes "sha224:") then 28
    else if starts_with nat_eq text (codes "sha256:") then 32
    else if starts_with nat_eq text (codes "sha384:") then 48
    else if starts_with nat_eq text (codes "sha512:") then 64
    else 0

-- a hexadecimal digit, in either case
abbrev pub is_hex : ℕ → Bool
is_hex b = is_digit b || (nat_le 65 b && nat_le b 70) || (nat_le 97 b && nat_le b 102)

-- a byte of base64
abbrev pub is_base64 : ℕ → Bool
is_base64 b = is_upper b || is_lower b || is_digit b || (b == 43) || (b == 47) || (b == 61)

-- so many bytes in base64, padded where the text ends in `=`
abbrev pub base64_len : ℕ → List ℕ → ℕ
base64_len size value =
    if slice_index value (length value - 1) == 61 then 4 * ((size + 2) / 3) else (4 * size + 2) / 3

-- the length of the value of a digest of so many bytes: twice as long where all is hexadecimal, otherwise that in base64
abbrev pub value_len : ℕ → List ℕ → ℕ
value_len size value = if list_all is_hex value then 2 * size else base64_len size value

-- the value is that of a digest of so many bytes
abbrev pub is_digest : ℕ → List ℕ → Bool
is_digest size value = length value == value_len size value

-- where the value of the digest at an offset begins, the value, and where it ends
abbrev pub digest_start : List ℕ → ℕ → ℕ
digest_start text at = skip text (at + 7)

abbrev pub digest_at : List ℕ → ℕ → List ℕ
digest_at text at = take_while is_base64 (drop at text)

abbrev pub digest_stop : List ℕ → ℕ → ℕ
digest_stop text at = digest_start text at + length (digest_at text (digest_start text at))

-- a command that may have a digest begins at an offset: a path, `sudoedit` or `ALL`
abbrev pub begins_command : List ℕ → ℕ → Bool
begins_command text at =
    (slice_index text at == 47)
    || starts_with nat_eq (drop at text) (codes "sudoedit")
    || (starts_with nat_eq (drop at text) (codes "ALL") && not (is_name_byte (slice_index text (at + 3))))

-- such a command follows, or `!` and such a command
abbrev pub command_follows : List ℕ → ℕ → Bool
command_follows text at =
    begins_command text at || ((slice_index text at == 33) && begins_command text (skip text (at + 1)))

-- a comma follows, and what may be a further digest
abbrev pub digest_follows : List ℕ → ℕ → Bool
digest_follows text at =
    (slice_index text at == 44) && nat_lt 0 (digest_size (drop (skip text (at + 1)) text))

-- what stands behind a value may stand there: a further digest, or a blank and a command
abbrev pub may_follow : List ℕ → ℕ → Bool
may_follow text stop =
    digest_follows text (skip text stop)
    || (is_blank (slice_index text stop) && command_follows text (skip text stop))

-- the end of the digest, with the comma before a further one, or with the blank before its command
abbrev pub digest_end : List ℕ → ℕ → ℕ
digest_end text at =
    if slice_index text (skip text (digest_stop text at)) == 44 then skip text (digest_stop text at) + 1
    else digest_stop text at + 1

-- a digest is spelled at an offset, with a blank and a command or with a further digest behind it; not in a Defaults line
unfoldable pub spells_digest : List ℕ → ℕ → Bool
spells_digest text at =
    nat_lt 0 (digest_size (drop at text))
    && is_digest (digest_size (drop at text)) (digest_at text (digest_start text at))
    && may_follow text (digest_stop text at)
    && not (begins_defaults text)
