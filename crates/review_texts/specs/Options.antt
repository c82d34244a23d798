-- The options of a command, as sudoers(5), "Option_Spec", has them: a name, `=` and a value. The values are those that each
-- build of sudo takes as one word: unquoted, without escapes, and not a word of sudoers itself. Any other value is left to be
-- refused.
use Rattle.std.specs.Prelude.{ℕ, ◌+◌, ◌-◌, Bool, not, ◌&&◌, ◌||◌, ◌==◌, nat_le, nat_lt, if◌then◌else◌, List, [], ◌∷◌}
use Rattle.std.specs.Prelude.{length, drop, slice_index, codes}
use Rattle.std.specs.List.{list_any, take_while}
use Rattle.std.specs.Str.{bytes_eq}
use Rattle.sudo_text.specs.Bytes.{is_blank, is_control, is_digit}
use Rattle.sudo_text.specs.Pieces.{skip, is_mark_byte}
use Rattle.sudo_grammar.specs.Words.{is_name_byte}

-- the options that say how a command runs, and not who may run it; those that few builds of sudo take are none of these:
-- APPARMOR_PROFILE, PRIVS and LIMITPRIVS
abbrev pub is_exact_option : List ℕ → Bool
is_exact_option w = list_any (bytes_eq w) (codes "CWD" ∷ codes "TIMEOUT" ∷ codes "ROLE" ∷ codes "TYPE" ∷ [])

-- the options that say below which root a command is, or when it may be run
abbrev pub is_noted_option : List ℕ → Bool
is_noted_option w = list_any (bytes_eq w) (codes "CHROOT" ∷ codes "NOTBEFORE" ∷ codes "NOTAFTER" ∷ [])

-- the options that are masked; `noted`: also those of roots and times
abbrev pub is_option : Bool → List ℕ → Bool
is_option noted w = is_exact_option w || (noted && is_noted_option w)

-- a byte of a value: neither a blank nor one of `! = , : ( )`, `"`, `#`, `>`, a backslash or a control byte
abbrev pub is_value_byte : ℕ → Bool
is_value_byte b = not (is_blank b || is_mark_byte b || is_control b || (b == 34) || (b == 35) || (b == 62) || (b == 92))

-- a directory as CWD and CHROOT take it: `*`, or what begins with `/` or `~`
abbrev pub is_directory : List ℕ → Bool
is_directory value = bytes_eq value (codes "*") || (slice_index value 0 == 47) || (slice_index value 0 == 126)

-- the number of digits that a value begins with
abbrev pub digit_count : List ℕ → ℕ
digit_count value = length (take_while is_digit value)

-- one to four digits begin a value
abbrev pub has_count : List ℕ → Bool
has_count value = nat_le 1 (digit_count value) && nat_le (digit_count value) 4

-- a letter, in either case
abbrev pub is_letter : ℕ → ℕ → Bool
is_letter letter b = (b == letter) || (b + 32 == letter)

-- counts of some of these units, in their order, each with the unit's letter, and then nothing or a count of seconds
abbrev pub is_time_in : List ℕ → List ℕ → Bool
is_time_in [] value = (length value == 0) || (has_count value && (digit_count value == length value))
is_time_in (unit ∷ units) value =
    is_time_in units value
    || (has_count value && is_letter unit (slice_index value (digit_count value))
    && is_time_in units (drop (digit_count value + 1) value))

-- a time as TIMEOUT takes it, as `45` or `7d4h10m30s`
abbrev pub is_time : List ℕ → Bool
is_time value = nat_lt 0 (length value) && is_time_in (codes "dhms") value

-- a date of this many digits, and then nothing or `Z`
abbrev pub is_date_of : ℕ → List ℕ → Bool
is_date_of count value =
    (digit_count value == count) && ((length value == count) || bytes_eq (drop count value) (codes "Z"))

-- a date as NOTBEFORE and NOTAFTER take it: year, month, day and hour, with or without minutes and seconds, of this
-- millennium
abbrev pub is_date : List ℕ → Bool
is_date value =
    nat_le 50 (slice_index value 0) && (is_date_of 10 value || is_date_of 12 value || is_date_of 14 value)

abbrev pub is_lower : ℕ → Bool
is_lower b = nat_le 97 b && nat_le b 122

-- a word that sudo reads otherwise
abbrev pub is_reserved : List ℕ → Bool
is_reserved value = list_any (bytes_eq value)
    (codes "sudoedit" ∷ codes "sha224" ∷ codes "sha256" ∷ codes "sha384" ∷ codes "sha512" ∷ [])

-- any other word that begins with a lower-case letter
abbrev pub is_plain_value : List ℕ → Bool
is_plain_value value = is_lower (slice_index value 0) && not (is_reserved value)

-- the option takes the value
abbrev pub takes : List ℕ → List ℕ → Bool
takes option value =
    if bytes_eq option (codes "CWD") || bytes_eq option (codes "CHROOT") then is_directory value
    else if bytes_eq option (codes "TIMEOUT") then is_time value
    else if bytes_eq option (codes "NOTBEFORE") || bytes_eq option (codes "NOTAFTER") then is_date value
    else is_plain_value value

-- the name at an offset: upper-case letters, digits and underscores
abbrev pub name_at : List ℕ → ℕ → List ℕ
name_at text at = take_while is_name_byte (drop at text)

abbrev pub name_end : List ℕ → ℕ → ℕ
name_end text at = at + length (name_at text at)

-- where `=` is expected, and where the value begins
abbrev pub equals_of : List ℕ → ℕ → ℕ
equals_of text at = skip text (name_end text at)

abbrev pub value_of : List ℕ → ℕ → ℕ
value_of text at = skip text (equals_of text at + 1)

abbrev pub value_at : List ℕ → ℕ → List ℕ
value_at text at = take_while is_value_byte (drop at text)

abbrev pub option_end : List ℕ → ℕ → ℕ
option_end text at = value_of text at + length (value_at text (value_of text at))

-- an option is spelled at an offset: one of these names, at which no longer one ends, `=`, and a value that it takes, with
-- a blank after it, and no runas behind that, which would have to stand before the options
unfoldable pub spells_option : Bool → List ℕ → ℕ → Bool
spells_option noted text at =
    not (is_name_byte (slice_index text (at - 1)))
    && is_option noted (name_at text at)
    && (slice_index text (equals_of text at) == 61)
    && takes (name_at text at) (value_at text (value_of text at))
    && is_blank (slice_index text (option_end text at))
    && not (slice_index text (skip text (option_end text at)) == 40)
