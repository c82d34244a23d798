-- The words without which nothing of a text is written otherwise: the names of options and of digests, `list`, the word of a
-- Defaults line with a backslash, the mark of a non-Unix group, `%h`, the plus sign of a netgroup, and the caret of a regular expression.
use Rattle.std.specs.Prelude.{ℕ, ◌+◌, Bool, false, ◌&&◌, ◌||◌, ◌==◌, nat_eq, List, [], ◌∷◌, codes, count_by, drop, length, slice_index}
use Rattle.std.specs.List.{list_any, starts_with, take_while}
use Rattle.sudo_text.specs.Bytes.{is_hex}

abbrev pub words : List (List ℕ)
words = codes "list" ∷ codes "CWD" ∷ codes "TIMEOUT" ∷ codes "ROLE" ∷ codes "TYPE" ∷ codes "CHROOT" ∷ codes "NOTBEFORE"
    ∷ codes "NOTAFTER" ∷ codes "sha224:" ∷ codes "sha256:" ∷ codes "sha384:" ∷ codes "sha512:" ∷ codes "Defaults\\"
    ∷ codes "%:" ∷ codes "%h" ∷ []

abbrev pub is_plus_or_caret : ℕ → Bool
is_plus_or_caret b = (b == 43) || (b == 94)

-- one of the words begins a text, or a plus sign or a caret
abbrev pub begins_word : List ℕ → Bool
begins_word text = list_any (starts_with nat_eq text) words || is_plus_or_caret (slice_index text 0)

-- a colon, hexadecimal digits or none, and a colon begin a text: they stand in each IPv6 address
abbrev pub begins_colons : List ℕ → Bool
begins_colons text = (slice_index text 0 == 58) && (slice_index text (1 + length (take_while is_hex (drop 1 text))) == 58)

-- one of the words, or such colons, stand in a text
abbrev pub has_word : List ℕ → Bool
has_word [] = false
has_word (b ∷ bs) = begins_word (b ∷ bs) || (begins_colons (b ∷ bs) || has_word bs)

abbrev pub newline_count : List ℕ → ℕ
newline_count text = count_by (λ b. b == 10) text
