-- Stretches of bytes: blanks, words and names at the ends of a text.
use Rattle.std.specs.Prelude.{ℕ, Bool, not, ◌&&◌, ◌||◌, nat_le, nat_eq, if◌then◌else◌, List, [], length, take, drop, reverse}
use Rattle.std.specs.Prelude.{slice_index, ◌-◌}
use Rattle.std.specs.List.{ends_with, take_while}
use Rattle.sudo_text.specs.Bytes.{is_blank}
use Rattle.sudo_grammar.specs.Words.{is_name_byte}

-- a letter, a digit or an underscore
abbrev pub is_word_byte : ℕ → Bool
is_word_byte b = (nat_le 97 b && nat_le b 122) || is_name_byte b

-- the first byte, and 0 if there is none
abbrev pub first_byte : List ℕ → ℕ
first_byte text = slice_index text 0

-- the last byte, and 0 if there is none
abbrev pub last_byte : List ℕ → ℕ
last_byte text = slice_index text (length text - 1)

-- the text without the blanks at its front
abbrev pub without_indent : List ℕ → List ℕ
without_indent text = drop (length (take_while is_blank text)) text

-- the text without the blanks at its end
abbrev pub trimmed : List ℕ → List ℕ
trimmed text = take (length text - length (take_while is_blank (reverse text))) text

-- the text before this end of it, with no blanks around the end; nothing if the text ends otherwise
abbrev pub before_end : List ℕ → List ℕ → List ℕ
before_end text end =
    if ends_with nat_eq (trimmed text) end
    then trimmed (take (length (trimmed text) - length end) (trimmed text))
    else []

-- the word that begins the text
abbrev pub first_word : List ℕ → List ℕ
first_word text = take (length (take_while is_word_byte text)) text

-- the text behind that word
abbrev pub after_word : List ℕ → List ℕ
after_word text = drop (length (take_while is_word_byte text)) text

-- the bytes before the first blank
abbrev pub before_blank : List ℕ → List ℕ
before_blank text = take (length (take_while (λ b. not (is_blank b)) text)) text

-- the name that ends the text: upper-case letters, digits and underscores
abbrev pub last_name : List ℕ → List ℕ
last_name text = drop (length text - length (take_while is_name_byte (reverse text))) text

-- the text before that name
abbrev pub before_name : List ℕ → List ℕ
before_name text = take (length text - length (take_while is_name_byte (reverse text))) text
