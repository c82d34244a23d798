-- Constructs of physical lines: what ends them, and what their joins to the next line tear apart. sudoers(5), "Other
-- special characters and reserved words"; of tags torn apart and of comments also sudo's plugins/sudoers/toke.l.
use Rattle.std.specs.Prelude.{ℕ, Bool, true, false, not, ◌&&◌, ◌||◌, ◌==◌, nat_lt, if◌then◌else◌, List, [], ◌∷◌, ◌++◌}
use Rattle.std.specs.Prelude.{reverse, length, take, drop, slice_index, codes, nat_eq, ◌+◌, ◌-◌}
use Rattle.std.specs.List.{list_any, take_while, starts_with}
use Rattle.std.specs.Str.{bytes_eq}
use Rattle.sudo_text.specs.Bytes.{is_blank, is_digit, is_include}
use Rattle.sudo_text.specs.Lines.{without_return, without_indent, without_escape, is_comment, ends_in_escape, is_continued}
use Rattle.review_cautions.specs.ReservedNames.{is_tag}
use Rattle.review_cautions.specs.EmptyGroups.{has_empty_group}
use Rattle.review_cautions.specs.declared.class.CautionClass.{CautionClass}
use Rattle.review_cautions.specs.declared.class.CautionClass.TheVariants.{Return, BlankAfterBackslash, Join, TornMark}
use Rattle.review_cautions.specs.declared.class.CautionClass.TheVariants.{IncludeEscape, IncludeIndent, Comment, EmptyGroup}

-- the last byte of a line, and 0 if it has none
abbrev pub last_byte : List ℕ → ℕ
last_byte line = slice_index line (length line - 1)

-- the number of blanks at the end of a line
abbrev pub end_blanks : List ℕ → ℕ
end_blanks line = length (take_while is_blank (reverse line))

-- blanks end the line, and an odd number of backslashes stands before them
abbrev pub ends_in_escaped_blanks : List ℕ → Bool
ends_in_escaped_blanks line = nat_lt 0 (end_blanks line) && ends_in_escape (take (length line - end_blanks line) line)

-- a slash stands in the line, and so a command may
abbrev pub has_slash : List ℕ → Bool
has_slash line = list_any (λ b. b == 47) line

-- the word stands somewhere in the line
abbrev pub contains : List ℕ → List ℕ → Bool
contains word [] = false
contains word (b ∷ bs) = starts_with nat_eq (b ∷ bs) word || contains word bs

-- a command may stand in a line, which continues another one or not
abbrev pub may_have_command : Bool → List ℕ → Bool
may_have_command continuing line = continuing || has_slash line || contains (codes "sudoedit") line

-- a carriage return is the last byte of the line; behind a name or `ALL` sudo drops it too, if no backslash stands before it
abbrev pub ends_in_return : Bool → List ℕ → Bool
ends_in_return continuing line =
    (last_byte line == 13) && (may_have_command continuing line || ends_in_escape (without_return line))

-- a blank, a comma or a colon; in a line without a command also a double quote, `=`, `(`, `)` and `!`, which arguments
-- of a command may contain
abbrev pub parts_words : Bool → ℕ → Bool
parts_words command b =
    is_blank b || (b == 44) || (b == 58) || (not command && ((b == 34) || (b == 61) || (b == 40) || (b == 41) || (b == 33)))

-- the last byte belongs to a word: it parts no words, or it is escaped
abbrev pub ends_in_word : Bool → List ℕ → Bool
ends_in_word command line =
    nat_lt 0 (length line) && (not (parts_words command (last_byte line)) || ends_in_escape (without_escape line))

-- the first byte belongs to a word: it parts no words and begins no comment
abbrev pub begins_in_word : Bool → List ℕ → Bool
begins_in_word command line =
    nat_lt 0 (length line) && not ((slice_index line 0 == 35) || parts_words command (slice_index line 0))

-- the line ends in a word, goes on in the next one, and that one begins in a word; between double quotes sudo joins
-- lines as the reader does, and the line is taken for one that tears a word all the same
abbrev pub tears_word : List ℕ → List ℕ → Bool
tears_word line next =
    ends_in_escape line && (ends_in_word (has_slash line) (without_escape line) && begins_in_word (has_slash line) next)

-- the word `Defaults` alone, or with the mark of a list to which the line is bound
abbrev pub is_keyword : List ℕ → Bool
is_keyword line =
    bytes_eq line (codes "Defaults") || bytes_eq line (codes "Defaults@") || bytes_eq line (codes "Defaults:")
    || bytes_eq line (codes "Defaults!") || bytes_eq line (codes "Defaults>")

-- the line without the blanks at its end
abbrev pub without_end_blanks : List ℕ → List ℕ
without_end_blanks line = take (length line - end_blanks line) line

-- the number of bytes at the end of a line that belong to one word
abbrev pub end_word_length : List ℕ → ℕ
end_word_length line = length (take_while (λ b. not (parts_words false b)) (reverse line))

-- the word at the end of a line
abbrev pub end_word : List ℕ → List ℕ
end_word line = drop (length line - end_word_length line) line

-- the line begins with the byte, or has nothing but a backslash, behind which a further line may begin with it
abbrev pub may_begin : ℕ → List ℕ → Bool
may_begin byte line = (slice_index line 0 == byte) || bytes_eq line (92 ∷ [])

-- the name of a tag is the last word, with blanks behind it or none, and the next line may begin with its colon: sudo
-- reads both as a tag on one line alone
abbrev pub tears_tag : List ℕ → List ℕ → Bool
tears_tag line next = is_tag (end_word (without_end_blanks line)) && may_begin 58 next

-- a `!` is the last byte, and the next line may begin with another
abbrev pub tears_bangs : List ℕ → List ℕ → Bool
tears_bangs line next = (last_byte line == 33) && may_begin 33 next

-- a percent sign, as before the name of a group, is the last byte
abbrev pub tears_group : List ℕ → Bool
tears_group line = last_byte line == 37

-- a plus or a minus sign is the last byte, and an equals sign the first one of the next line
abbrev pub tears_operator : List ℕ → List ℕ → Bool
tears_operator line next = ((last_byte line == 43) || (last_byte line == 45)) && (slice_index next 0 == 61)

-- the line begins as a definition of aliases or a Defaults line does
abbrev pub begins_definition : List ℕ → Bool
begins_definition line =
    starts_with nat_eq line (codes "Defaults") || starts_with nat_eq line (codes "User_Alias")
    || starts_with nat_eq line (codes "Runas_Alias") || starts_with nat_eq line (codes "Host_Alias")
    || starts_with nat_eq line (codes "Cmnd_Alias") || starts_with nat_eq line (codes "Cmd_Alias")

-- nothing stands in the line, and such a line is the next one
abbrev pub tears_definition : List ℕ → List ℕ → Bool
tears_definition line next = bytes_eq line [] && begins_definition next

-- the line ends in one of these marks, which the next one ends, or has nothing before a definition
abbrev pub ends_in_mark : List ℕ → List ℕ → Bool
ends_in_mark line next =
    is_keyword line || tears_group line || tears_tag line next || tears_bangs line next || tears_operator line next
    || tears_definition line next

-- the line goes on in the next one within a mark that sudo wants on one line
abbrev pub tears_mark : List ℕ → List ℕ → Bool
tears_mark line next = ends_in_escape line && ends_in_mark (without_escape line) next

-- a line as the reader joins it: without a carriage return at its end and blanks at its front
abbrev pub stripped : List ℕ → List ℕ
stripped line = without_indent (without_return line)

-- a backslash stands directly before the byte; `behind`: one stands directly before the line
abbrev pub has_escape_of : ℕ → Bool → List ℕ → Bool
has_escape_of byte behind [] = false
has_escape_of byte behind (b ∷ bs) = (behind && (b == byte)) || has_escape_of byte (b == 92) bs

-- the line has a backslash and a double quote, between two of which sudo keeps backslashes; or a backslash before `x`,
-- which stands for itself here, and begins a byte for sudo; or one before `%`
abbrev pub has_path_escape : List ℕ → Bool
has_path_escape line = (list_any (λ b. b == 92) line && list_any (λ b. b == 34) line)
    || has_escape_of 120 false line || has_escape_of 37 false line

-- a line that continues no other is an include line with such a backslash; the line is given as the reader joins it
abbrev pub is_escaped_include : Bool → List ℕ → Bool
is_escaped_include continuing line = not continuing && is_include line && has_path_escape line

-- a line that continues no other is an include line that begins with `#`, behind blanks
abbrev pub is_indented_include : Bool → List ℕ → Bool
is_indented_include continuing line =
    not continuing && is_blank (slice_index line 0) && (slice_index (stripped line) 0 == 35) && is_include (stripped line)

-- one of `! , ( : = @ > %`, behind which an ID may stand
abbrev pub admits_id : ℕ → Bool
admits_id b =
    (b == 33) || (b == 44) || (b == 40) || (b == 58) || (b == 61) || (b == 64) || (b == 62) || (b == 37)

-- a digit or a carriage return
abbrev pub is_digit_or_return : ℕ → Bool
is_digit_or_return b = is_digit b || (b == 13)

-- the bytes are empty, or begin with a digit or a carriage return
abbrev pub is_empty_or_digit_or_return : List ℕ → Bool
is_empty_or_digit_or_return [] = true
is_empty_or_digit_or_return (b ∷ bs) = is_digit_or_return b

-- for sudo no comment begins with a `#` and these bytes, where a carriage return at the end of the line is not one of them:
-- a digit or a carriage return, or a minus sign and then one of the two or nothing
abbrev pub begins_no_comment : List ℕ → Bool
begins_no_comment [] = false
begins_no_comment (b ∷ bs) = is_digit_or_return b || ((b == 45) && is_empty_or_digit_or_return bs)

-- the first byte is a digit
abbrev pub begins_with_digit : List ℕ → Bool
begins_with_digit bs = is_digit (slice_index bs 0)

-- the first `#` that begins a comment here begins none for sudo. `escaped`: an odd number of backslashes stands directly
-- before the bytes; `quoted`: they stand between double quotes; `admitted`: an ID may stand here
abbrev pub has_other_comment : Bool → Bool → Bool → List ℕ → Bool
has_other_comment escaped quoted admitted [] = false
has_other_comment escaped quoted admitted (b ∷ bs) =
    if escaped then has_other_comment false quoted false bs
    else if b == 92 then has_other_comment true quoted false bs
    else if b == 34 then has_other_comment false (not quoted) false bs
    else if (b == 35) && not quoted && not (admitted && begins_with_digit bs) then begins_no_comment bs
    else has_other_comment false quoted (admits_id b || (admitted && is_blank b)) bs

-- the line begins as a Defaults line, bound or not
abbrev pub is_defaults : List ℕ → Bool
is_defaults line = starts_with nat_eq line (codes "Defaults")
    && (is_blank (slice_index line 8) || (slice_index line 8 == 64) || (slice_index line 8 == 58) || (slice_index line 8 == 33)
    || (slice_index line 8 == 62))

-- the line has the construct of the class; `continuing`: it continues another; `next`: the line after it
abbrev pub line_holds : CautionClass → Bool → List ℕ → List ℕ → Bool
line_holds Return continuing line next = ends_in_return continuing line
line_holds BlankAfterBackslash continuing line next = ends_in_escaped_blanks (without_return line)
line_holds Join continuing line next = tears_word (stripped line) (stripped next)
line_holds TornMark continuing line next = tears_mark (stripped line) (stripped next)
line_holds IncludeEscape continuing line next = is_escaped_include continuing (stripped line)
line_holds IncludeIndent continuing line next = is_indented_include continuing line
line_holds Comment continuing line next = has_other_comment false false true (stripped line) && not (is_include (stripped line))
line_holds EmptyGroup continuing line next =
    has_empty_group false false false (stripped line) (stripped next) && not (is_defaults (stripped line))
line_holds _ continuing line next = false

-- the line is a comment; a continuation line never is
abbrev pub is_remark : Bool → List ℕ → Bool
is_remark continuing line = not continuing && is_comment (stripped line)

-- the class is of comments, which no other class looks at
abbrev pub is_of_comments : CautionClass → Bool
is_of_comments Comment = true
is_of_comments _ = false

-- the line has the construct of the class, and is no comment but for the class of these; `continuing`: it continues another
abbrev pub is_marked : CautionClass → Bool → List ℕ → List ℕ → Bool
is_marked class continuing line next =
    (is_of_comments class || not (is_remark continuing line)) && line_holds class continuing line next

-- the first line, or an empty line if the list is empty
abbrev pub first_line : List (List ℕ) → List ℕ
first_line [] = []
first_line (line ∷ rest) = line

-- the numbers of the lines that have the construct of the class, if the first line has this number; `continuing`: it
-- continues another
abbrev pub numbers_of : CautionClass → Bool → ℕ → List (List ℕ) → List ℕ
numbers_of class continuing number [] = []
numbers_of class continuing number (line ∷ rest) =
    (if is_marked class continuing line (first_line rest) then number ∷ [] else [])
    ++ numbers_of class (is_continued continuing (stripped line)) (number + 1) rest
