-- Regular expressions as a command or as its arguments: sudoers(5), "Regular expressions". Those are read that each build of
-- sudo takes: of bytes that stand for themselves, `.`, a backslash and a sign, groups, `|`, brackets with members and with ranges
-- of letters or digits, and `*`, `+` or `?` behind one piece. Any other expression is left to be refused.
use Rattle.std.specs.Prelude.{ℕ, suc, ◌+◌, ◌-◌, ◌/◌, ◌%◌, Bool, true, false, not, ◌&&◌, ◌||◌, ◌==◌, nat_le, nat_lt}
use Rattle.std.specs.Prelude.{if◌then◌else◌, List, [], ◌∷◌, length, drop, take, reverse, slice_index, codes, flat_map}
use Rattle.std.specs.Prelude.{Option, None, Some}
use Rattle.std.specs.List.{list_all, list_any, take_while}
use Rattle.sudo_text.specs.Bytes.{is_blank, is_digit}
use Rattle.sudo_text.specs.Pieces.{skip}
use Rattle.sudo_grammar.specs.Words.{is_upper}
use Rattle.review_texts.specs.Options.{is_lower, value_at}
use Rattle.review_texts.specs.declared.expressions.Phase.{Phase}
use Rattle.review_texts.specs.declared.expressions.Phase.TheVariants as phases

-- ---- Expressions

-- a byte of an expression, between its `^` and its `$`: a printable one that does not end it in sudoers, and no brace
abbrev pub is_expression_byte : ℕ → Bool
is_expression_byte b = nat_le 32 b && nat_le b 126 && not (list_any (λ other. b == other) (codes "\"#$,:={}"))

-- a byte outside of brackets that stands for itself, or for any: none of `( ) * + ? [ \ ] ^ |`
abbrev pub is_literal : ℕ → Bool
is_literal b = is_expression_byte b && not (list_any (λ other. b == other) (codes "()*+?[\\]^|"))

-- a byte between brackets that stands for itself; sudo refuses two of `*`, `+` and `?` in a row there too
abbrev pub is_member : ℕ → Bool
is_member b = is_expression_byte b && not (list_any (λ other. b == other) (codes "*+-?[\\]^"))

-- a byte that stands for itself behind a backslash
abbrev pub is_sign : ℕ → Bool
is_sign b = list_any (λ other. b == other) (codes "()*+.?[]^|")

-- `*`, `+` or `?`
abbrev pub is_repetition : ℕ → Bool
is_repetition b = (b == 42) || (b == 43) || (b == 63)

-- a range of digits, of lower-case letters or of upper-case ones, which does not fall
abbrev pub is_range : ℕ → ℕ → Bool
is_range a b =
    nat_le a b && ((is_digit a && is_digit b) || (is_lower a && is_lower b) || (is_upper a && is_upper b))

-- behind a byte that begins a piece, outside of brackets
abbrev pub piece_after : ℕ → Option Phase
piece_after b =
    if b == 91 then Some phases.Opened
    else if b == 92 then Some phases.Escaped
    else if is_literal b then Some phases.Piece
    else None

-- behind a member of brackets
abbrev pub member_after : ℕ → Option Phase
member_after b = if is_member b then Some (phases.Member b) else None

-- behind a member of brackets, or behind their end
abbrev pub member_or_end : ℕ → Option Phase
member_or_end b = if b == 93 then Some phases.Piece else member_after b

-- behind the last byte of a range from a member, or behind the end of brackets, before which a `-` is the last member
abbrev pub range_after : ℕ → ℕ → Option Phase
range_after a b = if b == 93 then Some phases.Piece else if is_range a b then Some phases.Ranged else None

-- behind a further byte, which is none of `( ) |` outside of brackets; none if the byte may not stand there
abbrev pub phase_after : Phase → ℕ → Option Phase
phase_after phases.Start b = piece_after b
phase_after phases.Piece b = if is_repetition b then Some phases.Repeated else piece_after b
phase_after phases.Repeated b = piece_after b
phase_after phases.Escaped b = if is_sign b then Some phases.Piece else None
phase_after phases.Opened b = if b == 94 then Some phases.Negated else member_after b
phase_after phases.Negated b = member_after b
phase_after (phases.Member a) b = if b == 45 then Some (phases.Range a) else member_or_end b
phase_after (phases.Range a) b = range_after a b
phase_after phases.Ranged b = if b == 45 then Some phases.Dash else member_or_end b
phase_after phases.Dash b = if b == 93 then Some phases.Piece else None

-- outside of brackets
abbrev pub is_outside : Phase → Bool
is_outside phases.Start = true
is_outside phases.Piece = true
is_outside phases.Repeated = true
is_outside _ = false

-- a branch may end: behind a piece, repeated or not
abbrev pub ends_branch : Phase → Bool
ends_branch phases.Piece = true
ends_branch phases.Repeated = true
ends_branch _ = false

-- brackets are open whose members are left out, and none of these has ended
abbrev pub is_negated : Phase → Bool
is_negated phases.Negated = true
is_negated _ = false

-- a byte by which an expression may leave the folder of its names, behind so many open groups: `.` and brackets whose members are
-- left out may fit a slash, and a branch outside of groups is held by `^` or by `$` alone
abbrev pub may_leave : ℕ → Phase → ℕ → Bool
may_leave groups phase b = (is_outside phase && ((b == 46) || ((b == 124) && (groups == 0)))) || is_negated phase

-- the test holds of a phase, if there is one
abbrev pub holds_of : (Phase → Bool) → Option Phase → Bool
holds_of test None = false
holds_of test (Some phase) = test phase

-- the text is the rest of an expression: so many groups are open before it; `inside`: of one that leaves no folder
abbrev pub is_rest : Bool → ℕ → Phase → List ℕ → Bool
is_rest inside groups phase [] = (groups == 0) && ends_branch phase
is_rest inside groups phase (b ∷ bs) =
    if inside && may_leave groups phase b then false
    else if is_outside phase && (b == 40) then is_rest inside (suc groups) phases.Start bs
    else if is_outside phase && (b == 41) then ends_branch phase && nat_lt 0 groups && is_rest inside (groups - 1) phases.Piece bs
    else if is_outside phase && (b == 124) then ends_branch phase && is_rest inside groups phases.Start bs
    else holds_of (λ next. is_rest inside groups next bs) (phase_after phase b)

-- the text is an expression, without its `^` and its `$`, as long as sudo takes them; `inside`: one that leaves no folder
abbrev pub is_expression : Bool → List ℕ → Bool
is_expression inside text = nat_le (length text) 1022 && is_rest inside 0 phases.Start text

-- ---- What bounds the paths that one fits

-- a byte of a path that stands for itself in an expression: a letter, a digit, or one of `- / _`
abbrev pub is_path_byte : ℕ → Bool
is_path_byte b = is_digit b || is_lower b || is_upper b || (b == 45) || (b == 47) || (b == 95)

-- the length of a text up to its last slash
abbrev pub folder_len : List ℕ → ℕ
folder_len text = length text - length (take_while (λ b. not (b == 47)) (reverse text))

-- the text up to its last slash is the path of a folder, and behind it is an expression that leaves no folder
abbrev pub is_below_folder : List ℕ → Bool
is_below_folder text =
    (slice_index text 0 == 47) && list_all is_path_byte (take (folder_len text) text)
    && is_expression true (drop (folder_len text) text)

-- the command that fits each path that an expression fits: the folder of whose files they are, or `ALL`
abbrev pub bound_of : List ℕ → List ℕ
bound_of text = if is_below_folder text then take (folder_len text) text else codes "ALL"

-- ---- Where one is spelled

-- a path is spelled at an offset that is not that of a folder, with a blank behind it
abbrev pub is_file_at : List ℕ → ℕ → Bool
is_file_at text at =
    (slice_index text at == 47)
    && not (slice_index text (at + length (value_at text at) - 1) == 47)
    && is_blank (slice_index text (at + length (value_at text at)))

-- the offset of the `^`: that of the command, or behind its path and blanks
abbrev pub caret_of : List ℕ → ℕ → ℕ
caret_of text at = if slice_index text at == 47 then skip text (at + length (value_at text at)) else at

-- the bytes behind the `^` up to the `$`
abbrev pub expression_at : List ℕ → ℕ → List ℕ
expression_at text at = take_while is_expression_byte (drop (caret_of text at + 1) text)

-- the offset of the `$`
abbrev pub dollar_of : List ℕ → ℕ → ℕ
dollar_of text at = caret_of text at + 1 + length (expression_at text at)

-- the command without its expression: its path, or what bounds a path that is one
abbrev pub command_at : List ℕ → ℕ → List ℕ
command_at text at = if slice_index text at == 47 then value_at text at else bound_of (expression_at text at)

-- an expression is spelled at an offset, as a command or behind a path
abbrev pub holds_expression : List ℕ → ℕ → Bool
holds_expression text at =
    (is_file_at text at || (slice_index text at == 94))
    && (slice_index text (caret_of text at) == 94)
    && is_expression false (expression_at text at)
    && (slice_index text (dollar_of text at) == 36)

-- ---- How one is noted

abbrev pub hex_digit : ℕ → ℕ
hex_digit n = if nat_lt n 10 then 48 + n else 87 + n

-- the two digits of a byte
abbrev pub digits_of : ℕ → List ℕ
digits_of b = hex_digit (b / 16) ∷ hex_digit (b % 16) ∷ []

-- the bytes in hexadecimal digits, which a path may have
abbrev pub hex_of : List ℕ → List ℕ
hex_of bytes = flat_map digits_of bytes
