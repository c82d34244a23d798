-- The members for which a netgroup or a non-Unix group stands in a list: sudoers(5), "Aliases", "User_List" and "Host_List"; netgroup(5).
-- A list of users has the users of its triples, on whichever host, and a list of hosts has their hosts, of whichever user.
use Rattle.std.specs.Prelude.{ℕ, ◌+◌, ◌-◌, ◌%◌, Bool, true, false, not, ◌&&◌, ◌||◌, ◌==◌, nat_eq, nat_le, nat_lt, if◌then◌else◌}
use Rattle.std.specs.Prelude.{List, [], ◌∷◌, ◌++◌, length, take, drop, reverse, slice_index, codes, count_by, filter_map, fold}
use Rattle.std.specs.Prelude.{Option, None, Some}
use Rattle.std.specs.List.{list_all, list_any, starts_with, take_while}
use Rattle.std.specs.Str.{bytes_eq}
use Rattle.sudo_text.specs.Bytes.{is_blank, is_control, is_digit}
use Rattle.sudo_text.specs.Pieces.{is_mark_byte}
use Rattle.sudo_grammar.specs.Words.{begins_upper, is_name_byte}
use Rattle.sudo_match.specs.Matching.{is_empty}
use Rattle.sudo_parser.specs.Texts.{user_text}
use Rattle.audit_files.specs.declared.netgroups.Triple.{Triple}
use Rattle.review_texts.specs.declared.netgroups.Group.{Group}
use Rattle.review_texts.specs.declared.netgroups.Group.TheVariants.{Net, NonUnix}
use Rattle.review_texts.specs.declared.netgroups.Members.{Members}
use Rattle.review_texts.specs.declared.netgroups.Members.TheVariants.{Users, Hosts}

-- ---- What a group stands for: a netgroup, or a non-Unix group, which a file states as a netgroup of its name with `%:` before it

-- a host as a member; an escape keeps a name of capital letters from being that of an alias
abbrev pub host_text : List ℕ → List ℕ
host_text name = if begins_upper name && list_all is_name_byte name then 92 ∷ name else name

abbrev pub name_text : Members → List ℕ → List ℕ
name_text Users name = user_text name
name_text Hosts name = host_text name

-- the field of a triple that is read in a list
abbrev pub field_in : Members → Triple → List ℕ
field_in Users t = t.user
field_in Hosts t = t.host

-- the member that a field stands for: any, none (`-`), or one
abbrev pub member_for : Members → List ℕ → Option (List ℕ)
member_for kind field =
    if is_empty field then Some (codes "ALL")
    else if bytes_eq field (codes "-") then None
    else Some (name_text kind field)

-- the member that a triple adds to a group's list, if it is one of that group
abbrev pub member_of : Members → List ℕ → Triple → Option (List ℕ)
member_of kind name t = if bytes_eq t.netgroup name then member_for kind (field_in kind t) else None

-- a list with a further member, behind a comma and this sign
abbrev pub with_member : List ℕ → List ℕ → List ℕ → List ℕ
with_member sign list member = if is_empty list then member else list ++ (44 ∷ sign ++ member)

-- the list of the members that triples add; each but the first has a sign
abbrev pub members_of : Members → List ℕ → List ℕ → List Triple → List ℕ
members_of kind sign name triples = fold (with_member sign) [] (filter_map (member_of kind name) triples)

-- a user that no system has, since its name is a byte 0; and a host that nothing is, since its brackets have no character
abbrev pub nobody : Members → List ℕ
nobody Users = codes "\\x00"
nobody Hosts = codes "[z-a]"

abbrev pub list_or : List ℕ → List ℕ → List ℕ
list_or other list = if is_empty list then other else list

-- the list that stands for a group
abbrev pub list_for : Members → List Triple → List ℕ → List ℕ → List ℕ
list_for kind known sign name = list_or (nobody kind) (members_of kind sign name known)

-- a triple has the name
abbrev pub is_known : List Triple → List ℕ → Bool
is_known known name = list_any (λ t. bytes_eq t.netgroup name) known

-- ---- Where a group is spelled

-- the offset of the mark of a group at an offset, quoted or not
abbrev pub mark_at : List ℕ → ℕ → ℕ
mark_at text at = if slice_index text at == 34 then at + 1 else at

-- the mark of a netgroup is `+`, and that of a non-Unix group `%:`
abbrev pub mark_len : Group → ℕ
mark_len Net = 1
mark_len NonUnix = 2

abbrev pub is_marked : Group → List ℕ → ℕ → Bool
is_marked Net text at = slice_index text at == 43
is_marked NonUnix text at = (slice_index text at == 37) && (slice_index text (at + 1) == 58)

-- a byte of the name between double quotes, and of one without
abbrev pub is_quoted_byte : ℕ → Bool
is_quoted_byte b = not (is_control b || (b == 34) || (b == 92))

abbrev pub is_bare_byte : ℕ → Bool
is_bare_byte b = is_quoted_byte b && not (is_blank b || is_mark_byte b || (b == 35))

-- `#` and a digit begin a text
abbrev pub is_id : List ℕ → Bool
is_id text = (slice_index text 0 == 35) && is_digit (slice_index text 1)

-- how many bytes of a text are a name without double quotes that begins it: that of a non-Unix group may be `#` and digits
abbrev pub bare_len : Group → List ℕ → ℕ
bare_len Net text = length (take_while is_bare_byte text)
bare_len NonUnix text =
    if is_id text then 1 + length (take_while is_digit (drop 1 text)) else length (take_while is_bare_byte text)

-- the same of a name between double quotes, or without
abbrev pub name_len : Group → Bool → List ℕ → ℕ
name_len group true text = length (take_while is_quoted_byte text)
name_len group false text = bare_len group text

-- the length of the name behind the mark of a group at an offset
abbrev pub len_at : Group → List ℕ → ℕ → ℕ
len_at group text at = name_len group (slice_index text at == 34) (drop (mark_at text at + mark_len group) text)

-- the name as a file has it: that of a netgroup, and that of a non-Unix group with its mark
abbrev pub group_at : Group → List ℕ → ℕ → List ℕ
group_at Net text at = take (len_at Net text at) (drop (mark_at text at + 1) text)
group_at NonUnix text at = take (len_at NonUnix text at + 2) (drop (mark_at text at) text)

-- the offset behind its name, and behind its double quote
abbrev pub group_stop : Group → List ℕ → ℕ → ℕ
group_stop group text at = mark_at text at + mark_len group + len_at group text at

abbrev pub group_end : Group → List ℕ → ℕ → ℕ
group_end group text at = if slice_index text at == 34 then group_stop group text at + 1 else group_stop group text at

-- the text ends at an offset, or a blank, a mark or a comment stands there
abbrev pub ends_item : List ℕ → ℕ → Bool
ends_item text at =
    nat_le (length text) at || is_blank (slice_index text at) || is_mark_byte (slice_index text at) || (slice_index text at == 35)

-- the name ends, and the item with it: at a double quote, behind which it ends, or as any item without quotes does
abbrev pub ends_name : Group → List ℕ → ℕ → Bool
ends_name group text at =
    if slice_index text at == 34
    then (slice_index text (group_stop group text at) == 34) && ends_item text (group_stop group text at + 1)
    else ends_item text (group_stop group text at)

-- the name is one of such a group: that of a netgroup is not that of a non-Unix group in the file, which has a byte behind its mark
abbrev pub is_named : Group → List ℕ → ℕ → Bool
is_named Net text at = not (starts_with nat_eq (group_at Net text at) (codes "%:"))
is_named NonUnix text at = nat_lt 0 (len_at NonUnix text at)

-- a group that is known is spelled at an offset
unfoldable pub spells_group : Group → List Triple → List ℕ → ℕ → Bool
spells_group group known text at =
    (is_marked group text (mark_at text at) && ends_name group text at)
    && (is_named group text at && is_known known (group_at group text at))

-- the number of exclamation marks and blanks that end a text
abbrev pub sign_len : List ℕ → ℕ
sign_len text = length (take_while (λ b. is_blank b || (b == 33)) (reverse text))

-- the sign of the member that begins behind a text: `!`, where an odd number of them stands before it
abbrev pub bangs_at : List ℕ → ℕ
bangs_at text = count_by (λ b. b == 33) (drop (length text - sign_len text) text)

abbrev pub sign_at : List ℕ → List ℕ
sign_at text = if bangs_at text % 2 == 1 then 33 ∷ [] else []
