-- Where a form stands that is refused by name and can be masked: for each form the line up to it, with nothing or with a
-- command in its place, is itself read, and what is read says that a command has to stand there.
use Rattle.std.specs.Prelude.{◌≡◌, ℕ, ◌+◌, ◌-◌, Bool, true, false, not, ◌&&◌, ◌||◌, ◌==◌, nat_eq, nat_le, if◌then◌else◌}
use Rattle.std.specs.Prelude.{List, [], ◌++◌, length, take, drop, slice_get, slice_index, codes, Option, None, Some, is_some}
use Rattle.std.specs.List.{starts_with}
use Rattle.std.specs.Option.{option_and_then, option_map}
use Rattle.sudo_text.specs.declared.line.Line.{Line}
use Rattle.sudo_text.specs.Bytes.{is_blank}
use Rattle.sudo_text.specs.Pieces.{skip}
use Rattle.sudo_text.specs.Rules.{begins_defaults}
use Rattle.sudo_grammar.specs.declared.kind.Member.{Member}
use Rattle.sudo_grammar.specs.declared.policy.Binding.TheVariants as bindings
use Rattle.sudo_grammar.specs.declared.policy.CommandSpec.{CommandSpec}
use Rattle.sudo_grammar.specs.declared.policy.Runas.{Runas}
use Rattle.sudo_grammar.specs.declared.policy.EntryBody.{EntryBody}
use Rattle.sudo_grammar.specs.declared.policy.EntryBody.TheVariants as entries
use Rattle.sudo_grammar.specs.declared.fault.ParseFault.TheVariants as faults
use Rattle.sudo_grammar.specs.declared.fault.Expected.{Expected}
use Rattle.sudo_grammar.specs.declared.fault.Unsupported.{Unsupported}
use Rattle.sudo_grammar.specs.Faults.{Room}
use Rattle.sudo_parser.specs.Parsed.{room_after, IsEntryOf, IsGrammarFaultOf}
use Rattle.review_texts.specs.Options.{name_end, spells_option}
use Rattle.review_texts.specs.Digests.{spells_digest}
use Rattle.review_texts.specs.Expressions.{dollar_of, holds_expression}
use Rattle.review_texts.specs.Words.{newline_count}
use Rattle.review_texts.specs.Netgroups.{group_at, list_for, sign_at, spells_group}
use Rattle.review_texts.specs.declared.mask.Form.{Form}
use Rattle.review_texts.specs.declared.mask.Form.TheVariants as what
use Rattle.review_texts.specs.declared.netgroups.Group.{Group}
use Rattle.review_texts.specs.declared.netgroups.Group.TheVariants.{Net, NonUnix}
use Rattle.review_texts.specs.declared.netgroups.Members.{Members}
use Rattle.review_texts.specs.declared.netgroups.Members.TheVariants.{Users, Hosts}
use Rattle.audit_files.specs.declared.netgroups.Triple.{Triple}

-- the room for definitions of a line that stands alone
abbrev pub whole_room : Room
whole_room = room_after []

-- the line, by itself, is a written form of the entry
abbrev pub IsEntryIn : Line → EntryBody → Type 0
IsEntryIn line entry = IsEntryOf whole_room line (Some entry)

-- the line, by itself, is refused for the form by name, as unsupported
abbrev pub IsRefusedFor : Line → Unsupported → Type 0
IsRefusedFor line form = IsGrammarFaultOf whole_room line (faults.Unsupported line.first form)

-- the line, by itself, is refused for something that can be masked: a form by name, or what may be an IPv6 address as a syntax error
abbrev pub IsRefusedAs : Line → Form → Type 0
IsRefusedAs line (what.Named form) = IsRefusedFor line form
IsRefusedAs line what.Ipv6 =
    (column : ℕ) × (expected : Expected) × IsGrammarFaultOf whole_room line (faults.Syntax line.first column expected)

-- the text, without joins, at the place of the line
abbrev pub with_text : Line → List ℕ → Line
with_text line text = record { first = line.first; text = text; joins = [] }

abbrev pub last : {A : Type 0} → List A → Option A
last xs = slice_get xs (length xs - 1)

-- the last command of a rule, with what stands before it
abbrev pub last_spec : EntryBody → Option CommandSpec
last_spec (entries.Rule users sections) = option_and_then (λ s. last s.commands) (last sections)
last_spec _ = None

-- the command has neither a tag nor `!` before it, and begins at an offset
abbrev pub is_bare_at : ℕ → Option CommandSpec → Bool
is_bare_at at None = false
is_bare_at at (Some spec) =
    (length spec.tags == 0) && (spec.command.bangs == 0) && (spec.command.token.start == at)

-- An option stands at an offset: it is spelled there, and the line up to its name is a rule in which the name is the
-- last command, as that of an alias, with neither a tag nor `!` before it. So a command has to stand there, and after a
-- runas and other options an option may.
pub record StandsOption (noted : Bool) (line : Line) (at : ℕ) : Type 0 where
  pub spelled : spells_option noted line.text at ≡ true
  pub entry : EntryBody
  pub read : IsEntryIn (with_text line (take (name_end line.text at) line.text)) entry
  pub bare : is_bare_at at (last_spec entry) ≡ true

-- the last member of the list that ends a line, if it is a list of commands, or of the list to which a Defaults line is
-- bound, if it is one
abbrev pub last_command : EntryBody → Option Member
last_command (entries.Rule users sections) = option_map (λ s. s.command) (last_spec (entries.Rule users sections))
last_command (entries.Aliases kind definitions) = option_and_then (λ d. last d.members) (last definitions)
last_command (entries.Defaults (Some (bindings.Commands members)) parameters) = last members
last_command _ = None

abbrev pub begins_at : ℕ → Option Member → Bool
begins_at at None = false
begins_at at (Some member) = member.token.start == at

-- what stands in place of `list`: a path that no command has, since its brackets have no character
abbrev pub no_path : List ℕ
no_path = codes "/list[z-a]"

-- the line up to an offset, with that path there; a Defaults line goes on with a parameter
abbrev pub with_path : List ℕ → ℕ → List ℕ
with_path text at = (take at text ++ no_path) ++ (if begins_defaults text then codes " x" else [])

-- the list of commands may go on or end at an offset, after a command without arguments
abbrev pub may_follow : List ℕ → ℕ → Bool
may_follow text at =
    if begins_defaults text then is_blank (slice_index text at) || (slice_index text at == 44)
    else nat_le (length text) (skip text at)
    || (slice_index text (skip text at) == 44)
    || (slice_index text (skip text at) == 58)
    || (slice_index text (skip text at) == 35)

-- `list` is spelled at an offset, and no argument follows it
unfoldable pub spells_list : List ℕ → ℕ → Bool
spells_list text at = starts_with nat_eq (drop at text) (codes "list") && may_follow text (at + 4)

-- `list` stands at an offset as a command: it is spelled there, and the line up to it, with a path in its place, is read
-- as a line that ends in a list of commands whose last one begins there
pub record StandsList (line : Line) (at : ℕ) : Type 0 where
  pub spelled : spells_list line.text at ≡ true
  pub entry : EntryBody
  pub read : IsEntryIn (with_text line (with_path line.text at)) entry
  pub ends : begins_at at (last_command entry) ≡ true

-- the member has no `!` before it, and begins at an offset
abbrev pub is_first_at : ℕ → Option Member → Bool
is_first_at at None = false
is_first_at at (Some member) = (member.bangs == 0) && (member.token.start == at)

-- A digest stands at an offset: it is spelled there, and the line up to it, with a path in its place, is read as a line
-- that ends in a list of commands whose last one begins there, without `!` before it.
pub record StandsDigest (line : Line) (at : ℕ) : Type 0 where
  pub spelled : spells_digest line.text at ≡ true
  pub entry : EntryBody
  pub read : IsEntryIn (with_text line (with_path line.text at)) entry
  pub first : is_first_at at (last_command entry) ≡ true

-- a regular expression is spelled at an offset, as a command or behind a path, and the list of commands goes on or ends behind
-- it; not in a Defaults line
unfoldable pub spells_expression : List ℕ → ℕ → Bool
spells_expression text at =
    holds_expression text at && may_follow text (dollar_of text at + 1) && not (begins_defaults text)

-- A regular expression stands at an offset: it is spelled there, and the line up to it, with a path in its place, is read as a
-- line that ends in a list of commands whose last one begins there, without `!` before it.
pub record StandsExpression (line : Line) (at : ℕ) : Type 0 where
  pub spelled : spells_expression line.text at ≡ true
  pub entry : EntryBody
  pub read : IsEntryIn (with_text line (with_path line.text at)) entry
  pub first : is_first_at at (last_command entry) ≡ true

-- ---- Netgroups and non-Unix groups

-- the line up to an offset, with this there
abbrev pub line_with : Line → ℕ → List ℕ → Line
line_with line at put = with_text line (take at line.text ++ put)

-- what stands there is refused as a number
abbrev pub IsBadNumberAt : Line → ℕ → Type 0
IsBadNumberAt line at = IsGrammarFaultOf whole_room line (faults.BadNumber line.first (at + 1))

-- a member of a list of users is read at an offset, or of a list of hosts: a group ID that no group can have, or an address that none
-- is, is refused there as a number
abbrev pub TakesUser : Line → ℕ → Type 0
TakesUser line at = IsBadNumberAt (line_with line at (codes "%#4294967296")) at

abbrev pub TakesHost : Line → ℕ → Type 0
TakesHost line at = IsBadNumberAt (line_with line at (codes "256.0.0.0")) at

-- the runas of the command has a list of groups
abbrev pub has_groups : Option CommandSpec → Bool
has_groups None = false
has_groups (Some spec) = is_some (option_and_then (λ (r : Runas). r.groups) spec.runas)

-- a member of the list of groups of a runas is read at an offset: a name there ends one
pub record TakesGroup (line : Line) (at : ℕ) : Type 0 where
  pub entry : EntryBody
  pub read : IsEntryIn (line_with line at (codes "x) ALL")) entry
  pub grouped : has_groups (last_spec entry) ≡ true

-- the list for the group at an offset
abbrev pub list_at : Group → Members → List Triple → List ℕ → ℕ → List ℕ
list_at group kind known text at = list_for kind known (sign_at (take at text)) (group_at group text at)

-- a list of hosts may have such a group
abbrev pub has_hosts : Group → Bool
has_hosts Net = true
has_hosts NonUnix = false

-- a list of such members goes on at an offset, and may have such a group
abbrev pub IsListOf : Members → Group → Line → ℕ → Type 0
IsListOf Users group line at = TakesUser line at
IsListOf Hosts group line at = (has_hosts group ≡ true) × (TakesUser line at → ⊥) × TakesHost line at

-- what stands in place of a group at an offset
pub record IsMembers (group : Group) (known : List Triple) (line : Line) (at : ℕ) (put : List ℕ) : Type 0 where
  pub kind : Members
  pub list : IsListOf kind group line at
  pub is : put ≡ list_at group kind known line.text at

-- A known group stands at an offset, and these are its members: it is spelled there, in a list of users, or of hosts if it is a
-- netgroup, and not in the list of groups of a runas, where sudo takes none. The members stand on one line.
pub record StandsGroup (group : Group) (known : List Triple) (line : Line) (at : ℕ) (put : List ℕ) : Type 0 where
  pub spelled : spells_group group known line.text at ≡ true
  pub ungrouped : TakesGroup line at → ⊥
  pub members : IsMembers group known line at put
  pub one_line : newline_count put ≡ 0
