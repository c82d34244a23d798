-- The states of the parser in a line, each with the parts that it has read. The meaning of a state is stated apart from
-- any reading, by the forms that are left there: see `Remaining` and the law `states_mean_forms`.
use Rattle.std.specs.Prelude.{ℕ, zero, suc, nat_lt, Bool, true, false, List, [], ◌∷◌, ◌++◌, length, Option, None}
use Rattle.std.specs.Prelude.{Some, Result, Ok, Err, if◌then◌else◌}
use Rattle.sudo_text.specs.declared.token.Mark.TheVariants as marks
use Rattle.sudo_text.specs.declared.token.Token.{Token}
use Rattle.sudo_text.specs.declared.token.TokenKind.{TokenKind}
use Rattle.sudo_text.specs.declared.token.TokenKind.TheVariants as tokens
use Rattle.sudo_grammar.specs.declared.kind.Kind.{Kind}
use Rattle.sudo_grammar.specs.declared.kind.Kind.TheVariants as kinds
use Rattle.sudo_grammar.specs.declared.kind.Atom.{Atom}
use Rattle.sudo_grammar.specs.declared.kind.Member.{Member}
use Rattle.sudo_text.specs.declared.token.Ch.{Ch}
use Rattle.sudo_grammar.specs.declared.policy.Definition.{Definition}
use Rattle.sudo_grammar.specs.declared.policy.Runas.{Runas}
use Rattle.sudo_grammar.specs.declared.tag.Tag.{Tag}
use Rattle.sudo_grammar.specs.declared.policy.CommandSpec.{CommandSpec}
use Rattle.sudo_grammar.specs.declared.policy.Section.{Section}
use Rattle.sudo_grammar.specs.declared.policy.Binding.{Binding}
use Rattle.sudo_grammar.specs.declared.policy.Binding.TheVariants as bindings
use Rattle.sudo_grammar.specs.declared.policy.Parameter.{Parameter}
use Rattle.sudo_grammar.specs.declared.policy.Parameter.TheVariants as parameters
use Rattle.sudo_grammar.specs.declared.policy.Operator.{Operator}
use Rattle.sudo_grammar.specs.declared.policy.EntryBody.{EntryBody}
use Rattle.sudo_grammar.specs.declared.policy.EntryBody.TheVariants as entries
use Rattle.sudo_grammar.specs.declared.fault.Refusal.{Refusal}
use Rattle.sudo_grammar.specs.Words.{name_of}
use Rattle.sudo_grammar.specs.Forms.{as_tag}
use Rattle.sudo_grammar.specs.Openings.{Opening, Keyword, DefaultsLine, Directive, BadDirective, Other, opening_of}
use Rattle.sudo_grammar.specs.Openings.{is_direct, kind_of_mark, operator_of}
use Rattle.sudo_grammar.specs.Members.{atom_of}
use Rattle.sudo_grammar.specs.Faults.{Room}

-- a rule up to a command: its users, its earlier sections, and the hosts and the earlier commands of this section
pub record Granting : Type 0 where
  pub users : List Member
  pub sections : List Section
  pub hosts : List Member
  pub commands : List CommandSpec

-- the purpose of a list
pub data Purpose : Type 0 where
  -- the list of an alias, after these definitions of its line
  Defines : (kind : Kind) → (done : List Definition) → (name : List ℕ) → Purpose
  -- the users of a rule
  Users : Purpose
  -- the hosts of a section, after these sections
  Hosts : (users : List Member) → (sections : List Section) → Purpose
  -- the users between parentheses
  RunasUsers : (granting : Granting) → Purpose
  -- the groups between parentheses, after these users
  RunasGroups : (granting : Granting) → (users : Option (List Member)) → Purpose
  -- the list to which a Defaults line is bound
  Binds : (kind : Kind) → Purpose

-- the kind of the list
abbrev pub kind_for : Purpose → Kind
kind_for (Defines kind done name) = kind
kind_for Users = kinds.User
kind_for (Hosts users sections) = kinds.Host
kind_for (RunasUsers granting) = kinds.Runas
kind_for (RunasGroups granting users) = kinds.Runas
kind_for (Binds kind) = kind

-- the states, each with the parts that have been read before it
pub data State : Type 0 where
  -- at the start of the line
  Start : State
  -- where the name of an alias is expected
  AliasName : (kind : Kind) → (done : List Definition) → State
  -- after that name
  AfterName : (kind : Kind) → (done : List Definition) → (name : List ℕ) → State
  -- where an item of a list is expected, after these exclamation marks of it
  Item : (purpose : Purpose) → (bangs : ℕ) → (done : List Member) → State
  -- after an item of a list
  AfterItem : (purpose : Purpose) → (done : List Member) → State
  -- where a command is expected, after these parts of it
  Command : (granting : Granting) → (runas : Option Runas) → (tags : List Tag) → (bangs : ℕ) → State
  -- after a command
  AfterCommand : (granting : Granting) → (spec : CommandSpec) → State
  -- after `(`
  RunasStart : (granting : Granting) → State
  -- after `:` between parentheses
  GroupsStart : (granting : Granting) → (users : Option (List Member)) → State
  -- after `Defaults`
  DefaultsStart : State
  -- where a parameter is expected, after these exclamation marks of it
  AtParameter : (binding : Option Binding) → (done : List Parameter) → (bangs : ℕ) → State
  -- after the name of a parameter
  AfterSwitch : (binding : Option Binding) → (done : List Parameter) → (bangs : ℕ) → (name : Token) → State
  -- where the value of a parameter is expected
  AtValue : (binding : Option Binding) → (done : List Parameter) → (name : Token) → (operator : Operator) → State
  -- after a value
  AfterValue : (binding : Option Binding) → (done : List Parameter) → State
  -- after an include directive
  Included : (folder hash : Bool) → (path : List Ch) → State

-- the state after a member
abbrev pub member_state : Purpose → ℕ → List Member → Token → Result Atom Refusal → Option State
member_state purpose bangs done t (Ok atom) =
    Some (AfterItem purpose (done ++ record { bangs = bangs; token = t; atom = atom } ∷ []))
member_state purpose bangs done t (Err refusal) = None

abbrev pub after_member : Purpose → ℕ → List Member → Token → Option State
after_member purpose bangs done t = member_state purpose bangs done t (atom_of (kind_for purpose) t.kind)

abbrev pub at_item : Purpose → ℕ → List Member → Token → TokenKind → Option State
at_item purpose bangs done t (tokens.Mark marks.Bang) = Some (Item purpose (suc bangs) done)
at_item purpose bangs done t _ = after_member purpose bangs done t

abbrev pub at_parameter : Option Binding → List Parameter → ℕ → Token → TokenKind → Option State
at_parameter binding done bangs t (tokens.Mark marks.Bang) = Some (AtParameter binding done (suc bangs))
at_parameter binding done bangs t (tokens.Word quoted chars) = Some (AfterSwitch binding done bangs t)
at_parameter binding done bangs t _ = None

-- the binding of a Defaults line to a list of the kind
abbrev pub bound_to : Kind → List Member → Binding
bound_to kinds.User members = bindings.Users members
bound_to kinds.Runas members = bindings.Runas members
bound_to kinds.Host members = bindings.Hosts members
bound_to kinds.Cmnd members = bindings.Commands members

-- the state after the parentheses
abbrev pub after_runas : Granting → Option (List Member) → Option (List Member) → State
after_runas granting users groups = Command granting (Some (record { users = users; groups = groups })) [] 0

-- the state after the last item of a list and a token other than a comma
abbrev pub after_definition : Kind → List Definition → Definition → TokenKind → Option State
after_definition kind done d (tokens.Mark marks.Colon) = Some (AliasName kind (done ++ d ∷ []))
after_definition kind done d _ = None

abbrev pub after_hosts : List Member → List Section → List Member → TokenKind → Option State
after_hosts users sections hosts (tokens.Mark marks.Equals) =
    Some (Command (record { users = users; sections = sections; hosts = hosts; commands = [] }) None [] 0)
after_hosts users sections hosts _ = None

abbrev pub after_users : Granting → List Member → TokenKind → Option State
after_users granting users (tokens.Mark marks.Colon) = Some (GroupsStart granting (Some users))
after_users granting users (tokens.Mark marks.RightParen) = Some (after_runas granting (Some users) None)
after_users granting users _ = None

abbrev pub after_groups : Granting → Option (List Member) → List Member → TokenKind → Option State
after_groups granting users groups (tokens.Mark marks.RightParen) = Some (after_runas granting users (Some groups))
after_groups granting users groups _ = None

abbrev pub after_list : Purpose → List Member → Token → TokenKind → Option State
after_list (Defines kind done name) members t k =
    after_definition kind done (record { name = name; members = members }) k
after_list Users members t k = at_item (Hosts members []) 0 [] t k
after_list (Hosts users sections) members t k = after_hosts users sections members k
after_list (RunasUsers granting) members t k = after_users granting members k
after_list (RunasGroups granting users) members t k = after_groups granting users members k
after_list (Binds kind) members t k = at_parameter (Some (bound_to kind members)) [] 0 t k

abbrev pub after_item : Purpose → List Member → Token → TokenKind → Option State
after_item purpose done t (tokens.Mark marks.Comma) = Some (Item purpose 0 done)
after_item purpose done t kind = after_list purpose done t kind

abbrev pub after_name : Kind → List Definition → List ℕ → TokenKind → Option State
after_name kind done name (tokens.Mark marks.Equals) = Some (Item (Defines kind done name) 0 [])
after_name kind done name _ = None

abbrev pub at_alias_name : Room → Kind → List Definition → Option (List ℕ) → Option State
at_alias_name room kind done (Some name) =
    if nat_lt (length done) (room kind) then Some (AfterName kind done name) else None
at_alias_name room kind done None = None

-- the state after a command
abbrev pub command_state : Granting → Option Runas → List Tag → ℕ → Token → Result Atom Refusal → Option State
command_state granting runas tags bangs t (Ok atom) = Some (AfterCommand granting
    (record { runas = runas; tags = tags; command = record { bangs = bangs; token = t; atom = atom } }))
command_state granting runas tags bangs t (Err refusal) = None

-- the state at a left parenthesis: only directly at the start of a command
abbrev pub at_paren : Granting → Option Runas → List Tag → ℕ → Option State
at_paren granting None [] zero = Some (RunasStart granting)
at_paren granting _ _ _ = None

abbrev pub at_command : Granting → Option Runas → List Tag → ℕ → Token → TokenKind → Option State
at_command granting runas tags bangs t (tokens.Mark marks.Bang) = Some (Command granting runas tags (suc bangs))
at_command granting runas tags bangs t (tokens.Mark marks.LeftParen) = at_paren granting runas tags bangs
at_command granting runas tags bangs t _ = command_state granting runas tags bangs t (atom_of kinds.Cmnd t.kind)

-- the section that ends with a command
abbrev pub closed_section : Granting → CommandSpec → Section
closed_section granting spec = record { hosts = granting.hosts; commands = granting.commands ++ spec ∷ [] }

-- after a command and a colon: it was a tag, or the next section begins
abbrev pub after_colon : Granting → CommandSpec → Option Tag → State
after_colon granting spec (Some tag) = Command granting spec.runas (spec.tags ++ tag ∷ []) 0
after_colon granting spec None = Item (Hosts granting.users (granting.sections ++ closed_section granting spec ∷ [])) 0 []

abbrev pub after_command : Granting → CommandSpec → TokenKind → Option State
after_command granting spec (tokens.Mark marks.Comma) =
    Some (Command (record granting { commands = granting.commands ++ spec ∷ [] }) None [] 0)
after_command granting spec (tokens.Mark marks.Colon) = Some (after_colon granting spec (as_tag spec.command))
after_command granting spec _ = None

abbrev pub at_runas : Granting → Token → TokenKind → Option State
at_runas granting t (tokens.Mark marks.RightParen) = Some (after_runas granting None None)
at_runas granting t (tokens.Mark marks.Colon) = Some (GroupsStart granting None)
at_runas granting t k = at_item (RunasUsers granting) 0 [] t k

abbrev pub at_groups : Granting → Option (List Member) → Token → TokenKind → Option State
at_groups granting users t (tokens.Mark marks.RightParen) = Some (after_runas granting users None)
at_groups granting users t k = at_item (RunasGroups granting users) 0 [] t k

-- the state after a mark directly after `Defaults`
abbrev pub at_binding : Option Kind → Option State
at_binding (Some kind) = Some (Item (Binds kind) 0 [])
at_binding None = None

abbrev pub after_defaults : Bool → Token → Option State
after_defaults true t = at_binding (kind_of_mark t.kind)
after_defaults false t = at_parameter None [] 0 t t.kind

-- the state after an operator: only after a name without exclamation marks
abbrev pub at_operator : Option Binding → List Parameter → ℕ → Token → Option Operator → Option State
at_operator binding done zero name (Some operator) = Some (AtValue binding done name operator)
at_operator binding done _ name _ = None

abbrev pub after_switch : Option Binding → List Parameter → ℕ → Token → TokenKind → Option State
after_switch binding done bangs name (tokens.Mark marks.Comma) =
    Some (AtParameter binding (done ++ parameters.Switch bangs name ∷ []) 0)
after_switch binding done bangs name k = at_operator binding done bangs name (operator_of k)

abbrev pub at_value : Option Binding → List Parameter → Token → Operator → Token → TokenKind → Option State
at_value binding done name operator t (tokens.Word quoted chars) =
    Some (AfterValue binding (done ++ parameters.Assign name operator t ∷ []))
at_value binding done name operator t _ = None

abbrev pub after_value : Option Binding → List Parameter → TokenKind → Option State
after_value binding done (tokens.Mark marks.Comma) = Some (AtParameter binding done 0)
after_value binding done _ = None

abbrev pub at_start : Opening → Token → Option State
at_start (Keyword kind) t = Some (AliasName kind [])
at_start DefaultsLine t = Some DefaultsStart
at_start (Directive folder hash path) t = Some (Included folder hash path)
at_start (BadDirective path) t = None
at_start Other t = at_item Users 0 [] t t.kind

-- the state after one more token, if the token can continue the line
abbrev pub step : Room → State → Token → Option State
step room Start t = at_start (opening_of t.kind) t
step room (AliasName kind done) t = at_alias_name room kind done (name_of t.kind)
step room (AfterName kind done name) t = after_name kind done name t.kind
step room (Item purpose bangs done) t = at_item purpose bangs done t t.kind
step room (AfterItem purpose done) t = after_item purpose done t t.kind
step room (Command granting runas tags bangs) t = at_command granting runas tags bangs t t.kind
step room (AfterCommand granting spec) t = after_command granting spec t.kind
step room (RunasStart granting) t = at_runas granting t t.kind
step room (GroupsStart granting users) t = at_groups granting users t t.kind
step room DefaultsStart t = after_defaults (is_direct t) t
step room (AtParameter binding done bangs) t = at_parameter binding done bangs t t.kind
step room (AfterSwitch binding done bangs name) t = after_switch binding done bangs name t.kind
step room (AtValue binding done name operator) t = at_value binding done name operator t t.kind
step room (AfterValue binding done) t = after_value binding done t.kind
step room (Included folder hash path) t = None

-- the entry of a list's line, if the line may end after the list
abbrev pub ended_list : Purpose → List Member → Option EntryBody
ended_list (Defines kind done name) members =
    Some (entries.Aliases kind (done ++ record { name = name; members = members } ∷ []))
ended_list _ members = None

-- the entry of the line, if it may end in this state
abbrev pub entry_after_list : State → Option EntryBody
entry_after_list (AfterItem purpose done) = ended_list purpose done
entry_after_list (AfterCommand granting spec) =
    Some (entries.Rule granting.users (granting.sections ++ closed_section granting spec ∷ []))
entry_after_list (AfterSwitch binding done bangs name) =
    Some (entries.Defaults binding (done ++ parameters.Switch bangs name ∷ []))
entry_after_list (AfterValue binding done) = Some (entries.Defaults binding done)
entry_after_list (Included folder hash path) = Some (entries.Include folder hash path)
entry_after_list _ = None

-- the state after tokens, if a line can begin with them
abbrev pub state_after : Room → State → List Token → Option State
state_after room state [] = Some state
state_after room state (t ∷ ts) = elim (step room state t) [ Some next ↦ state_after room next ts | None ↦ None ]
