-- The refusal in each state of the parser: of the tokens from the refused one on, and of none at the end of the line.
use Rattle.std.specs.Prelude.{Bool, false, List, length, Option, None, Some, if◌then◌else◌, ◌&&◌, ◌-◌, slice_get}
use Rattle.sudo_text.specs.declared.token.Mark.TheVariants as marks
use Rattle.sudo_text.specs.declared.token.Token.{Token}
use Rattle.sudo_grammar.specs.declared.kind.Kind.{Kind}
use Rattle.sudo_grammar.specs.declared.kind.Kind.TheVariants as kinds
use Rattle.sudo_grammar.specs.declared.kind.Member.{Member}
use Rattle.sudo_grammar.specs.declared.fault.Expected.TheVariants as wants
use Rattle.sudo_grammar.specs.declared.fault.Refusal.{Refusal}
use Rattle.sudo_grammar.specs.declared.fault.Refusal.TheVariants as refusals
use Rattle.sudo_grammar.specs.declared.fault.Unsupported.TheVariants as forms
use Rattle.sudo_grammar.specs.Words.{plain_word, is_option_name}
use Rattle.sudo_grammar.specs.Openings.{word_passes}
use Rattle.sudo_grammar.specs.Refusals.{is_next, refused_member, refused_name, refused_first}
use Rattle.sudo_grammar.specs.Body.States.{Purpose, Defines, Users, Hosts, RunasUsers, RunasGroups, Binds, kind_for}
use Rattle.sudo_grammar.specs.Body.States.{State, Start, AliasName, AfterName, Item, AfterItem, Command, AfterCommand}
use Rattle.sudo_grammar.specs.Body.States.{RunasStart, GroupsStart, DefaultsStart, AtParameter, AfterSwitch, AtValue}
use Rattle.sudo_grammar.specs.Body.States.{AfterValue, Included}

-- an option of a command: its name, which was read as that of an alias, and then `=`; no line continues so, and the
-- refusal is that of the name, without a column
abbrev pub is_option : Option Member → List Token → Bool
is_option None ts = false
is_option (Some m) ts = word_passes is_option_name (plain_word m.token.kind) && is_next marks.Equals ts

abbrev pub or_option : Option Member → List Token → Refusal → Refusal
or_option m ts refusal = if is_option m ts then refusals.Unsupported forms.CommandOption else refusal

-- the last command of a list of commands
abbrev pub last_command : Kind → List Member → Option Member
last_command kinds.Cmnd members = slice_get members (length members - 1)
last_command _ members = None

-- the refusal after a list, at tokens that begin no further item
abbrev pub refusal_after_list : Purpose → List Token → Refusal
refusal_after_list (Defines kind done name) ts = refusals.Syntax wants.EndOfLine
refusal_after_list Users ts = refused_member kinds.Host ts
refusal_after_list (Hosts users sections) ts = refusals.Syntax wants.Equals
refusal_after_list (RunasUsers granting) ts = refusals.Syntax wants.RightParen
refusal_after_list (RunasGroups granting users) ts = refusals.Syntax wants.RightParen
refusal_after_list (Binds kind) ts = refusals.Syntax wants.Parameter

-- the refusal of tokens that cannot continue or end the line in this state
abbrev pub refused_at : State → List Token → Refusal
refused_at Start ts = refused_first ts
refused_at (AliasName kind done) ts = refused_name ts
refused_at (AfterName kind done name) ts = refusals.Syntax wants.Equals
refused_at (Item purpose bangs done) ts = refused_member (kind_for purpose) ts
refused_at (AfterItem purpose done) ts =
    or_option (last_command (kind_for purpose) done) ts (refusal_after_list purpose ts)
refused_at (Command granting runas tags bangs) ts = refused_member kinds.Cmnd ts
refused_at (AfterCommand granting spec) ts = or_option (Some spec.command) ts (refusals.Syntax wants.EndOfLine)
refused_at (RunasStart granting) ts = refused_member kinds.Runas ts
refused_at (GroupsStart granting users) ts = refused_member kinds.Runas ts
refused_at DefaultsStart ts = refusals.Syntax wants.Parameter
refused_at (AtParameter binding done bangs) ts = refusals.Syntax wants.Parameter
refused_at (AfterSwitch binding done bangs name) ts = refusals.Syntax wants.EndOfLine
refused_at (AtValue binding done name operator) ts = refusals.Syntax wants.Value
refused_at (AfterValue binding done) ts = refusals.Syntax wants.EndOfLine
refused_at (Included folder hash path) ts = refusals.Syntax wants.EndOfLine
