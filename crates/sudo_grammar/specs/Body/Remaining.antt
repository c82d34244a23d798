-- The meaning of a parser state: the forms that are left up to the end of the line, and the entry that they complete. The
-- law `states_mean_forms` states that tokens lead to a state exactly if these forms are left of the entry's form.
use Rattle.std.specs.Prelude.{◌≡◌, ℕ, zero, suc, ◌+◌, List, [], ◌∷◌, ◌++◌, Option, None, Some, ◌⊎◌}
use Rattle.sudo_text.specs.declared.token.Mark.TheVariants as marks
use Rattle.sudo_text.specs.declared.token.Token.{Token}
use Rattle.sudo_grammar.specs.declared.kind.Kind.TheVariants as kinds
use Rattle.sudo_grammar.specs.declared.kind.Member.{Member}
use Rattle.sudo_grammar.specs.declared.policy.Definition.{Definition}
use Rattle.sudo_grammar.specs.declared.policy.Runas.{Runas}
use Rattle.sudo_grammar.specs.declared.tag.Tag.{Tag}
use Rattle.sudo_grammar.specs.declared.policy.CommandSpec.{CommandSpec}
use Rattle.sudo_grammar.specs.declared.policy.Section.{Section}
use Rattle.sudo_grammar.specs.declared.policy.Binding.{Binding}
use Rattle.sudo_grammar.specs.declared.policy.Operator.{Operator}
use Rattle.sudo_grammar.specs.declared.policy.Parameter.{Parameter}
use Rattle.sudo_grammar.specs.declared.policy.Parameter.TheVariants as parameters
use Rattle.sudo_grammar.specs.declared.policy.EntryBody.{EntryBody}
use Rattle.sudo_grammar.specs.declared.policy.EntryBody.TheVariants as entries
use Rattle.sudo_grammar.specs.Openings.{operator_of}
use Rattle.sudo_grammar.specs.Forms.{◌▸◌, Form, never, one, mark, bangs, member, more_items, list, more_definitions}
use Rattle.sudo_grammar.specs.Forms.{definition_list, optional, runas, groups, tags, as_tag, more_specs, specs}
use Rattle.sudo_grammar.specs.Forms.{more_sections, sections, binding, the_word, parameter, more_parameters}
use Rattle.sudo_grammar.specs.Forms.{parameter_list, Writes}
use Rattle.sudo_grammar.specs.Body.States.{Granting, Purpose, Defines, Users, Hosts, RunasUsers, RunasGroups, Binds}
use Rattle.sudo_grammar.specs.Body.States.{kind_for, bound_to, State, Start, AliasName, AfterName, Item, AfterItem}
use Rattle.sudo_grammar.specs.Body.States.{Command, AfterCommand, RunasStart, GroupsStart, DefaultsStart, AtParameter}
use Rattle.sudo_grammar.specs.Body.States.{AfterSwitch, AtValue, AfterValue, Included}

-- after a command: further commands, and further sections
abbrev pub AfterSpec : Granting → CommandSpec → EntryBody → List Token → Type 0
AfterSpec granting spec e ts = (cs : List CommandSpec) × ((ss : List Section)
    × ((more_specs cs ▸ more_sections (record { hosts = granting.hosts; commands = granting.commands ++ spec ∷ cs }) ss) ts []
    × (e ≡ entries.Rule granting.users
    (granting.sections ++ record { hosts = granting.hosts; commands = granting.commands ++ spec ∷ cs } ∷ ss))))

-- after some exclamation marks of a command: further ones, and the command
abbrev pub AtCommand : Granting → Option Runas → List Tag → ℕ → EntryBody → List Token → Type 0
AtCommand granting r done n e ts = (m : Member) × ((more : ℕ) × ((after : List Token)
    × ((m.bangs ≡ n + more) × ((bangs more ▸ member kinds.Cmnd m) ts after
    × AfterSpec granting (record { runas = r; tags = done; command = m }) e after))))

-- after a runas or a tag: tags, and a command
abbrev pub AtTags : Granting → Option Runas → List Tag → EntryBody → List Token → Type 0
AtTags granting r done e ts = (xs : List Tag) × ((after : List Token)
    × (tags xs ts after × AtCommand granting r (done ++ xs) 0 e after))

-- where a command may begin with a runas
abbrev pub AtSpec : Granting → EntryBody → List Token → Type 0
AtSpec granting e ts = (r : Option Runas) × ((after : List Token)
    × (optional runas r ts after × AtTags granting r [] e after))

-- after the users of a runas: its groups, `)`, and the rest of the command
abbrev pub AtGroups : Granting → Option (List Member) → EntryBody → List Token → Type 0
AtGroups granting users e ts = (gs : Option (List Member)) × ((after : List Token)
    × ((groups gs ▸ mark marks.RightParen) ts after × AtTags granting (Some (record { users = users; groups = gs })) [] e after))

-- after a list
abbrev pub AfterList : Purpose → List Member → EntryBody → List Token → Type 0
AfterList (Defines kind done name) ms e ts = (ds : List Definition) × (more_definitions kind ds ts []
    × (e ≡ entries.Aliases kind (done ++ record { name = name; members = ms } ∷ ds)))
AfterList Users users e ts = (ss : List Section) × (sections ss ts [] × (e ≡ entries.Rule users ss))
AfterList (Hosts users done) hosts e ts = (cs : List CommandSpec) × ((ss : List Section)
    × ((mark marks.Equals ▸ specs cs ▸ more_sections (record { hosts = hosts; commands = cs }) ss) ts []
    × (e ≡ entries.Rule users (done ++ record { hosts = hosts; commands = cs } ∷ ss))))
AfterList (RunasUsers granting) users e ts = AtGroups granting (Some users) e ts
AfterList (RunasGroups granting users) gs e ts = (after : List Token)
    × (mark marks.RightParen ts after × AtTags granting (Some (record { users = users; groups = Some gs })) [] e after)
AfterList (Binds kind) ms e ts = (xs : List Parameter)
    × (parameter_list xs ts [] × (e ≡ entries.Defaults (Some (bound_to kind ms)) xs))

-- after an item of a list: further items, and the rest after the list
abbrev pub InList : Purpose → List Member → EntryBody → List Token → Type 0
InList p done e ts = (ms : List Member) × ((after : List Token)
    × (more_items (kind_for p) ms ts after × AfterList p (done ++ ms) e after))

-- after some exclamation marks of an item: further ones, and the member
abbrev pub AtItem : Purpose → ℕ → List Member → EntryBody → List Token → Type 0
AtItem p n done e ts = (m : Member) × ((more : ℕ) × ((after : List Token)
    × ((m.bangs ≡ n + more) × ((bangs more ▸ member (kind_for p) m) ts after × InList p (done ++ m ∷ []) e after))))

-- the rest of a parameter after some of its exclamation marks
abbrev pub parameter_left : Parameter → ℕ → Form
parameter_left (parameters.Switch all name) n ts rest =
    (more : ℕ) × ((all ≡ n + more) × (bangs more ▸ the_word name) ts rest)
parameter_left (parameters.Assign name operator value) zero ts rest =
    parameter (parameters.Assign name operator value) ts rest
parameter_left (parameters.Assign name operator value) (suc n) ts rest = never ts rest

-- after the name and the operator of a parameter
abbrev pub AtAssigned : Option Binding → List Parameter → Token → Operator → EntryBody → List Token → Type 0
AtAssigned b done name operator e ts = (value : Token) × ((xs : List Parameter)
    × ((the_word value ▸ more_parameters xs) ts []
    × (e ≡ entries.Defaults b (done ++ parameters.Assign name operator value ∷ xs))))

-- the tokens complete the entry's line from a state on
abbrev pub Completes : State → EntryBody → List Token → Type 0
Completes Start e ts = Writes e ts
Completes (AliasName kind done) e ts =
    (ds : List Definition) × (definition_list kind ds ts [] × (e ≡ entries.Aliases kind (done ++ ds)))
Completes (AfterName kind done name) e ts = (ms : List Member) × ((ds : List Definition)
    × ((mark marks.Equals ▸ list kind ms ▸ more_definitions kind ds) ts []
    × (e ≡ entries.Aliases kind (done ++ record { name = name; members = ms } ∷ ds))))
Completes (Item p n done) e ts = AtItem p n done e ts
Completes (AfterItem p done) e ts = InList p done e ts
Completes (Command granting r done (suc n)) e ts = AtCommand granting r done (suc n) e ts
Completes (Command granting (Some r) done zero) e ts = AtTags granting (Some r) done e ts
Completes (Command granting None (x ∷ done) zero) e ts = AtTags granting None (x ∷ done) e ts
Completes (Command granting None [] zero) e ts = AtSpec granting e ts
-- a colon makes a tag of its name, which was read as a command
Completes (AfterCommand granting spec) e ts = AfterSpec granting spec e ts
    ⊎ ((x : Tag) × ((as_tag spec.command ≡ Some x) × ((after : List Token)
    × (mark marks.Colon ts after × AtTags granting spec.runas (spec.tags ++ x ∷ []) e after))))
Completes (RunasStart granting) e ts = (users : Option (List Member)) × ((after : List Token)
    × (optional (list kinds.Runas) users ts after × AtGroups granting users e after))
Completes (GroupsStart granting users) e ts = (gs : Option (List Member)) × ((after : List Token)
    × ((optional (list kinds.Runas) gs ▸ mark marks.RightParen) ts after
    × AtTags granting (Some (record { users = users; groups = gs })) [] e after))
Completes DefaultsStart e ts = (b : Option Binding) × ((xs : List Parameter)
    × ((binding b ▸ parameter_list xs) ts [] × (e ≡ entries.Defaults b xs)))
Completes (AtParameter b done n) e ts = (x : Parameter) × ((xs : List Parameter)
    × ((parameter_left x n ▸ more_parameters xs) ts [] × (e ≡ entries.Defaults b (done ++ x ∷ xs))))
Completes (AfterSwitch b done n name) e ts = ((xs : List Parameter)
    × (more_parameters xs ts [] × (e ≡ entries.Defaults b (done ++ parameters.Switch n name ∷ xs))))
    ⊎ ((n ≡ 0) × ((operator : Operator) × ((after : List Token)
    × (one (λ t. operator_of t.kind ≡ Some operator) ts after × AtAssigned b done name operator e after))))
Completes (AtValue b done name operator) e ts = AtAssigned b done name operator e ts
Completes (AfterValue b done) e ts =
    (xs : List Parameter) × (more_parameters xs ts [] × (e ≡ entries.Defaults b (done ++ xs)))
Completes (Included folder hash path) e ts = (ts ≡ []) × (e ≡ entries.Include folder hash path)
