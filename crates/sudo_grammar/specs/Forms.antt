-- The written forms of an entry, from the tree to tokens, to be checked line by line against the EBNF of sudoers(5),
-- "Aliases", "Defaults" and "User specification". A form takes tokens from the front of a list, and leaves the rest.
--
--     entry    = keyword alias (':' alias)* | defaults | include | rule
--     alias    = NAME '=' list
--     list     = item (',' item)*
--     item     = '!'* member
--     rule     = userlist section (':' section)*
--     section  = hostlist '=' spec (',' spec)*
--     spec     = runas? (TAG ':')* '!'* command
--     runas    = '(' runaslist? (':' grouplist?)? ')'
--     defaults = Defaults binding? param (',' param)*
--     binding  = ('@' hostlist | ':' userlist | '!' cmndlist | '>' runaslist)
--     param    = '!'* word | word ('=' | '+=' | '-=') word
--
-- Three facts are added to the EBNF, each at its form: a name of a tag that a colon follows is a tag, a rule begins with
-- no keyword, and a token directly after `Defaults` is a binding mark.
use Rattle.std.specs.Prelude.{◌≡◌, ℕ, zero, suc, List, [], ◌∷◌, Option, None, Some, Ok, Bool, true, false, ◌⊎◌, ◌==◌, if◌then◌else◌}
use Rattle.sudo_text.specs.declared.token.Mark.{Mark}
use Rattle.sudo_text.specs.declared.token.Mark.TheVariants as marks
use Rattle.sudo_text.specs.declared.token.Token.{Token}
use Rattle.sudo_text.specs.declared.token.TokenKind.TheVariants as tokens
use Rattle.sudo_grammar.specs.declared.kind.Kind.{Kind}
use Rattle.sudo_grammar.specs.declared.kind.Member.{Member}
use Rattle.sudo_grammar.specs.declared.kind.Kind.TheVariants as kinds
use Rattle.sudo_grammar.specs.declared.policy.Definition.{Definition}
use Rattle.sudo_grammar.specs.declared.policy.Runas.{Runas}
use Rattle.sudo_grammar.specs.declared.tag.Tag.{Tag}
use Rattle.sudo_grammar.specs.declared.policy.CommandSpec.{CommandSpec}
use Rattle.sudo_grammar.specs.declared.policy.Section.{Section}
use Rattle.sudo_grammar.specs.declared.policy.Binding.{Binding}
use Rattle.sudo_grammar.specs.declared.policy.Binding.TheVariants as bindings
use Rattle.sudo_grammar.specs.declared.policy.Parameter.{Parameter}
use Rattle.sudo_grammar.specs.declared.policy.Parameter.TheVariants as parameters
use Rattle.sudo_text.specs.declared.token.Ch.{Ch}
use Rattle.sudo_grammar.specs.declared.policy.EntryBody.{EntryBody}
use Rattle.sudo_grammar.specs.declared.policy.EntryBody.TheVariants as entries
use Rattle.sudo_grammar.specs.Words.{name_of, tag_of}
use Rattle.sudo_grammar.specs.Openings.{opening_of, Opening, is_direct, kind_of_mark, is_word, operator_of}
use Rattle.sudo_grammar.specs.Openings as openings
use Rattle.sudo_grammar.specs.Members.{atom_of}

abbrev pub Form : Type 1
Form = List Token → List Token → Type 0

-- no token
abbrev pub nothing : Form
nothing ts rest = ts ≡ rest

-- no list of tokens has this form
abbrev pub never : Form
never ts rest = ⊥

-- one form, and then another
infixr 30 ◌▸◌
abbrev pub ◌▸◌ : Form → Form → Form
(F ▸ G) ts rest = (middle : List Token) × (F ts middle × G middle rest)

-- one token with a given property
abbrev pub one : (Token → Type 0) → Form
one P [] rest = ⊥
one P (t ∷ ts) rest = P t × (ts ≡ rest)

abbrev pub mark : Mark → Form
mark m = one (λ t. t.kind ≡ tokens.Mark m)

-- exclamation marks
abbrev pub bangs : ℕ → Form
bangs zero = nothing
bangs (suc n) = mark marks.Bang ▸ bangs n

-- the member's own token, which stands for its atom in a list of the kind
abbrev pub member : Kind → Member → Form
member kind m = one (λ t. (t ≡ m.token) × (atom_of kind t.kind ≡ Ok m.atom))

abbrev pub item : Kind → Member → Form
item kind m = bangs m.bangs ▸ member kind m

-- further items, each after a comma
abbrev pub more_items : Kind → List Member → Form
more_items kind [] = nothing
more_items kind (m ∷ ms) = mark marks.Comma ▸ item kind m ▸ more_items kind ms

-- a list, of one item at least
abbrev pub list : Kind → List Member → Form
list kind [] = never
list kind (m ∷ ms) = item kind m ▸ more_items kind ms

-- the name of an alias
abbrev pub name : List ℕ → Form
name w = one (λ t. name_of t.kind ≡ Some w)

abbrev pub definition : Kind → Definition → Form
definition kind d = name d.name ▸ mark marks.Equals ▸ list kind d.members

-- further definitions, each after a colon
abbrev pub more_definitions : Kind → List Definition → Form
more_definitions kind [] = nothing
more_definitions kind (d ∷ ds) = mark marks.Colon ▸ definition kind d ▸ more_definitions kind ds

abbrev pub definition_list : Kind → List Definition → Form
definition_list kind [] = never
definition_list kind (d ∷ ds) = definition kind d ▸ more_definitions kind ds

-- a proposition, without a token
abbrev pub only : Type 0 → Form
only P ts rest = P × (ts ≡ rest)

-- one of two forms
abbrev pub either : Form → Form → Form
either F G ts rest = F ts rest ⊎ G ts rest

-- a form of the value, or no token if there is none
abbrev pub optional : {A : Type 0} → (A → Form) → Option A → Form
optional F None = nothing
optional F (Some x) = F x

-- the groups to run as; a colon without a group has no effect
abbrev pub groups : Option (List Member) → Form
groups None = either nothing (mark marks.Colon)
groups (Some ms) = mark marks.Colon ▸ list kinds.Runas ms

abbrev pub runas : Runas → Form
runas r = mark marks.LeftParen ▸ optional (list kinds.Runas) r.users ▸ groups r.groups ▸ mark marks.RightParen

abbrev pub tag : Tag → Form
tag x = one (λ t. tag_of t.kind ≡ Some x) ▸ mark marks.Colon

abbrev pub tags : List Tag → Form
tags [] = nothing
tags (x ∷ xs) = tag x ▸ tags xs

abbrev pub spec : CommandSpec → Form
spec s = optional runas s.runas ▸ tags s.tags ▸ item kinds.Cmnd s.command

abbrev pub more_specs : List CommandSpec → Form
more_specs [] = nothing
more_specs (s ∷ ss) = mark marks.Comma ▸ spec s ▸ more_specs ss

abbrev pub specs : List CommandSpec → Form
specs [] = never
specs (s ∷ ss) = spec s ▸ more_specs ss

abbrev pub section : Section → Form
section s = list kinds.Host s.hosts ▸ mark marks.Equals ▸ specs s.commands

-- A member that would be a tag where a colon follows: the name of a tag with no exclamation mark.
abbrev pub as_tag : Member → Option Tag
as_tag m = if m.bangs == 0 then tag_of m.token.kind else None

abbrev pub last_as_tag : List CommandSpec → Option Tag
last_as_tag [] = None
last_as_tag (s ∷ []) = as_tag s.command
last_as_tag (s ∷ t ∷ ss) = last_as_tag (t ∷ ss)

-- further sections after one, each after a colon, before which no tag may stand as a command
abbrev pub more_sections : Section → List Section → Form
more_sections before [] = nothing
more_sections before (s ∷ ss) =
    only (last_as_tag before.commands ≡ None) ▸ mark marks.Colon ▸ section s ▸ more_sections s ss

abbrev pub sections : List Section → Form
sections [] = never
sections (s ∷ ss) = section s ▸ more_sections s ss

-- a property of the next token, which must exist
abbrev pub ahead : (Token → Type 0) → Form
ahead P [] rest = ⊥
ahead P (t ∷ ts) rest = P t × (t ∷ ts ≡ rest)

abbrev pub rule : List Member → List Section → Form
rule users ss = ahead (λ t. opening_of t.kind ≡ openings.Other) ▸ list kinds.User users ▸ sections ss

-- the mark directly after `Defaults` that begins a list of the kind
abbrev pub binding_mark : Kind → Form
binding_mark kind = one (λ t. (is_direct t ≡ true) × (kind_of_mark t.kind ≡ Some kind))

-- the binding of the line; a line without one has no token directly after `Defaults`
abbrev pub binding : Option Binding → Form
binding None = ahead (λ t. is_direct t ≡ false)
binding (Some (bindings.Hosts ms)) = binding_mark kinds.Host ▸ list kinds.Host ms
binding (Some (bindings.Users ms)) = binding_mark kinds.User ▸ list kinds.User ms
binding (Some (bindings.Commands ms)) = binding_mark kinds.Cmnd ▸ list kinds.Cmnd ms
binding (Some (bindings.Runas ms)) = binding_mark kinds.Runas ▸ list kinds.Runas ms

-- the given token, which is a word
abbrev pub the_word : Token → Form
the_word w = one (λ t. (t ≡ w) × (is_word t.kind ≡ true))

abbrev pub parameter : Parameter → Form
parameter (parameters.Switch n name) = bangs n ▸ the_word name
parameter (parameters.Assign name operator value) =
    the_word name ▸ one (λ t. operator_of t.kind ≡ Some operator) ▸ the_word value

abbrev pub more_parameters : List Parameter → Form
more_parameters [] = nothing
more_parameters (x ∷ xs) = mark marks.Comma ▸ parameter x ▸ more_parameters xs

abbrev pub parameter_list : List Parameter → Form
parameter_list [] = never
parameter_list (x ∷ xs) = parameter x ▸ more_parameters xs

abbrev pub defaults : Option Binding → List Parameter → Form
defaults b xs = one (λ t. opening_of t.kind ≡ openings.DefaultsLine) ▸ binding b ▸ parameter_list xs

abbrev pub include : Bool → Bool → List Ch → Form
include folder hash path = one (λ t. opening_of t.kind ≡ openings.Directive folder hash path)

-- the keyword of the kind
abbrev pub keyword_form : Kind → Form
keyword_form kind = one (λ t. opening_of t.kind ≡ openings.Keyword kind)

-- the forms of a line
abbrev pub entry : EntryBody → Form
entry (entries.Aliases kind ds) = keyword_form kind ▸ definition_list kind ds
entry (entries.Defaults b xs) = defaults b xs
entry (entries.Rule users ss) = rule users ss
entry (entries.Include folder hash path) = include folder hash path

-- the tokens are a written form of the entry
abbrev pub Writes : EntryBody → List Token → Type 0
Writes e ts = entry e ts []
