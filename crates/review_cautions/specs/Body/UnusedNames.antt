-- The names of unused aliases, and the lists that they leave: definitions that only proofs need.
use Rattle.std.specs.Prelude.{ℕ, Bool, true, false, not, ◌&&◌, List, [], ◌∷◌, map, drop, flat_map, is_some, bytes_eq, if◌then◌else◌}
use Rattle.sudo_base.specs.NameIndices.{index_of}
use Rattle.sudo_grammar.specs.declared.kind.Kind.{Kind}
use Rattle.sudo_grammar.specs.declared.kind.Kind.TheVariants as kinds
use Rattle.sudo_grammar.specs.Kinds.{same_kind}
use Rattle.sudo_grammar.specs.declared.policy.Definition.{Definition}
use Rattle.sudo_grammar.specs.declared.policy.EntryBody.{EntryBody}
use Rattle.sudo_grammar.specs.declared.policy.EntryBody.TheVariants as entries
use Rattle.sudo_grammar.specs.declared.policy.Entry.{Entry}
use Rattle.sudo_policy.specs.Definitions.{MemberList}
use Rattle.sudo_policy.specs.declared.finding.Class.{Class}
use Rattle.sudo_policy.specs.declared.finding.Class.TheVariants.{Unused}
use Rattle.sudo_policy.specs.declared.finding.Finding.{Finding}
use Rattle.review_cautions.specs.declared.uses.UnusedNames.{UnusedNames}

-- the class of findings on unused aliases
abbrev pub is_unused : Class → Bool
is_unused Unused = true
is_unused _ = false

-- the finding says that an alias of the kind is unused
abbrev pub is_of_kind : Kind → Finding → Bool
is_of_kind kind f = is_unused f.class && same_kind kind f.kind

-- the finding says that the alias of this kind and this name is unused
abbrev pub is_on : Kind → List ℕ → Finding → Bool
is_on kind name f = is_of_kind kind f && bytes_eq name f.name

-- the names of one kind
abbrev pub names_of_kind : UnusedNames → Kind → List (List ℕ × ℕ)
names_of_kind unused kinds.User = unused.users
names_of_kind unused kinds.Runas = unused.runas
names_of_kind unused kinds.Host = unused.hosts
names_of_kind unused kinds.Cmnd = unused.commands

-- the name is among those of the kind
abbrev pub has_name : UnusedNames → Kind → List ℕ → Bool
has_name unused kind name = is_some (index_of (names_of_kind unused kind) name)

-- for each definition of an entry, whether its alias is unused
abbrev pub marks_in : UnusedNames → EntryBody → List Bool
marks_in unused (entries.Aliases kind definitions) = map (λ (d : Definition). has_name unused kind d.name) definitions
marks_in unused body = []

-- for each definition of some entries, whether its alias is unused
abbrev pub marks_of : UnusedNames → List Entry → List Bool
marks_of unused es = flat_map (λ (e : Entry). marks_in unused e.body) es

-- there are marks, and the first is true
abbrev pub first_mark : List Bool → Bool
first_mark [] = false
first_mark (mark ∷ marks) = mark

-- a list is that of a definition, and the first mark says that its alias is unused
abbrev pub is_left_out : List Bool → MemberList → Bool
is_left_out marks l = not l.granting && first_mark marks

-- the marks for the lists behind this one: each list of a definition has one
abbrev pub marks_behind : List Bool → MemberList → List Bool
marks_behind marks l = if l.granting then marks else drop 1 marks

-- the lists but for those of definitions whose mark is true
abbrev pub left_by : List Bool → List MemberList → List MemberList
left_by marks [] = []
left_by marks (l ∷ ls) = if is_left_out marks l then left_by (marks_behind marks l) ls else l ∷ left_by (marks_behind marks l) ls
