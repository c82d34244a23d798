-- What the members of a list of a policy contain.
use Rattle.std.specs.Prelude.{ℕ, Bool, true, false, not, ◌&&◌, ◌||◌, ◌==◌, List, [], ◌∷◌, codes}
use Rattle.std.specs.Prelude.{length, drop, ◌-◌}
use Rattle.std.specs.List.{list_any}
use Rattle.std.specs.Str.{bytes_eq}
use Rattle.sudo_text.specs.declared.token.Ch.{Ch}
use Rattle.sudo_grammar.specs.declared.kind.Kind.{Kind}
use Rattle.sudo_grammar.specs.declared.kind.Kind.TheVariants as kinds
use Rattle.sudo_grammar.specs.declared.kind.Atom.{Atom}
use Rattle.sudo_grammar.specs.declared.kind.Atom.TheVariants as atoms
use Rattle.sudo_grammar.specs.declared.kind.Member.{Member}
use Rattle.sudo_grammar.specs.Words.{is_upper, bytes_of}
use Rattle.sudo_policy.specs.Definitions.{MemberList}
use Rattle.review_cautions.specs.Addresses.{has_other_address}
use Rattle.review_cautions.specs.Arguments.{atom_has_refused_arguments}
use Rattle.review_cautions.specs.Brackets.{atom_has_caret, atom_has_other_bracket}
use Rattle.review_cautions.specs.declared.link.Link.{Link}
use Rattle.review_cautions.specs.Escapes.{has_other_escape, has_quoted_mark, has_quoted_escape}
use Rattle.review_cautions.specs.declared.class.CautionClass.{CautionClass}
use Rattle.review_cautions.specs.declared.class.CautionClass.TheVariants.{Caret, Escape, Case, QuotedHost, QuotedEscape, Linked}
use Rattle.review_cautions.specs.declared.class.CautionClass.TheVariants.{Sudoedit, Network, Bracket, Arguments, Depends}

-- a wildcard that no escape yields: `*`, `?` or `[`
abbrev pub is_wildcard : Ch → Bool
is_wildcard c = not c.escaped && ((c.byte == 42) || (c.byte == 63) || (c.byte == 91))

-- the path may lie below the folder: its characters are those of the folder and a slash, until they end or a wildcard
-- stands in the path
abbrev pub may_lie_below : List ℕ → List Ch → Bool
may_lie_below folder [] = false
may_lie_below [] (c ∷ cs) = is_wildcard c || (c.byte == 47)
may_lie_below (b ∷ bs) (c ∷ cs) = is_wildcard c || ((c.byte == b) && may_lie_below bs cs)

-- the path may lie below the folder that is the link, or below the one that it leads to
abbrev pub is_below_link : List Ch → Link → Bool
is_below_link path link = may_lie_below link.from path || may_lie_below link.to path

-- the path may lie below such a folder of a link; sudo compares the files that the paths lead to
abbrev pub is_linked : List Link → List Ch → Bool
is_linked links path = list_any (is_below_link path) links

-- a link from one folder to another
abbrev pub linking : List ℕ → List ℕ → Link
linking from to = record { from = from; to = to }

-- `/bin`, `/sbin` and `/lib`, which are links to folders in `/usr` on most machines
abbrev pub usual_links : List Link
usual_links = linking (codes "/bin") (codes "/usr/bin") ∷ linking (codes "/sbin") (codes "/usr/sbin")
    ∷ linking (codes "/lib") (codes "/usr/lib") ∷ []

-- the name of a user or a group has a capital letter. sudoers(5), `case_insensitive_user` and `case_insensitive_group`
abbrev pub atom_has_capital : Atom → Bool
atom_has_capital (atoms.Name name) = list_any is_upper name
atom_has_capital (atoms.Group name) = list_any is_upper name
atom_has_capital _ = false

-- a command's path is linked
abbrev pub atom_is_linked : List Link → Atom → Bool
atom_is_linked links (atoms.Command path args) = is_linked links path
atom_is_linked links _ = false

-- the path ends in `/sudoedit`, which sudo takes for `sudoedit`
abbrev pub ends_in_sudoedit : List Ch → Bool
ends_in_sudoedit path = bytes_eq (bytes_of (drop (length path - 9) path)) (codes "/sudoedit")

-- a command's path ends so
abbrev pub atom_is_sudoedit : Atom → Bool
atom_is_sudoedit (atoms.Command path args) = ends_in_sudoedit path
atom_is_sudoedit _ = false

-- the lists in which the construct of the class may stand
abbrev pub concerns : CautionClass → Kind → Bool
concerns Caret kinds.Host = true
concerns Caret kinds.Cmnd = true
concerns Escape kind = true
concerns Case kinds.User = true
concerns Case kinds.Runas = true
concerns QuotedHost kinds.Host = true
concerns QuotedEscape kinds.User = true
concerns QuotedEscape kinds.Runas = true
concerns QuotedEscape kinds.Host = true
concerns Sudoedit kinds.Cmnd = true
concerns Network kinds.Host = true
concerns Bracket kinds.Host = true
concerns Bracket kinds.Cmnd = true
concerns Arguments kinds.Cmnd = true
concerns _ _ = false

-- the member has the construct of the class
abbrev pub member_holds : CautionClass → Member → Bool
member_holds Caret m = atom_has_caret m.atom
member_holds Escape m = has_other_escape m
member_holds Case m = atom_has_capital m.atom
member_holds QuotedHost m = has_quoted_mark m.atom
member_holds QuotedEscape m = has_quoted_escape m.token.kind
member_holds Sudoedit m = atom_is_sudoedit m.atom
member_holds Network m = has_other_address m
member_holds Bracket m = atom_has_other_bracket m.atom
member_holds Arguments m = atom_has_refused_arguments m.atom
member_holds _ m = false

-- a member of the list has the construct of the class
abbrev pub list_holds : CautionClass → MemberList → Bool
list_holds class list = concerns class list.kind && list_any (member_holds class) list.members

-- a construct of the class changes what a list matches, and nothing else: sudo reads it, and a list that decides nothing may
-- match what it will. Those of `Escape`, `QuotedEscape`, `Sudoedit` and `Arguments` it refuses, all or in part, wherever they stand
abbrev pub is_of_matching : CautionClass → Bool
is_of_matching Caret = true
is_of_matching Case = true
is_of_matching QuotedHost = true
is_of_matching Linked = true
is_of_matching Network = true
is_of_matching Bracket = true
is_of_matching Depends = true
is_of_matching _ = false

-- commands
abbrev pub is_of_commands : Kind → Bool
is_of_commands kinds.Cmnd = true
is_of_commands _ = false

-- a command of the list is linked
abbrev pub list_is_linked : List Link → MemberList → Bool
list_is_linked links list =
    is_of_commands list.kind && list_any (λ (m : Member). atom_is_linked links m.atom) list.members
