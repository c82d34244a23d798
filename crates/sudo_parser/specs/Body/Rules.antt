-- Definitions for proofs of bodies alone: the parser's functions for rules, compared with the reading of a line.
use Rattle.std.specs.Prelude.{◌≡◌, ◌<◌, ◌≤◌, false, List, [], ◌∷◌, ◌++◌, length, Option, None, Some, Ok, ◌⊎◌}
use Rattle.sudo_text.specs.declared.token.Mark.TheVariants as marks
use Rattle.sudo_text.specs.declared.token.Token.{Token}
use Rattle.sudo_grammar.specs.declared.kind.Member.{Member}
use Rattle.sudo_grammar.specs.declared.policy.Runas.{Runas}
use Rattle.sudo_grammar.specs.declared.tag.Tag.{Tag}
use Rattle.sudo_grammar.specs.declared.policy.CommandSpec.{CommandSpec}
use Rattle.sudo_grammar.specs.declared.policy.Section.{Section}
use Rattle.sudo_grammar.specs.declared.policy.EntryBody.TheVariants as entries
use Rattle.sudo_parser.specs.declared.stops.ParserStop.{ParserStop}
use Rattle.sudo_grammar.specs.Words.{tag_of}
use Rattle.sudo_grammar.specs.Forms.{as_tag}
use Rattle.sudo_grammar.specs.Faults.{Room}
use Rattle.sudo_grammar.specs.Body.States.{Granting, Hosts, Command, Item, AfterCommand}
use Rattle.sudo_grammar.specs.Body.Refused.{is_option}
use Rattle.sudo_grammar.specs.Body.Reading.{reading}
use Rattle.sudo_parser.specs.Body.Stops.{Stops, IsNext, IsNotNext}

-- a tag and the colon after it come next
abbrev pub IsTagNext : List Token → Tag → List Token → Type 0
IsTagNext [] x rest = ⊥
IsTagNext (t ∷ ts) x rest = (tag_of t.kind ≡ Some x) × IsNext marks.Colon ts rest

-- no tag with a colon after it comes next
abbrev pub IsNoTagNext : List Token → Type 0
IsNoTagNext [] = Unit {0}
IsNoTagNext (t ∷ ts) = (tag_of t.kind ≡ None) ⊎ IsNotNext marks.Colon ts

-- Where a command may stand after a runas, tags are read up to other tokens.
pub record ReadsToTag (ts : List Token) (xs : List Tag) (rest : List Token) : Type 0 where
  pub no_longer : length rest ≤ length ts
  pub none : xs ≡ [] → ts ≡ rest
  pub reads : (room : Room) (g : Granting) (r : Option Runas)
      → reading room (Command g r [] 0) ts ≡ reading room (Command g r xs 0) rest

-- the same, and no tag comes next
pub record ReadsTags (ts : List Token) (xs : List Tag) (rest : List Token) : Type 0 where
  pub read : ReadsToTag ts xs rest
  pub no_more : IsNoTagNext rest

-- Where a command may begin, one is read with what belongs to it, up to other tokens, of which there are less: no equals
-- sign after an option's name, and no colon after a tag's.
pub record ReadsSpec (ts : List Token) (s : CommandSpec) (rest : List Token) : Type 0 where
  pub less : length rest < length ts
  pub no_option : is_option (Some s.command) rest ≡ false
  pub no_tag : (after : List Token) → IsNext marks.Colon rest after → as_tag s.command ≡ None
  pub reads : (room : Room) (g : Granting) → reading room (Command g None [] 0) ts ≡ reading room (AfterCommand g s) rest

abbrev pub StopsInSpec : List Token → ParserStop → Type 0
StopsInSpec ts e = (room : Room) (g : Granting) → Stops e (reading room (Command g None [] 0) ts)

-- a section up to a command
abbrev pub granting_of : List Member → List Section → List Member → List CommandSpec → Granting
granting_of users sections hosts commands = record { users = users; sections = sections; hosts = hosts; commands = commands }

-- the reading of commands of a section, each with the comma after it, leads to the rest
abbrev pub ReadsToSpec : List Token → List CommandSpec → List Token → Type 0
ReadsToSpec ts cs rest = (room : Room) (us : List Member) (done : List Section) (hs : List Member)
    → reading room (Command (granting_of us done hs []) None [] 0) ts ≡ reading room (Command (granting_of us done hs cs) None [] 0) rest

-- the reading of the commands of a section leads to the rest, which is shorter and does not begin with a comma
pub record ReadsSpecs (ts : List Token) (cs : List CommandSpec) (rest : List Token) : Type 0 where
  pub before : List CommandSpec
  pub last : CommandSpec
  pub whole : cs ≡ before ++ last ∷ []
  pub less : length rest < length ts
  pub no_more : IsNotNext marks.Comma rest
  pub no_option : is_option (Some last.command) rest ≡ false
  pub no_tag : (after : List Token) → IsNext marks.Colon rest after → as_tag last.command ≡ None
  pub reads : (room : Room) (us : List Member) (done : List Section) (hs : List Member)
      → reading room (Command (granting_of us done hs []) None [] 0) ts
      ≡ reading room (AfterCommand (granting_of us done hs before) last) rest

abbrev pub StopsInSpecs : List Token → ParserStop → Type 0
StopsInSpecs ts e = (room : Room) (us : List Member) (done : List Section) (hs : List Member)
    → Stops e (reading room (Command (granting_of us done hs []) None [] 0) ts)

-- the reading of a section of a rule leads to the rest, which is shorter and does not begin with a comma
pub record ReadsSection (ts : List Token) (s : Section) (rest : List Token) : Type 0 where
  pub before : List CommandSpec
  pub last : CommandSpec
  pub whole : s.commands ≡ before ++ last ∷ []
  pub less : length rest < length ts
  pub no_more : IsNotNext marks.Comma rest
  pub no_option : is_option (Some last.command) rest ≡ false
  pub no_tag : (after : List Token) → IsNext marks.Colon rest after → as_tag last.command ≡ None
  pub reads : (room : Room) (us : List Member) (done : List Section)
      → reading room (Item (Hosts us done) 0 []) ts ≡ reading room (AfterCommand (granting_of us done s.hosts before) last) rest

abbrev pub StopsInSection : List Token → ParserStop → Type 0
StopsInSection ts e = (room : Room) (us : List Member) (done : List Section)
    → Stops e (reading room (Item (Hosts us done) 0 []) ts)

-- the reading of sections of a rule, each with the colon after it, leads to the rest
abbrev pub ReadsToSection : List Token → List Section → List Token → Type 0
ReadsToSection ts ss rest = (room : Room) (us : List Member)
    → reading room (Item (Hosts us []) 0 []) ts ≡ reading room (Item (Hosts us ss) 0 []) rest

-- the sections of a rule are read up to the end of the line
abbrev pub ReadsSections : List Token → List Section → Type 0
ReadsSections ts ss = (room : Room) (us : List Member) → reading room (Item (Hosts us []) 0 []) ts ≡ Ok (entries.Rule us ss)

abbrev pub StopsInSections : List Token → ParserStop → Type 0
StopsInSections ts e = (room : Room) (us : List Member) → Stops e (reading room (Item (Hosts us []) 0 []) ts)
