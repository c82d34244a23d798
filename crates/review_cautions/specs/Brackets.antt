-- Brackets of patterns that sudo reads otherwise. sudoers(5), "Wildcards"; fnmatch(3) and glob(7), which it follows there.
use Rattle.std.specs.Prelude.{ℕ, Bool, true, false, not, ◌&&◌, ◌||◌, ◌==◌, nat_le, List, [], ◌∷◌, Option, None, Some, codes}
use Rattle.sudo_text.specs.declared.token.Ch.{Ch}
use Rattle.sudo_grammar.specs.declared.kind.Atom.{Atom}
use Rattle.sudo_grammar.specs.declared.kind.Atom.TheVariants as atoms

-- a `[` that no escape yields
abbrev pub opens_bracket : Ch → Bool
opens_bracket c = not c.escaped && (c.byte == 91)

-- a `^` stands directly behind such a `[`, where sudo takes it for `!`, as fnmatch(3) does; `opened`: such a `[` stands
-- directly before the characters
abbrev pub has_caret : Bool → List Ch → Bool
has_caret opened [] = false
has_caret opened (c ∷ cs) = (opened && (c.byte == 94)) || has_caret (opens_bracket c) cs

-- the arguments of a command, if any are given, have such a `^`
abbrev pub arguments_have_caret : Option (List Ch) → Bool
arguments_have_caret None = false
arguments_have_caret (Some args) = has_caret false args

-- a pattern of a host or of a command has a bracket that begins with `^`
abbrev pub atom_has_caret : Atom → Bool
atom_has_caret (atoms.Host chars quoted) = not quoted && has_caret false chars
atom_has_caret (atoms.Command path args) = has_caret false path || arguments_have_caret args
atom_has_caret _ = false

-- a `]` that no escape yields, and that closes a bracket for certain: behind `[`, `!` and `^` it may be a member of the
-- bracket, and behind `:`, `=` and `.` it may close a class; `before`: the byte directly before it
abbrev pub closes_bracket : ℕ → Ch → Bool
closes_bracket before c = not c.escaped && (c.byte == 93) && not ((before == 91) || (before == 33) || (before == 94)
    || (before == 58) || (before == 61) || (before == 46))

-- a character keeps a bracket open, or opens one; `inside`: it stands in a bracket
abbrev pub is_open_after : Bool → ℕ → Ch → Bool
is_open_after inside before c = opens_bracket c || (inside && not (closes_bracket before c))

-- a slash stands in a bracket of a path, which for sudo ends at each slash; `inside`: the characters stand in a bracket;
-- `before`: the byte directly before them
abbrev pub has_slash_inside : Bool → ℕ → List Ch → Bool
has_slash_inside inside before [] = false
has_slash_inside inside before (c ∷ cs) =
    (inside && (c.byte == 47)) || has_slash_inside (is_open_after inside before c) c.byte cs

-- the characters begin with `:` and an unescaped `]`
abbrev pub ends_class : List Ch → Bool
ends_class [] = false
ends_class (c ∷ []) = false
ends_class (c ∷ d ∷ cs) = (c.byte == 58) && not d.escaped && (d.byte == 93)

-- the characters begin with the name, no letter escaped, and that end of a class
abbrev pub names_class : List ℕ → List Ch → Bool
names_class [] cs = ends_class cs
names_class (b ∷ bs) [] = false
names_class (b ∷ bs) (c ∷ cs) = not c.escaped && (c.byte == b) && names_class bs cs

-- the name of a class that the reader and sudo read alike; in the name of a host the reader puts letters in lower case
-- first, and so none of them is of the class `upper`
abbrev pub is_class : Bool → List Ch → Bool
is_class host cs = names_class (codes "alnum") cs || names_class (codes "alpha") cs || names_class (codes "blank") cs
    || names_class (codes "cntrl") cs || names_class (codes "digit") cs || names_class (codes "graph") cs
    || names_class (codes "lower") cs || names_class (codes "print") cs || names_class (codes "punct") cs
    || names_class (codes "space") cs || names_class (codes "xdigit") cs || (not host && names_class (codes "upper") cs)

-- letters from `a` to `y`, possibly none, and the end of a class: fnmatch(3) of glibc takes nothing else for a class
abbrev pub names_any_class : List Ch → Bool
names_any_class [] = false
names_any_class (c ∷ cs) = ends_class (c ∷ cs) || (nat_le 97 c.byte && nat_le c.byte 121 && names_any_class cs)

-- the characters begin a class for sudo or for the reader, which puts a host's letters in lower case first, and it is
-- none of those above
abbrev pub names_other_class : Bool → List Ch → Bool
names_other_class host cs = not (is_class host cs) && (host || names_any_class cs)

-- the characters, directly behind a `[`, begin an equivalence (`=`), a collating symbol (`.`), or (`:`) such a class
abbrev pub begins_other_class : Bool → List Ch → Bool
begins_other_class host [] = false
begins_other_class host (c ∷ cs) = (c.byte == 61) || (c.byte == 46) || ((c.byte == 58) && names_other_class host cs)

-- such characters stand directly behind a `[` that no escape yields
abbrev pub has_other_class : Bool → List Ch → Bool
has_other_class host [] = false
has_other_class host (c ∷ cs) = (opens_bracket c && begins_other_class host cs) || has_other_class host cs

-- the arguments of a command, if any are given, have such characters
abbrev pub arguments_have_other_class : Option (List Ch) → Bool
arguments_have_other_class None = false
arguments_have_other_class (Some args) = has_other_class false args

-- a pattern of a host or of a command has a bracket that sudo reads otherwise
abbrev pub atom_has_other_bracket : Atom → Bool
atom_has_other_bracket (atoms.Host chars quoted) = not quoted && has_other_class true chars
atom_has_other_bracket (atoms.Command path args) =
    has_slash_inside false 0 path || has_other_class false path || arguments_have_other_class args
atom_has_other_bracket _ = false
