-- Arguments of commands that sudo refuses. sudoers(5), "Cmnd_List", "Regular expressions" and "Other special characters and
-- reserved words".
use Rattle.std.specs.Prelude.{Bool, true, false, not, ◌&&◌, ◌||◌, ◌==◌, List, [], ◌∷◌, Option, None, Some, codes}
use Rattle.std.specs.Prelude.{length, drop, ◌-◌}
use Rattle.std.specs.Str.{bytes_eq}
use Rattle.sudo_text.specs.Bytes.{is_blank}
use Rattle.sudo_text.specs.declared.token.Ch.{Ch}
use Rattle.sudo_grammar.specs.declared.kind.Atom.{Atom}
use Rattle.sudo_grammar.specs.declared.kind.Atom.TheVariants as atoms
use Rattle.sudo_grammar.specs.Words.{bytes_of}

-- the path ends in a slash: that of a folder, which has no arguments for sudo
abbrev pub ends_in_slash : List Ch → Bool
ends_in_slash path = bytes_eq (bytes_of (drop (length path - 1) path)) (codes "/")

-- the arguments begin with a `^` that no escape yields: for sudo a regular expression begins, which a `$` has to end
abbrev pub begins_expression : List Ch → Bool
begins_expression [] = false
begins_expression (c ∷ cs) = not c.escaped && (c.byte == 94)

-- an equals sign that no escape yields
abbrev pub is_equals : Ch → Bool
is_equals c = not c.escaped && (c.byte == 61)

-- a blank, or what an escape yields: sudo reads arguments piece by piece between these
abbrev pub is_gap : Ch → Bool
is_gap c = c.escaped || is_blank c.byte

-- no piece goes on with the characters: they are none, or begin with such a character
abbrev pub ends_piece : List Ch → Bool
ends_piece [] = true
ends_piece (c ∷ cs) = is_gap c

-- a piece is an equals sign alone, which is a mark for sudo; `fresh`: a piece may begin with the characters
abbrev pub has_lone_equals : Bool → List Ch → Bool
has_lone_equals fresh [] = false
has_lone_equals fresh (c ∷ cs) = (fresh && is_equals c && ends_piece cs) || has_lone_equals (is_gap c) cs

-- the arguments of a path, if any are given, are such
abbrev pub are_refused : List Ch → Option (List Ch) → Bool
are_refused path None = false
are_refused path (Some args) = ends_in_slash path || begins_expression args || has_lone_equals true args

-- a command has such arguments
abbrev pub atom_has_refused_arguments : Atom → Bool
atom_has_refused_arguments (atoms.Command path args) = are_refused path args
atom_has_refused_arguments _ = false
