-- The tests on two commands that the program makes: those of Covering where no pattern has a bracket and few have stars, read
-- character by character; and commands that are written alike. Where they say yes, it is so.
use Rattle.std.specs.Prelude.{◌≡◌, ℕ, Bool, true, false, not, ◌&&◌, ◌||◌, ◌==◌, if◌then◌else◌, nat_le, List, [], ◌∷◌, length, filter, map}
use Rattle.std.specs.Prelude.{Option, Some, None}
use Rattle.std.specs.List.{list_any}
use Rattle.sudo_text.specs.declared.token.Ch.{Ch}
use Rattle.sudo_grammar.specs.declared.kind.Atom.{Atom}
use Rattle.sudo_grammar.specs.declared.kind.Atom.TheVariants as atom
use Rattle.sudo_match.specs.declared.patterns.Slash.{Slash}
use Rattle.sudo_match.specs.declared.patterns.Slash.TheVariants.{Not}
use Rattle.sudo_match.specs.Pattern.{AnyByte, Only, Part, One, Star, is_plain, path_chars}
use Rattle.sudo_match.specs.Matching.{arguments_fit, arguments_slash, command_fits}
use Rattle.review_compare.specs.Covering.{no_arguments, parts_cover, parts_disjoint, same_slash, text_of}

-- no bracket, and not too long for tests of each pair
abbrev pub is_simple : List Ch → Bool
is_simple cs = not (list_any (is_plain 91) cs) && nat_le (length cs) 2000

abbrev pub has_few_stars : List Ch → Bool
has_few_stars cs = nat_le (length (filter (is_plain 42) cs)) 2

-- the part of a character that begins no bracket
abbrev pub char_part : Ch → Part
char_part c = if is_plain 42 c then Star else if is_plain 63 c then One AnyByte else One (Only c.byte)

abbrev pub same_bool : Bool → Bool → Bool
same_bool true b = b
same_bool false b = not b

-- the same characters, of which the same are escaped
abbrev pub same_chars : List Ch → List Ch → Bool
same_chars [] [] = true
same_chars (c ∷ cs) (d ∷ ds) = ((c.byte == d.byte) && same_bool c.escaped d.escaped) && same_chars cs ds
same_chars _ _ = false

abbrev pub same_arguments : Option (List Ch) → Option (List Ch) → Bool
same_arguments None None = true
same_arguments (Some cs) (Some ds) = same_chars cs ds
same_arguments _ _ = false

-- ---- Patterns

abbrev pub chars_cover : Slash → List Ch → List Ch → Bool
chars_cover s p q = ((is_simple p && has_few_stars p) && is_simple q) && parts_cover s (map char_part p) (map char_part q)

abbrev pub chars_disjoint : Slash → Slash → List Ch → List Ch → Bool
chars_disjoint s r p q = (is_simple p && is_simple q) && parts_disjoint s r (map char_part p) (map char_part q)

-- ---- Commands

abbrev pub given_cover : Slash → Slash → Option (List Ch) → Option (List Ch) → Bool
given_cover s r None b = true
given_cover s r (Some cs) None = false
given_cover s r (Some cs) (Some ds) =
    if no_arguments ds then arguments_fit s (Some cs) []
    else if no_arguments cs then false
    else same_slash s r && chars_cover s cs ds

abbrev pub given_disjoint : Slash → Slash → Option (List Ch) → Option (List Ch) → Bool
given_disjoint s r None b = false
given_disjoint s r (Some cs) None = false
given_disjoint s r (Some cs) (Some ds) =
    if no_arguments ds then not (arguments_fit s (Some cs) [])
    else if no_arguments cs then not (arguments_fit r (Some ds) [])
    else chars_disjoint s r cs ds

-- the first command fits whatever the second fits
abbrev pub covers_simply : Atom → Atom → Bool
covers_simply atom.All a = true
covers_simply (atom.Command path args) (atom.Command other more) =
    (same_chars path other && same_arguments args more)
    || (chars_cover Not (path_chars path) (path_chars other) && given_cover (arguments_slash path) (arguments_slash other) args more)
covers_simply _ _ = false

-- nothing fits both
abbrev pub disjoint_simply : Atom → Atom → Bool
disjoint_simply (atom.Command path args) (atom.Command other more) =
    chars_disjoint Not Not (path_chars path) (path_chars other) || given_disjoint (arguments_slash path) (arguments_slash other) args more
disjoint_simply _ _ = false

-- ---- Commands that are written alike

abbrev pub same_command : Atom → Atom → Bool
same_command atom.All atom.All = true
same_command (atom.Command path args) (atom.Command other more) = same_chars path other && same_arguments args more
same_command _ _ = false

abbrev pub same_commands : List Atom → List Atom → Bool
same_commands [] [] = true
same_commands (a ∷ rest) (b ∷ more) = same_command a b && same_commands rest more
same_commands _ _ = false

-- ---- What the tests say

abbrev pub CoversIsSound : Type 0
CoversIsSound = (k a : Atom) (c x : List ℕ) → covers_simply k a ≡ true → command_fits a c x ≡ true → command_fits k c x ≡ true

abbrev pub DisjointIsSound : Type 0
DisjointIsSound = (a b : Atom) (c x : List ℕ) → disjoint_simply a b ≡ true → command_fits a c x ≡ true → command_fits b c x ≡ false

-- ---- The characters of a command

-- the characters of its path, with those that a folder's path stands for
abbrev pub path_of : Atom → List Ch
path_of (atom.Command path args) = path_chars path
path_of _ = []

abbrev pub given : Option (List Ch) → List Ch
given None = []
given (Some chars) = chars

-- the characters of its arguments
abbrev pub arguments_of : Atom → List Ch
arguments_of (atom.Command path args) = given args
arguments_of _ = []

-- the one text that the characters fit, if there is one
abbrev pub chars_text : List Ch → Option (List ℕ)
chars_text cs = text_of (map char_part cs)
