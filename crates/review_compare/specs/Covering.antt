-- Tests on two commands of a policy: the first fits whatever the second fits, and nothing fits both. Both may say no where
-- that is so; where they say yes, it is.
use Rattle.std.specs.Prelude.{◌≡◌, ℕ, Bool, true, false, not, ◌&&◌, ◌||◌, ◌==◌, if◌then◌else◌, codes, List, [], ◌∷◌, Option, Some, None}
use Rattle.std.specs.Prelude.{option_map}
use Rattle.sudo_text.specs.declared.token.Ch.{Ch}
use Rattle.sudo_grammar.specs.declared.kind.Atom.{Atom}
use Rattle.sudo_grammar.specs.declared.kind.Atom.TheVariants as atom
use Rattle.sudo_match.specs.declared.patterns.Slash.{Slash}
use Rattle.sudo_match.specs.declared.patterns.Slash.TheVariants.{Any, Not}
use Rattle.sudo_match.specs.Class.{Class, Alnum, Alpha, Blank, Cntrl, Digit, Graph, Lower, Print, Punct, Space, Upper, Xdigit}
use Rattle.sudo_match.specs.Pattern.{Item, InClass, Range, Single, ByteSet, Only, AnyByte, Bracket, Part, One, Star, parts, path_chars}
use Rattle.sudo_match.specs.Pattern.{is_free, set_holds, fits}
use Rattle.sudo_match.specs.Matching.{spells_text, arguments_fit, arguments_slash, command_fits}
use Rattle.review_compare.specs.Agreement.{Ruling, Tests, answer_of, agree}

-- ---- Patterns

abbrev pub class_number : Class → ℕ
class_number Alnum = 0
class_number Alpha = 1
class_number Blank = 2
class_number Cntrl = 3
class_number Digit = 4
class_number Graph = 5
class_number Lower = 6
class_number Print = 7
class_number Punct = 8
class_number Space = 9
class_number Upper = 10
class_number Xdigit = 11

-- two items that are written alike
abbrev pub same_item : Item → Item → Bool
same_item (InClass k) (InClass l) = class_number k == class_number l
same_item (Single a) (Single b) = a == b
same_item (Range a b) (Range c d) = (a == c) && (b == d)
same_item _ _ = false

abbrev pub same_items : List Item → List Item → Bool
same_items [] [] = true
same_items (i ∷ is) (j ∷ js) = same_item i j && same_items is js
same_items _ _ = false

-- the first set holds each byte of the second
abbrev pub set_covers : Slash → ByteSet → ByteSet → Bool
set_covers s x (Only b) = set_holds s x b
set_covers s AnyByte AnyByte = true
set_covers s AnyByte (Bracket d js) = true
set_covers s (Bracket true is) (Bracket true js) = same_items is js
set_covers s (Bracket false is) (Bracket false js) = same_items is js
set_covers s _ _ = false

-- a star may fit each byte of the set
abbrev pub set_is_free : Slash → ByteSet → Bool
set_is_free s (Only a) = is_free s a
set_is_free s AnyByte = true
set_is_free s (Bracket c items) = true

-- a star and then what `rest` tests cover the parts: the star takes some of their front
abbrev pub star_covers : Slash → (List Part → Bool) → List Part → Bool
star_covers s rest [] = rest []
star_covers s rest (One y ∷ q) = rest (One y ∷ q) || (set_is_free s y && star_covers s rest q)
star_covers s rest (Star ∷ q) = star_covers s rest q

-- the first parts fit each text that the second fit
abbrev pub parts_cover : Slash → List Part → List Part → Bool
parts_cover s [] [] = true
parts_cover s [] (y ∷ q) = false
parts_cover s (Star ∷ p) q = star_covers s (parts_cover s p) q
parts_cover s (One x ∷ p) [] = false
parts_cover s (One x ∷ p) (Star ∷ q) = false
parts_cover s (One x ∷ p) (One y ∷ q) = set_covers s x y && parts_cover s p q

-- no byte is in both sets, seen from one that holds a single byte
abbrev pub sets_apart : Slash → Slash → ByteSet → ByteSet → Bool
sets_apart s r (Only a) y = not (set_holds r y a)
sets_apart s r AnyByte (Only b) = not (set_holds s AnyByte b)
sets_apart s r (Bracket c items) (Only b) = not (set_holds s (Bracket c items) b)
sets_apart s r _ _ = false

-- no text fits both, seen from the front up to the first star
abbrev pub parts_apart : Slash → Slash → List Part → List Part → Bool
parts_apart s r [] q = not (fits q [] r)
parts_apart s r (Star ∷ p) q = false
parts_apart s r (One x ∷ p) [] = true
parts_apart s r (One x ∷ p) (Star ∷ q) = false
parts_apart s r (One x ∷ p) (One y ∷ q) = sets_apart s r x y || parts_apart s r p q

-- the one text that the parts fit, if each is a single byte
abbrev pub text_of : List Part → Option (List ℕ)
text_of [] = Some []
text_of (One (Only a) ∷ p) = option_map (λ t. a ∷ t) (text_of p)
text_of _ = None

-- the parts do not fit the text
abbrev pub misses : Slash → List Part → Option (List ℕ) → Bool
misses s p None = false
misses s p (Some t) = not (fits p t s)

abbrev pub parts_disjoint : Slash → Slash → List Part → List Part → Bool
parts_disjoint s r p q = (misses r q (text_of p) || misses s p (text_of q)) || parts_apart s r p q

-- ---- Commands

abbrev pub no_arguments : List Ch → Bool
no_arguments chars = spells_text (codes "\"\"") chars

abbrev pub same_slash : Slash → Slash → Bool
same_slash Any Any = true
same_slash Not Not = true
same_slash _ _ = false

abbrev pub arguments_cover : Slash → Slash → Option (List Ch) → Option (List Ch) → Bool
arguments_cover s r None b = true
arguments_cover s r (Some cs) None = false
arguments_cover s r (Some cs) (Some ds) =
    if no_arguments ds then arguments_fit s (Some cs) []
    else if no_arguments cs then false
    else same_slash s r && parts_cover s (parts cs) (parts ds)

abbrev pub arguments_disjoint : Slash → Slash → Option (List Ch) → Option (List Ch) → Bool
arguments_disjoint s r None b = false
arguments_disjoint s r (Some cs) None = false
arguments_disjoint s r (Some cs) (Some ds) =
    if no_arguments ds then not (arguments_fit s (Some cs) [])
    else if no_arguments cs then not (arguments_fit r (Some ds) [])
    else parts_disjoint s r (parts cs) (parts ds)

-- the first command fits whatever the second fits
abbrev pub covers : Atom → Atom → Bool
covers atom.All a = true
covers (atom.Command path args) (atom.Command other more) =
    parts_cover Not (parts (path_chars path)) (parts (path_chars other)) && arguments_cover (arguments_slash path)
    (arguments_slash other) args more
covers _ _ = false

-- nothing fits both
abbrev pub disjoint : Atom → Atom → Bool
disjoint (atom.Command path args) (atom.Command other more) =
    parts_disjoint Not Not (parts (path_chars path)) (parts (path_chars other)) || arguments_disjoint (arguments_slash path)
    (arguments_slash other) args more
disjoint _ _ = false

abbrev pub CoversIsSound : Type 0
CoversIsSound = (k a : Atom) (c x : List ℕ) → covers k a ≡ true → command_fits a c x ≡ true → command_fits k c x ≡ true

abbrev pub DisjointIsSound : Type 0
DisjointIsSound = (a b : Atom) (c x : List ℕ) → disjoint a b ≡ true → command_fits a c x ≡ true → command_fits b c x ≡ false

-- ---- Agreement on all commands

abbrev pub tests_by : {O : Type 0} → (O → O → Bool) → Tests Atom O
tests_by same = record { covers = covers; disjoint = disjoint; same = same }

-- lists of rulings on commands that agree give one answer to every command with any arguments
pub record AgreementOnCommands (O : Type 0) : Type 0 where
  pub holds :
      (same : O → O → Bool) → ((a b : O) → same a b ≡ true → a ≡ b) → (gs hs : List (Ruling Atom O)) →
      agree (tests_by same) gs hs ≡ true → (c x : List ℕ) →
      answer_of (λ a. command_fits a c x) gs ≡ answer_of (λ a. command_fits a c x) hs
