-- POSIX character classes over ASCII, as in glob(7), and letters without case.
use Rattle.std.specs.Prelude.{ℕ, map, Bool, ◌&&◌, ◌||◌, not, ◌==◌, nat_le, List, [], ◌∷◌, codes}
use Rattle.std.specs.Char.{to_ascii_lowercase}
use Rattle.sudo_text.specs.Bytes.{is_digit}
use Rattle.sudo_grammar.specs.Words.{is_upper}

-- a class, by its name
pub data Class : Type 0 where
  Alnum : Class
  Alpha : Class
  Blank : Class
  Cntrl : Class
  Digit : Class
  Graph : Class
  Lower : Class
  Print : Class
  Punct : Class
  Space : Class
  Upper : Class
  Xdigit : Class

-- low ≤ b ≤ high
abbrev pub is_between : ℕ → ℕ → ℕ → Bool
is_between low high b = nat_le low b && nat_le b high

abbrev pub is_lower : ℕ → Bool
is_lower = is_between 97 122

abbrev pub is_alpha : ℕ → Bool
is_alpha b = is_upper b || is_lower b

abbrev pub is_alnum : ℕ → Bool
is_alnum b = is_digit b || is_alpha b

-- the bytes of a class
abbrev pub class_holds : Class → ℕ → Bool
class_holds Alnum b = is_alnum b
class_holds Alpha b = is_alpha b
class_holds Blank b = b == 32 || b == 9
class_holds Cntrl b = nat_le b 31 || b == 127
class_holds Digit b = is_digit b
class_holds Graph b = is_between 33 126 b
class_holds Lower b = is_lower b
class_holds Print b = is_between 32 126 b
class_holds Punct b = is_between 33 126 b && not (is_alnum b)
class_holds Space b = b == 32 || is_between 9 13 b
class_holds Upper b = is_upper b
class_holds Xdigit b = is_digit b || (is_between 65 70 b || is_between 97 102 b)

-- the name of a class in a pattern
abbrev pub class_name : Class → List ℕ
class_name Alnum = codes "alnum"
class_name Alpha = codes "alpha"
class_name Blank = codes "blank"
class_name Cntrl = codes "cntrl"
class_name Digit = codes "digit"
class_name Graph = codes "graph"
class_name Lower = codes "lower"
class_name Print = codes "print"
class_name Punct = codes "punct"
class_name Space = codes "space"
class_name Upper = codes "upper"
class_name Xdigit = codes "xdigit"

-- the known classes
abbrev pub classes : List Class
classes = Alnum ∷ Alpha ∷ Blank ∷ Cntrl ∷ Digit ∷ Graph ∷ Lower ∷ Print ∷ Punct ∷ Space ∷ Upper ∷ Xdigit ∷ []

-- ASCII lower case
abbrev pub lower : ℕ → ℕ
lower b = to_ascii_lowercase b

abbrev pub lower_text : List ℕ → List ℕ
lower_text = map lower
