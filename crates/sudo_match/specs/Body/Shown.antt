-- The meaning of the code's private classes, and of an item that it has read; only proofs of bodies need these
-- definitions.
use Rattle.std.specs.Prelude.{ℕ, Bool, List, [], ◌∷◌, Option, find}
use Rattle.sudo_text.specs.declared.token.Ch.{Ch}
use Rattle.sudo_match.specs.Pattern.{Item, item_holds, class_form, begins}
use Rattle.sudo_match.specs.Class as class
use Rattle.sudo_match.specs.declared.patterns.Class.{Class}
use Rattle.sudo_match.specs.declared.patterns.Class.TheVariants.{Alnum, Alpha, Blank, Cntrl, Digit, Graph, Lower}
use Rattle.sudo_match.specs.declared.patterns.Class.TheVariants.{Print, Punct, Space, Upper, Xdigit}

abbrev pub class_of : Class → class.Class
class_of Alnum = class.Alnum
class_of Alpha = class.Alpha
class_of Blank = class.Blank
class_of Cntrl = class.Cntrl
class_of Digit = class.Digit
class_of Graph = class.Graph
class_of Lower = class.Lower
class_of Print = class.Print
class_of Punct = class.Punct
class_of Space = class.Space
class_of Upper = class.Upper
class_of Xdigit = class.Xdigit

-- whether an item holds a byte, with the number of its further characters
abbrev pub held_by : ℕ → Item × ℕ → Bool × ℕ
held_by b r = (item_holds b r.0, r.1)

abbrev pub known_classes : List Class
known_classes = Alnum ∷ Alpha ∷ Blank ∷ Cntrl ∷ Digit ∷ Graph ∷ Lower ∷ Print ∷ Punct ∷ Space ∷ Upper ∷ Xdigit ∷ []

-- the first private class whose form the characters begin with
abbrev pub class_at_start : List Ch → Option Class
class_at_start cs = find (λ k. begins (class_form (class_of k)) cs) known_classes
