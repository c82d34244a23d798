-- The meaning of the regular expressions that are read: regex(7), "DESCRIPTION". An expression is a list of branches, separated by `|`; a
-- branch is a sequence of pieces; a piece is an atom, repeated or not.
use Rattle.std.specs.Prelude.{◌≡◌, ◌++◌, ◌⊎◌, ℕ, Bool, true, false, not, ◌&&◌, ◌||◌, ◌==◌, nat_le}
use Rattle.std.specs.Prelude.{if◌then◌else◌, List, [], ◌∷◌, All, flat_map, length}
use Rattle.std.specs.List.{list_any}
use Rattle.review_texts.specs.Expressions.{bound_of, is_below_folder, is_expression, is_literal}
use Rattle.review_texts.specs.Expressions.{is_member, is_range, is_repetition, is_sign}

-- ---- Expressions

-- a part of an expression: all of it, or that between parentheses; a branch; a piece; an atom
pub data Part : Type 0 where
  Whole : Part
  Branch : Part
  Piece : Part
  Atom : Part

-- a member of brackets: a byte, or each byte of a range
pub data Member : Type 0 where
  One : (b : ℕ) → is_member b ≡ true → Member
  Each : (a b : ℕ) → is_range a b ≡ true → Member

-- an atom is a literal byte, an escaped sign, `.`, brackets or a group; brackets may be negated, and a literal `-` may stand behind their
-- members
pub data Expression : Part → Type 0 where
  Byte : (b : ℕ) → is_literal b ≡ true → (b == 46) ≡ false → Expression Atom
  Escaped : (b : ℕ) → is_sign b ≡ true → Expression Atom
  Any : Expression Atom
  Brackets : Bool → Member → List Member → Bool → Expression Atom
  Group : Expression Whole → Expression Atom
  Once : Expression Atom → Expression Piece
  Repeated : Expression Atom → (b : ℕ) → is_repetition b ≡ true → Expression Piece
  Last : Expression Piece → Expression Branch
  Then : Expression Piece → Expression Branch → Expression Branch
  Only : Expression Branch → Expression Whole
  Or : Expression Branch → Expression Whole → Expression Whole

-- ---- The text of an expression

abbrev pub member_text : Member → List ℕ
member_text (One b is) = b ∷ []
member_text (Each a b is) = a ∷ 45 ∷ b ∷ []

-- the end of brackets, with a literal `-` before it or not
abbrev pub end_text : Bool → List ℕ
end_text dash = if dash then 45 ∷ 93 ∷ [] else 93 ∷ []

abbrev pub text_of : {p : Part} → Expression p → List ℕ
text_of (Byte b is isnt) = b ∷ []
text_of (Escaped b is) = 92 ∷ b ∷ []
text_of Any = 46 ∷ []
text_of (Brackets true m ms dash) = 91 ∷ 94 ∷ (flat_map member_text (m ∷ ms) ++ end_text dash)
text_of (Brackets false m ms dash) = 91 ∷ (flat_map member_text (m ∷ ms) ++ end_text dash)
text_of (Group e) = 40 ∷ (text_of e ++ 41 ∷ [])
text_of (Once a) = text_of a
text_of (Repeated a b is) = text_of a ++ b ∷ []
text_of (Last p) = text_of p
text_of (Then p b) = text_of p ++ text_of b
text_of (Only b) = text_of b
text_of (Or b e) = text_of b ++ 124 ∷ text_of e

-- ---- The texts that an expression fits

abbrev pub member_has : ℕ → Member → Bool
member_has c (One b is) = c == b
member_has c (Each a b is) = nat_le a c && nat_le c b

abbrev pub members_have : List Member → Bool → ℕ → Bool
members_have ms dash c = list_any (member_has c) ms || (dash && (c == 45))

-- how often a piece may be repeated: `*` any number of times, `+` at least once, `?` at most once
abbrev pub may_repeat : ℕ → ℕ → Bool
may_repeat b n = (b == 42) || (((b == 43) && nat_le 1 n) || ((b == 63) && nat_le n 1))

-- the expression fits all of the text
abbrev pub Fits : {p : Part} → Expression p → List ℕ → Type 0
Fits (Byte b is isnt) text = text ≡ b ∷ []
Fits (Escaped b is) text = text ≡ b ∷ []
Fits Any text = (c : ℕ) × (text ≡ c ∷ [])
Fits (Brackets negated m ms dash) text = (c : ℕ) × ((text ≡ c ∷ []) × (members_have (m ∷ ms) dash c ≡ not negated))
Fits (Group e) text = Fits e text
Fits (Once a) text = Fits a text
Fits (Repeated a b is) text =
    (parts : List (List ℕ)) × ((text ≡ flat_map (λ t. t) parts) × (All (λ t. Fits a t) parts × (may_repeat b (length parts) ≡ true)))
Fits (Last p) text = Fits p text
Fits (Then p b) text = (front back : List ℕ) × ((text ≡ front ++ back) × (Fits p front × Fits b back))
Fits (Only b) text = Fits b text
Fits (Or b e) text = Fits b text ⊎ Fits e text

-- ---- Laws

abbrev pub has_slash : List ℕ → Bool
has_slash text = list_any (λ b. b == 47) text

-- each path that an expression below a folder fits is the path of a file in that folder
abbrev pub BoundsHold : Type 0
BoundsHold =
    (e : Expression Whole) → is_below_folder (text_of e) ≡ true → (path : List ℕ) → Fits e path →
    (name : List ℕ) × ((path ≡ bound_of (text_of e) ++ name) × (has_slash name ≡ false))

-- each text that `is_expression` accepts is the text of an expression
abbrev pub EachIsExpression : Type 0
EachIsExpression =
    (inside : Bool) (text : List ℕ) → is_expression inside text ≡ true → (e : Expression Whole) × (text_of e ≡ text)
