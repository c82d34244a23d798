-- Patterns, as in glob(7) and sudoers(5), "Wildcards": how characters are cut into parts, and which bytes the parts fit.
-- The numbers beside items and parts count characters; Brackets.antt says the same by lists of characters, in the laws.
--     parts chars             the parts of a pattern's characters
--     fits parts text slash   some cut of the text fits the parts, one after the other
use Rattle.std.specs.Prelude.{ℕ, zero, suc, ◌+◌, ◌-◌, slice_get, Bool, true, false, not, ◌&&◌, ◌==◌, if◌then◌else◌}
use Rattle.std.specs.Prelude.{List, [], ◌∷◌, ◌++◌, map, length, Option, Some, None, option_map, find}
use Rattle.std.specs.List.{list_any, list_all}
use Rattle.sudo_text.specs.declared.token.Ch.{Ch}
use Rattle.sudo_match.specs.declared.patterns.Slash.{Slash}
use Rattle.sudo_match.specs.declared.patterns.Slash.TheVariants.{Any, Not}
use Rattle.sudo_match.specs.Class.{Class, class_holds, class_name, classes, is_between}

-- ---- Characters

-- this byte
abbrev pub is_byte : ℕ → Ch → Bool
is_byte b c = c.byte == b

-- this byte, unescaped: an escaped byte stands only for itself
abbrev pub is_plain : ℕ → Ch → Bool
is_plain b c = not c.escaped && (c.byte == b)

-- there is a character, and it passes the test
abbrev pub has : (Ch → Bool) → Option Ch → Bool
has test None = false
has test (Some c) = test c

-- the characters begin with one for each test
unfoldable pub begins : List (Ch → Bool) → List Ch → Bool
begins [] cs = true
begins (test ∷ tests) [] = false
begins (test ∷ tests) (c ∷ cs) = test c && begins tests cs

-- ---- Items of a bracket

-- a class `[:name:]`, a range `a-b`, or one byte
pub data Item : Type 0 where
  InClass : Class → Item
  Range : (low high : ℕ) → Item
  Single : ℕ → Item

-- the bytes of an item; a range whose ends are in the wrong order has none
abbrev pub item_holds : ℕ → Item → Bool
item_holds b (InClass k) = class_holds k b
item_holds b (Range low high) = is_between low high b
item_holds b (Single a) = b == a

-- `[:name:]`, its colons escaped or not
abbrev pub class_end : List (Ch → Bool)
class_end = is_byte 58 ∷ is_plain 93 ∷ []

abbrev pub class_form : Class → List (Ch → Bool)
class_form k = is_plain 91 ∷ is_byte 58 ∷ (map is_plain (class_name k) ++ class_end)

-- the known class whose form the characters begin with
abbrev pub class_at : List Ch → Option Class
class_at cs = find (λ k. begins (class_form k) cs) classes

-- a range `a-b`, or one byte; a `-` stands for itself if no character follows it or the closing `]` does
unfoldable pub range_at : Ch → List Ch → Item × ℕ
range_at a [] = (Single a.byte, 0)
range_at a (dash ∷ []) = (Single a.byte, 0)
range_at a (dash ∷ b ∷ cs) =
    if is_plain 45 dash && not (is_plain 93 b) then (Range a.byte b.byte, 2) else (Single a.byte, 0)

-- a class, or otherwise another item
abbrev pub class_or : Option Class → Item × ℕ → Item × ℕ
class_or (Some k) other = (InClass k, length (class_name k) + 3)
class_or None other = other

-- the item with which the characters begin, and the number of its characters after the first
abbrev pub item_at : Ch → List Ch → Item × ℕ
item_at c cs = class_or (class_at (c ∷ cs)) (range_at c cs)

-- the items up to the closing `]`, an unescaped `]` that is not the first item, and the number of their characters with
-- that `]`; none if no `]` closes the bracket; the first `skipped` characters belong to the item before
unfoldable pub items_after : ℕ → Bool → List Ch → Option (List Item × ℕ)
items_after skipped is_first [] = None
items_after (suc skipped) is_first (c ∷ cs) = option_map (λ r. (r.0, r.1 + 1)) (items_after skipped false cs)
items_after zero is_first (c ∷ cs) =
    if not is_first && is_plain 93 c
    then Some ([], 1)
    else option_map (λ r. ((item_at c cs).0 ∷ r.0, r.1 + 1)) (items_after (item_at c cs).1 false cs)

-- ---- Parts

-- a set of bytes, of which a part fits one
pub data ByteSet : Type 0 where
  Only : ℕ → ByteSet
  AnyByte : ByteSet
  Bracket : (complement : Bool) → List Item → ByteSet

pub data Part : Type 0 where
  One : ByteSet → Part
  Star : Part

-- the bracket of the characters after a `[`, and how many of them it takes
unfoldable pub bracket_after : List Ch → Option (ByteSet × ℕ)
bracket_after [] = None
bracket_after (c ∷ cs) =
    if is_plain 33 c
    then option_map (λ r. (Bracket true r.0, r.1 + 1)) (items_after 0 true cs)
    else option_map (λ r. (Bracket false r.0, r.1)) (items_after 0 true (c ∷ cs))

-- a bracket, or otherwise a byte that fits itself
abbrev pub bracket_or : Option (ByteSet × ℕ) → ℕ → Part × ℕ
bracket_or (Some r) b = (One r.0, r.1)
bracket_or None b = (One (Only b), 0)

-- the part with which the characters begin, and the number of its characters after the first; an unclosed `[` fits
-- itself
unfoldable pub part_at : Ch → List Ch → Part × ℕ
part_at c cs =
    if is_plain 42 c then (Star, 0)
    else if is_plain 63 c then (One AnyByte, 0)
    else if is_plain 91 c then bracket_or (bracket_after cs) c.byte
    else (One (Only c.byte), 0)

-- the parts of the characters after the first `skipped`, which belong to the part before
unfoldable pub parts_after : ℕ → List Ch → List Part
parts_after skipped [] = []
parts_after (suc skipped) (c ∷ cs) = parts_after skipped cs
parts_after zero (c ∷ cs) = (part_at c cs).0 ∷ parts_after (part_at c cs).1 cs

abbrev pub parts : List Ch → List Part
parts cs = parts_after 0 cs

-- ---- Paths

-- a path whose last character is `/` stands for the files of that folder: it is matched as if `?*` were appended
abbrev pub is_folder_path : List Ch → Bool
is_folder_path cs = has (is_byte 47) (slice_get cs (length cs - 1))

abbrev pub any_name : Bool → List Ch
any_name true = record { byte = 63; escaped = false } ∷ record { byte = 42; escaped = false } ∷ []
any_name false = []

abbrev pub path_chars : List Ch → List Ch
path_chars cs = cs ++ any_name (is_folder_path cs)

-- ---- Fitting

-- `*`, `?` and brackets fit this byte
abbrev pub is_free : Slash → ℕ → Bool
is_free Any b = true
is_free Not b = not (b == 47)

abbrev pub set_holds : Slash → ByteSet → ℕ → Bool
set_holds s (Only a) b = b == a
set_holds s AnyByte b = is_free s b
set_holds s (Bracket false items) b = is_free s b && list_any (item_holds b) items
set_holds s (Bracket true items) b = is_free s b && not (list_any (item_holds b) items)

-- the ways to cut a text into two
unfoldable pub cuts : List ℕ → List (List ℕ × List ℕ)
cuts [] = ([], []) ∷ []
cuts (b ∷ t) = ([], b ∷ t) ∷ map (λ c. (b ∷ c.0, c.1)) (cuts t)

-- no parts fit the empty text; a set and then p fit a byte of the set and then a text that p fits; a star and then p
-- fit a text that is cut somewhere into bytes that a star may fit and then a text that p fits
unfoldable pub fits : List Part → List ℕ → Slash → Bool
fits [] [] s = true
fits [] (b ∷ t) s = false
fits (Star ∷ p) t s = list_any (λ c. list_all (is_free s) c.0 && fits p c.1 s) (cuts t)
fits (One set ∷ p) [] s = false
fits (One set ∷ p) (b ∷ t) s = set_holds s set b && fits p t s
