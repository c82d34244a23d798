-- Patterns, as in glob(7) and sudoers(5), "Wildcards": how characters are cut into parts, and which bytes the parts
-- fit. Only proofs of bodies use these.
use Rattle.std.specs.Prelude.{ℕ, Bool, false}
use Rattle.std.specs.Prelude.{List, [], ◌∷◌, Option, Some, None}
use Rattle.sudo_text.specs.declared.token.Ch.{Ch}
use Rattle.sudo_match.specs.declared.patterns.Slash.{Slash}
use Rattle.sudo_match.specs.Pattern.{Item, item_at, Part, part_at, set_holds, One, Star}

-- the first item of a list of characters, if there are any
abbrev pub item_of : List Ch → Option (Item × ℕ)
item_of [] = None
item_of (c ∷ cs) = Some (item_at c cs)

-- the first part of a list of characters, if there are any
abbrev pub part_of : List Ch → Option (Part × ℕ)
part_of [] = None
part_of (c ∷ cs) = Some (part_at c cs)

-- a part fits this byte alone; a star never does
abbrev pub part_holds : Slash → Part → ℕ → Bool
part_holds s (One set) b = set_holds s set b
part_holds s Star b = false
