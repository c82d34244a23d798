-- The parts of single characters; only proofs of bodies use these.
use Rattle.std.specs.Prelude.{Bool, false, map, List}
use Rattle.sudo_text.specs.declared.token.Ch.{Ch}
use Rattle.sudo_match.specs.declared.patterns.Slash.{Slash}
use Rattle.sudo_match.specs.Pattern.{Part, One, Star}
use Rattle.review_compare.specs.Covering.{set_covers, set_is_free, sets_apart}
use Rattle.review_compare.specs.Simply.{char_part}

abbrev pub one_covers : Slash → Part → Part → Bool
one_covers s (One x) (One y) = set_covers s x y
one_covers s _ _ = false

abbrev pub one_is_free : Slash → Part → Bool
one_is_free s (One x) = set_is_free s x
one_is_free s Star = false

abbrev pub ones_apart : Slash → Slash → Part → Part → Bool
ones_apart s r (One x) (One y) = sets_apart s r x y
ones_apart s r _ _ = false

abbrev pub chars_parts : List Ch → List Part
chars_parts cs = map char_part cs
