-- The slashes that a pattern writes. sudoers(5), "Wildcards".
use Rattle.std.specs.Prelude.{Bool, false, ◌==◌}
use Rattle.sudo_match.specs.Pattern.{Part, One, Star, Only, AnyByte, Bracket}

-- a part that fits the byte `/` alone
abbrev pub is_slash_part : Part → Bool
is_slash_part Star = false
is_slash_part (One (Only b)) = b == 47
is_slash_part (One AnyByte) = false
is_slash_part (One (Bracket complement items)) = false
