-- A cheap test that most hosts' names fail: their first characters differ from the name before any special one. It
-- is. Only proofs of bodies use these.
use Rattle.std.specs.Prelude.{ℕ, Bool, true, false, ◌||◌, ◌==◌, if◌then◌else◌, List, [], ◌∷◌}
use Rattle.sudo_text.specs.declared.token.Ch.{Ch}
use Rattle.sudo_match.specs.Class.{lower}
use Rattle.sudo_match.specs.Beginnings.{is_special}

-- without regard to case, a character differs from the byte at its index before any special character and any dot
unfoldable pub is_named_otherwise : List Ch → List ℕ → Bool
is_named_otherwise [] name = false
is_named_otherwise (c ∷ cs) [] = false
is_named_otherwise (c ∷ cs) (b ∷ name) =
    if is_special c || b == 46 then false
    else if lower b == lower c.byte then is_named_otherwise cs name
    else true
