-- The last of a list. sudoers(5): where several entries match, the last match is used.
use Rattle.std.specs.Prelude.{Bool, cond, List, [], ◌∷◌, Option, Some, None}
use Rattle.std.specs.Option.{option_or}

-- the last item that passes the test
abbrev pub last_that : {X : Type 0} → (X → Bool) → List X → Option X
last_that f [] = None
last_that f (x ∷ xs) = option_or (last_that f xs) (cond (f x) (Some x) None)

-- the last value that is present
abbrev pub last_set : {X : Type 0} → List (Option X) → Option X
last_set [] = None
last_set (o ∷ os) = option_or (last_set os) o
