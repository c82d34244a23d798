-- Words that lack a path. Only proofs of bodies use these.
use Rattle.std.specs.Prelude.{◌≡◌, ◌⊎◌, List, codes, None}
use Rattle.clap.specs.Words.{Row, first_of}

-- the rows have no path of a policy, of users or of hosts
abbrev pub LackPaths : List Row → Type 0
LackPaths rows = (first_of (codes "file") rows ≡ None) ⊎ ((first_of (codes "users") rows ≡ None) ⊎ (first_of (codes "hosts") rows ≡ None))

-- the rows have no path of the old policy, of the new one, of users or of hosts
abbrev pub LackPair : List Row → Type 0
LackPair rows = (first_of (codes "old") rows ≡ None) ⊎ ((first_of (codes "new") rows ≡ None)
    ⊎ ((first_of (codes "users") rows ≡ None) ⊎ (first_of (codes "hosts") rows ≡ None)))

-- the rows have no path of a policy, of users, of hosts or of a command
abbrev pub LackCommand : List Row → Type 0
LackCommand rows = LackPaths rows ⊎ (first_of (codes "command") rows ≡ None)
