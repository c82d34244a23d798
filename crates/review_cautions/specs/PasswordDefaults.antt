-- Whether a `Defaults` line decides for sudo whether a password is asked, and whose. sudoers(5), "SUDOERS OPTIONS".
use Rattle.std.specs.Prelude.{ℕ, Bool, List, [], ◌∷◌, codes}
use Rattle.std.specs.List.{list_any}
use Rattle.std.specs.Str.{bytes_eq}
use Rattle.sudo_grammar.specs.declared.policy.Policy.{Policy}
use Rattle.review_cautions.specs.Cautions.{defaults_cautions}

-- the parameters of this name are about passwords
abbrev pub asks_password : List ℕ → Bool
asks_password name = list_any (bytes_eq name) (codes "authenticate" ∷ codes "targetpw" ∷ codes "rootpw" ∷ codes "runaspw"
    ∷ codes "exempt_group" ∷ [])

-- a parameter that changes for sudo what a rule grants is about passwords
abbrev pub decides_passwords : Policy → Bool
decides_passwords p = list_any (λ c. asks_password c.subject) (defaults_cautions p.entries)
