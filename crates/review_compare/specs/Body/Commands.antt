-- The commands of a policy with notes; only proofs of bodies need these definitions.
use Rattle.std.specs.Prelude.{◌≡◌, Bool, true, List, map}
use Rattle.sudo_grammar.specs.declared.kind.Atom.{Atom}
use Rattle.sudo_grammar.specs.declared.policy.Policy.{Policy}
use Rattle.sudo_verdict.specs.Grants.{grants}
use Rattle.review_compare.specs.Cells.{wide_of}
use Rattle.review_compare.specs.Body.LineAtoms.{has_note, wide_atom}

-- a grant of the policy stands for a note
abbrev pub is_noted : Policy → Bool
is_noted p = has_note (map wide_of (grants p))

-- the commands of all grants, if one of them stands for a note
abbrev pub AreCommands : Policy → List Atom → Type 0
AreCommands p atoms = is_noted p ≡ true → atoms ≡ map wide_atom (map wide_of (grants p))
