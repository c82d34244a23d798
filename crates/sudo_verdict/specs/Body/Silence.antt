-- Tests that no atom passes under which a rule is posted, and the parts of the rule that then decide nothing; only
-- proofs of bodies need these definitions.
use Rattle.std.specs.Prelude.{◌≡◌, ℕ, Bool, true, false, ◌||◌, List, [], ◌∷◌, None, slice_get, Some}
use Rattle.sudo_grammar.specs.declared.kind.Atom.{Atom}
use Rattle.sudo_grammar.specs.declared.kind.Kind.TheVariants as kind
use Rattle.sudo_grammar.specs.declared.policy.CommandSpec.{CommandSpec}
use Rattle.sudo_grammar.specs.declared.policy.Section.{Section}
use Rattle.sudo_grammar.specs.declared.policy.Entry.{Entry}
use Rattle.sudo_grammar.specs.declared.policy.Policy.{Policy}
use Rattle.sudo_verdict.specs.Decided.{list_decision}
use Rattle.sudo_verdict.specs.Found.{entry_found}
use Rattle.sudo_verdict.specs.Questions.{Question}
use Rattle.sudo_verdict.specs.Postings.{Rows, is_in_row, misses_user, misses_command}
use Rattle.sudo_verdict.specs.Body.Numbers.{atom_number}

-- the rule is not posted for everyone, and no atom under which it is posted passes the test
pub record IsSilent (rows : Rows) (rule : ℕ) (test : Atom → Bool) : Type 0 where
  pub everyone : is_in_row rows 0 rule ≡ false
  pub atoms : (a : Atom) → is_in_row rows (atom_number a) rule ≡ true → test a ≡ false

-- none of these commands decides
abbrev pub CommandsSilent : Policy → (Atom → Bool) → List CommandSpec → Type 0
CommandsSilent p test commands =
    (k : ℕ) (c : CommandSpec) → slice_get commands k ≡ Some c → list_decision kind.Cmnd p (c.command ∷ []) test ≡ None

-- no command of these sections decides
abbrev pub SectionsSilent : Policy → (Atom → Bool) → List Section → Type 0
SectionsSilent p test sections =
    (k : ℕ) (s : Section) → slice_get sections k ≡ Some s → CommandsSilent p test s.commands

-- the entry decides nothing if it is in no row of the user, or in none of the command
abbrev pub EntrySilent : Policy → Rows → Rows → ℕ → Entry → Type 0
EntrySilent p users commands rule e =
    (q : Question) → (misses_user users rule q.user || misses_command commands rule q.command) ≡ true → entry_found p q e ≡ None
