-- The output of `expand`: cvtsudoers(1), aliases written out, with what stands in a form's place as a policy has it.
use Rattle.std.specs.Prelude.{◌≡◌, ℕ, List, [], ◌∷◌, ◌++◌, Option, None, Some, flat_map}
use Rattle.sudo_grammar.specs.declared.kind.Kind.{Kind}
use Rattle.sudo_grammar.specs.declared.kind.Member.{Member}
use Rattle.sudo_grammar.specs.declared.kind.Signed.{Signed}
use Rattle.sudo_grammar.specs.declared.policy.Policy.{Policy}
use Rattle.sudo_grammar.specs.declared.kind.Atom.{Atom}
use Rattle.sudo_grammar.specs.declared.kind.Atom.TheVariants as atoms
use Rattle.sudo_parser.specs.Texts.{atom_text, command_text}
use Rattle.sudo_policy.specs.Definitions.{in_force}
use Rattle.sudo_policy.specs.Written.{IsWrittenOut}
use Rattle.audit_commands.specs.FaultLines.{expansion_explained}
use Rattle.audit_commands.specs.Faults.{expansion_status}
use Rattle.audit_commands.specs.declared.fault.ExpansionFault.{ExpansionFault}
use Rattle.run_base.specs.Endings.{Notices, notices}
use Rattle.run_base.specs.Holding.{Holdings}
use Rattle.run_base.specs.Loading.{IsChecked}
use Rattle.review_cautions.specs.declared.caution.Caution.{Caution}
use Rattle.review_texts.specs.Masks.{as_written}
use Rattle.review_texts.specs.Notes.{note_in, note_name}
use Rattle.review_texts.specs.declared.note.Note.{Note}
use Rattle.review_grants.specs.GrantRows.{sign_text}
use Rattle.review_commands.specs.CautionLines.{notice_text, program_name}
use Rattle.review_commands.specs.Reviewing.{AreCautions}

-- the text of a member without its sign: of a command as a policy has it
abbrev pub shown_text : Atom → List ℕ
shown_text (atoms.Command path args) = as_written (command_text path args)
shown_text atom = atom_text atom

-- the line of a note, as a comment before the command that it is about (35 is `#`)
abbrev pub note_line : Note → List ℕ
note_line note = 35 ∷ 32 ∷ note_name note ++ 10 ∷ []

-- the line of a member, by the note for which it stands, if it does
abbrev pub line_by : Option Note → Signed → List ℕ
line_by (Some note) member = note_line note
line_by None member = (sign_text member.negated ++ shown_text member.atom) ++ 10 ∷ []

abbrev pub shown_line : Signed → List ℕ
shown_line member = line_by (note_in member.atom) member

-- the lines of an alias of a policy, with status 0: its definition in force, written out
pub record AreShownLines (policy : Policy) (kind : Kind) (name text : List ℕ) (status : ℕ) : Type 0 where
  pub members : List Member
  pub atoms : List Signed
  pub defined : in_force kind policy name ≡ Some members
  pub written : IsWrittenOut kind policy members atoms
  pub text_is : text ≡ flat_map shown_line atoms
  pub status_is : status ≡ 0

-- the output of `expand`: the lines of an alias of the policy that the file at a path unfolds to, which passes the
-- check, and the line of the cautions on it
pub record IsShown (held : Holdings) (path : List ℕ) (kind : Kind) (name text notice : List ℕ) (status : ℕ) : Type 0 where
  pub policy : Policy
  pub found : List Caution
  pub checked : IsChecked held path policy
  pub are : AreCautions held path policy found
  pub lines : AreShownLines policy kind name text status
  pub notice_is : notice ≡ notice_text found

-- what `expand` prints for its faults
abbrev pub expand_notices : Notices ExpansionFault
expand_notices = notices expansion_status expansion_explained program_name
