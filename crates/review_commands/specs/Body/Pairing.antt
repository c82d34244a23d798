-- Steps of the input of a comparison. Only proofs of bodies use these.
use Rattle.std.specs.Prelude.{◌≡◌, ◌≢◌, ⊤, ℕ, List}
use Rattle.run_base.specs.Holding.{Holdings}
use Rattle.run_base.specs.Loading.{IsNotChecked}
use Rattle.run_base.specs.declared.fault.PolicyFault.TheVariants as policies
use Rattle.sudo_grammar.specs.declared.policy.Policy.{Policy}
use Rattle.review_cautions.specs.Cautions.{AreCautionsOn}
use Rattle.review_cautions.specs.ListTests.{usual_links}
use Rattle.review_cautions.specs.declared.caution.Caution.{Caution}
use Rattle.review_commands.specs.CautionLines.{pair_notice, path_notice}
use Rattle.review_commands.specs.declared.fault.TableFault.{TableFault}
use Rattle.review_commands.specs.declared.fault.TableFault.TheVariants as tables

-- why a policy does not pass: it is refused or has errors, or memory failed
abbrev pub IsNotPassing : Holdings → List ℕ → TableFault → Type 0
IsNotPassing held path (tables.Policy fault) = (fault ≢ policies.Memory) × IsNotChecked held path fault
IsNotPassing held path tables.Memory = ⊤
IsNotPassing held path (tables.Directory fault) = ⊥
IsNotPassing held path (tables.NoSuchUser name) = ⊥
IsNotPassing held path (tables.NoSuchHost name) = ⊥

-- the line of the cautions on a policy, by the path of its main file, whose files have these texts, on a machine that has the usual
-- links
pub record IsPathNotice (path : List ℕ) (texts : List (List ℕ)) (policy : Policy) (line : List ℕ) : Type 0 where
  pub found : List Caution
  pub are : AreCautionsOn usual_links texts policy found
  pub line_is : line ≡ path_notice path found

-- the lines of both
pub record ArePathNotices (old_path : List ℕ) (old_texts : List (List ℕ)) (old : Policy) (new_path : List ℕ)
    (new_texts : List (List ℕ)) (new : Policy) (lines : List ℕ) : Type 0 where
  pub old_found : List Caution
  pub new_found : List Caution
  pub old_are : AreCautionsOn usual_links old_texts old old_found
  pub new_are : AreCautionsOn usual_links new_texts new new_found
  pub lines_are : lines ≡ pair_notice old_path old_found new_path new_found
