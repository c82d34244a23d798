-- The output of `cautions`, of `report` and of `rules`.
use Rattle.std.specs.Prelude.{◌≡◌, ℕ, List, Ok}
use Rattle.sudo_grammar.specs.declared.policy.Policy.{Policy}
use Rattle.sudo_load.specs.declared.supply.Supply.{Supply}
use Rattle.audit_collect.specs.declared.report.Report.{Report}
use Rattle.audit_commands.specs.Auditing.{Given, IsAnswer}
use Rattle.run_base.specs.Holding.{Holdings}
use Rattle.run_base.specs.Loading.{IsLoadedFrom}
use Rattle.review_cautions.specs.Cautions.{AreCautionsOn}
use Rattle.review_cautions.specs.ListTests.{usual_links}
use Rattle.review_cautions.specs.declared.caution.Caution.{Caution}
use Rattle.review_cautions.specs.declared.class.CautionClass.{CautionClass}
use Rattle.review_cautions.specs.declared.link.Link.{Link}
use Rattle.review_commands.specs.CautionLines.{cautions_status, cautions_text, kept_cautions, notice_text}
use Rattle.review_commands.specs.FileTexts.{texts_of}
use Rattle.review_subjects.specs.Counts.{rule_counts}
use Rattle.review_commands.specs.Rows.{report_text}
use Rattle.review_commands.specs.SubjectRows.{rules_text}
use Rattle.review_commands.specs.declared.report.Form.{Form}
use Rattle.review_commands.specs.declared.report.Form.TheVariants as forms

-- these are the cautions on the policy to which the file at a path unfolds, by the texts that were read for it, on a machine
-- that has these links
pub record AreCautionsBy (links : List Link) (held : Holdings) (path : List ℕ) (policy : Policy) (found : List Caution)
    : Type 0 where
  pub main : List ℕ
  pub handed : List Supply
  pub loaded : IsLoadedFrom held path main handed policy
  pub found_are : AreCautionsOn links (texts_of main handed policy.files) policy found

-- the same on a machine that has the usual links
abbrev pub AreCautions : Holdings → List ℕ → Policy → List Caution → Type 0
AreCautions = AreCautionsBy usual_links

-- the output of `cautions` and its status, for the policy that the file at a path unfolds to, on a machine that has these
-- links, without these classes
pub record IsCautioned (held : Holdings) (path : List ℕ) (links : List Link) (without : List CautionClass) (text : List ℕ)
    (status : ℕ) : Type 0 where
  pub policy : Policy
  pub found : List Caution
  pub are : AreCautionsBy links held path policy found
  pub text_is : text ≡ cautions_text policy.files (kept_cautions without found)
  pub status_is : status ≡ cautions_status (kept_cautions without found)

-- the text of the report of an audit under a policy, in each of its forms
abbrev pub text_in : Form → Policy → Report → List ℕ
text_in forms.Requests policy report = report_text policy report
text_in forms.Rules policy report = rules_text policy (rule_counts policy report)

-- the output of `report` and of `rules`, with status 0: the text of the report of an audit, and the line of the cautions on
-- its policy
pub record IsReviewed (given : Given) (form : Form) (text notice : List ℕ) (status : ℕ) : Type 0 where
  pub policy : Policy
  pub report : Report
  pub found : List Caution
  pub answer : IsAnswer given policy (Ok report)
  pub are : AreCautions given.held given.path policy found
  pub text_is : text ≡ text_in form policy report
  pub notice_is : notice ≡ notice_text found
  pub status_is : status ≡ 0
