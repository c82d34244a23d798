-- The output of `report` and of `rules`. Only proofs of bodies use these.
use Rattle.std.specs.Prelude.{◌≡◌, ℕ, List, Result, Ok}
use Rattle.audit_collect.specs.declared.report.Report.{Report}
use Rattle.audit_commands.specs.declared.fault.ReportFault.{ReportFault}
use Rattle.sudo_grammar.specs.declared.policy.Policy.{Policy}
use Rattle.review_cautions.specs.Cautions.{AreCautionsOn}
use Rattle.review_cautions.specs.ListTests.{usual_links}
use Rattle.review_cautions.specs.declared.caution.Caution.{Caution}
use Rattle.review_commands.specs.CautionLines.{notice_text}
use Rattle.review_commands.specs.Reviewing.{text_in}
use Rattle.review_commands.specs.declared.report.Form.{Form}

-- the text for a report under a policy, in a form
pub record IsPrintedReview (policy : Policy) (form : Form) (answered : Result Report ReportFault) (text : List ℕ) : Type 0 where
  pub report : Report
  pub is_report : answered ≡ Ok report
  pub text_is : text ≡ text_in form policy report

-- the line of the cautions on a policy whose files have these texts, on a machine that has the usual links
pub record IsNoticeOn (texts : List (List ℕ)) (policy : Policy) (line : List ℕ) : Type 0 where
  pub found : List Caution
  pub are : AreCautionsOn usual_links texts policy found
  pub line_is : line ≡ notice_text found
