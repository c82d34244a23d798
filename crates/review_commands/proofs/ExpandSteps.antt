-- The contract of `expand` from those of its parts.
use Rattle.std.proofs.Common.{◌≡◌, ◌≤◌, ◌∙◌, ℕ, List, Result, Ok, Err, inl, inr, subst, sym, arith}
use Rattle.std.specs.Prelude.{IfErr, IfOk}
use Rattle.audit_commands.specs.Expanding.{IsNotExpanded}
use Rattle.audit_commands.specs.declared.fault.ExpansionFault.{ExpansionFault}
use Rattle.audit_commands.specs.declared.fault.ExpansionFault.TheVariants as faults
use Rattle.run_base.specs.Endings.{Notices, PrintsOrNoMemory, WriterStates}
use Rattle.run_base.specs.FaultLines.{write_line}
use Rattle.run_base.specs.Holding.{Holdings}
use Rattle.run_base.specs.Loading.{IsChecked, IsLoadedFrom}
use Rattle.run_base.specs.declared.run_output.RunOutput.{RunOutput}
use Rattle.sudo_grammar.specs.declared.kind.Kind.{Kind}
use Rattle.sudo_grammar.specs.declared.policy.Policy.{Policy}
use Rattle.sudo_load.specs.declared.supply.Supply.{Supply}
use Rattle.sudo_policy.specs.Checking.{Passes}
use Rattle.review_commands.specs.Body.Expanding.{IsNotShownOf}
use Rattle.review_commands.specs.Body.Reviewing.{IsNoticeOn}
use Rattle.review_commands.specs.Endings.{EndsNoted, IsNotedTable, Printing}
use Rattle.review_commands.specs.Expanding.{AreShownLines, IsShown}
use Rattle.review_commands.specs.FileTexts.{texts_of}
use Rattle.review_commands.specs.declared.ending.NotedOutput.{NotedOutput}
use Rattle.review_commands.proofs.ReportSteps.{checked_of}

-- the lines of an alias and their notice are the output
pub shown_of : (held : Holdings) (path main : List ℕ) (handed : List Supply) (policy : Policy) (kind : Kind) (name notice : List ℕ)
    (lines : Result RunOutput ExpansionFault) (r : Result NotedOutput ExpansionFault)
    → IsLoadedFrom held path main handed policy → Passes policy
    → IsNoticeOn (texts_of main handed policy.files) policy notice
    → IfOk lines (λ o. AreShownLines policy kind name o.text.items o.status) → IfOk r (λ p. IsNotedTable lines notice p)
    → IfOk r (λ p. IsShown held path kind name p.text.items p.notice.items p.status)
shown_of held path main handed policy kind name notice lines (Err fault) loaded passes is made noted = tt
shown_of held path main handed policy kind name notice lines (Ok p) loaded passes is made noted =
    let own : AreShownLines policy kind name noted.output.text.items noted.output.status =
    subst (λ t. IfOk t (λ o. AreShownLines policy kind name o.text.items o.status)) noted.is_output made in
    record {
      policy = policy;
      found = is.found;
      checked = checked_of held path main handed policy loaded passes;
      are = record { main = main; handed = handed; loaded = loaded; found_are = is.are };
      lines = subst (λ t. AreShownLines policy kind name t p.status) (sym noted.text_is)
          (subst (AreShownLines policy kind name noted.output.text.items) (sym noted.status_is) own);
      notice_is = noted.notice_is ∙ is.line_is;
    }

no_alias : (held : Holdings) (path : List ℕ) (kind : Kind) (name : List ℕ) (policy : Policy) (fault : ExpansionFault)
    → IsChecked held path policy → IsNotShownOf policy kind name fault → IsNotExpanded held path kind name fault
no_alias held path kind name policy (faults.NoSuchAlias alias) is h = (h.0, (policy, is, h.1))
no_alias held path kind name policy faults.Memory is h = tt
no_alias held path kind name policy (faults.Policy fault) is h = absurd h

-- the fault of the lines is one of the whole
pub not_shown_of : (held : Holdings) (path : List ℕ) (kind : Kind) (name : List ℕ) (policy : Policy)
    (lines : Result RunOutput ExpansionFault) (r : Result NotedOutput ExpansionFault) → IsChecked held path policy
    → IfErr lines (IsNotShownOf policy kind name) → IfErr r (λ fault. lines ≡ Err fault) → IfErr r (IsNotExpanded held path kind name)
not_shown_of held path kind name policy lines (Ok p) is not same = tt
not_shown_of held path kind name policy lines (Err fault) is not same =
    no_alias held path kind name policy fault is (subst (λ t. IfErr t (IsNotShownOf policy kind name)) same not)

told_most : (program : List ℕ) (own : ℕ) (line : List ℕ) (status : ℕ) (err : WriterStates) → own ≤ 4
    → PrintsOrNoMemory program own line status err → status ≤ 4
told_most program own line status err low told = elim told [
  | inl prints ↦ let is = prints.0 in omega (arith, is, low)
  | inr prints ↦ let is = prints.0 in omega (arith, is)
]

-- where what may be printed and each fault have a status of at most 4, so has the run
pub noted_most : {F : Type 0} (told : Notices F) (Good : Printing) (Bad : F → Type 0) (status : ℕ) (out err : WriterStates)
    → ((text notice : List ℕ) (own : ℕ) → Good text notice own → own ≤ 4) → ((fault : F) → told.status fault ≤ 4)
    → EndsNoted told Good Bad status out err → status ≤ 4
noted_most told Good Bad status out err most low ends = elim ends [
  | inl prints ↦ most prints.text prints.notice status prints.good
  | inr rest ↦ elim rest [
    | inl refuses ↦ told_most told.program (told.status refuses.fault) (told.printed refuses.fault) status err
        (low refuses.fault) refuses.printed_fault
    | inr loses ↦ told_most told.program 4 (write_line told.program loses.count) status err (omega arith) loses.printed_fault
  ]
]

pub shown_most : (held : Holdings) (path : List ℕ) (kind : Kind) (name text notice : List ℕ) (status : ℕ)
    → IsShown held path kind name text notice status → status ≤ 4
shown_most held path kind name text notice status is =
    let zero = is.lines.status_is in
    omega (arith, zero)
