use Rattle.std.proofs.Common.{◌≡◌, ◌∙◌, IfOk, ap, subst, sym}
use Rattle.std.proofs.lemmas.Result.{IfOk-weaker}
use Rattle.sudo_grammar.specs.declared.policy.Policy.{Policy}
use Rattle.sudo_verdict.specs.Verdicts.{verdict_of}
use Rattle.review_grants.specs.Depends.{depends_text}
use Rattle.review_compare.specs.Cases.{cases_of, notes_of, policy_of, same_cases}
use Rattle.review_program.proofs.change_rows.dependence.Goals as goal

pub compared_request-requires-clause-before : goal.compared_request-requires-clause-before
compared_request-requires-clause-before c =
    c.requires.old ∙ sym (ap (λ (p : Policy). verdict_of p c.args.judges.directory.now c.args.answer.now.request) c.requires.before)

pub compared_request-requires-clause-after : goal.compared_request-requires-clause-after
compared_request-requires-clause-after c =
    c.requires.new ∙ sym (ap (λ (p : Policy). verdict_of p c.args.judges.directory.now c.args.answer.now.request) c.requires.after)

pub returns-clause-is_same : goal.returns-clause-is_same
returns-clause-is_same c =
    let d = c.args.judges.directory.now in
    let r = c.args.answer.now.request in
    IfOk-weaker c.compared_request.result _ _
    (λ found is. is ∙ ap (λ (p : Policy). same_cases (cases_of p d r) (cases_of (policy_of c.args.after.now) d r)) c.requires.before
    ∙ ap (λ (p : Policy). same_cases (cases_of c.args.judges.old.now d r) (cases_of p d r)) c.requires.after)
    c.compared_request.ensures.is_same

pub returns-clause-marks : goal.returns-clause-marks
returns-clause-marks c =
    let d = c.args.judges.directory.now in
    let r = c.args.answer.now.request in
    IfOk-weaker c.compared_request.result _ _
    (λ found is. ap depends_text (is
    ∙ ap (λ (p : Policy). notes_of p (policy_of c.args.after.now) (cases_of p d r) (cases_of (policy_of c.args.after.now) d r))
    c.requires.before
    ∙ ap (λ (p : Policy). notes_of c.args.judges.old.now p (cases_of c.args.judges.old.now d r) (cases_of p d r)) c.requires.after))
    c.compared_request.ensures.marks
