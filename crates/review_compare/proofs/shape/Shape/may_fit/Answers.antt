use Rattle.std.proofs.Common.{◌∙◌, ap, sym}
use Rattle.std.specs.Prelude.{option_map}
use Rattle.review_compare.proofs.CaseSteps.{missed-command}
use Rattle.review_compare.proofs.shape.Shape.may_fit.Goals as goal

pub returns-in-Command-Some : goal.returns-in-Command-Some
returns-in-Command-Some c = λ e x.
    let self = c.args.self.now in
    let arm = c.in-Command-Some in
    missed-command self.atom _ _ self.path.items self.is_simple arm.text.items c.as_slice.result.now c.args.command.now c.eq.result
    arm.is-0 self.path_is self.simple_is c.if-self.true (sym self.path_text_is ∙ ap (option_map (λ v. v.items)) arm.is-1)
    c.as_slice.ensures.value c.eq.ensures e x
