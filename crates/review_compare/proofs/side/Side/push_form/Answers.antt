use Rattle.std.proofs.Common.{List, ℕ, subst, sym}
use Rattle.review_compare.specs.Body.Whoever.{HasForm}
use Rattle.review_compare.proofs.WhoeverLemmas.{form-kept}
use Rattle.review_compare.proofs.side.Side.push_form.Goals as goal

pub returns-in_ok-push-clause-kept : goal.returns-in_ok-push-clause-kept
returns-in_ok-push-clause-kept c = λ i has.
    let p = c.args.self.now.checked.now in
    let bs = c.args.self.now.blocks.items in
    subst (λ (fs : List ℕ). HasForm p bs fs i) (sym c.in_ok-push.ensures.items)
    (form-kept p bs c.args.forms.now.items i c.args.index has)
