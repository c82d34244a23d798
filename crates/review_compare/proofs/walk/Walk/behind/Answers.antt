use Rattle.std.proofs.Common.{◌≡◌, ◌∙◌, ap, Bool, refl, sym}
use Rattle.std.specs.Prelude.{◌||◌}
use Rattle.review_compare.proofs.LineLemmas.{walk-behind}
use Rattle.review_compare.proofs.walk.Walk.behind.Goals.{else-self-2, then-self-2}
use Rattle.review_compare.proofs.walk.Walk.behind.Goals as goal

pub returns : goal.returns
returns c =
    let noted : c.if-self-2.result ≡ (c.args.self.noted || c.args.note) =
    elim c.if-self-2.branch [
      | then-self-2 w ↦ w.result-is ∙ w.if-self-2.true ∙ sym (ap (λ (b : Bool). b || c.args.note) w.if-self-2.true)
      | else-self-2 w ↦ w.result-is ∙ sym (ap (λ (b : Bool). b || c.args.note) w.if-self-2.false)
    ] in
    λ l a rest own is. walk-behind c.args.self _ c.args.note refl refl refl noted l a rest own is
