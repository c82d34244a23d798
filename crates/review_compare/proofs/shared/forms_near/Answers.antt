use Rattle.std.proofs.Common.{List, ℕ, subst}
use Rattle.review_compare.specs.Body.Whoever.{AreForms}
use Rattle.review_compare.proofs.shared.forms_near.Goals as goal

pub returns : goal.returns
returns c =
    let p = c.args.pair.now in
    record {
      old = subst (λ (is : List ℕ). AreForms p.old.checked.now p.old.blocks.items is c.in_ok-old.old.items) c.deref.ensures.value
          c.in_ok-old.ensures;
      new = subst (λ (is : List ℕ). AreForms p.new.checked.now p.new.blocks.items is c.in_ok-new.new.items) c.deref-2.ensures.value
          c.in_ok-new.ensures;
    }
