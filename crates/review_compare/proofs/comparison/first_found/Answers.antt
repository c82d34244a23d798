use Rattle.std.proofs.Common.{All, List, ℕ, subst, sym}
use Rattle.std.proofs.lemmas.List.Elements.{All-push}
use Rattle.review_compare.specs.declared.comparison.Comparison.{Comparison}
use Rattle.review_compare.specs.Body.Chosen.{chosen}
use Rattle.review_compare.specs.Body.Comparisons.{IsRight}
use Rattle.review_compare.specs.Witnesses.{IsCompared}
use Rattle.review_compare.proofs.comparison.first_found.Goals as goal

pub returns : goal.returns
returns c =
    let p = c.args.pair.now in
    let old = chosen p.parts.old.items c.args.old.items in
    let new = chosen p.parts.new.items c.args.new.items in
    let k : Comparison = record { old = c.args.old; new = c.args.new; found = c.in_ok-found.found } in
    let is = subst (λ (is : List ℕ). IsCompared (chosen p.parts.old.items is) new c.in_ok-found.found) c.deref.ensures.value
    (subst (λ (is : List ℕ). IsCompared (chosen p.parts.old.items c.deref.result.now) (chosen p.parts.new.items is) c.in_ok-found.found)
    c.deref-2.ensures.value c.in_ok-found.ensures) in
    record {
      found = c.in_ok-copy.ensures old new is;
      right = subst (λ (ks : List Comparison). All (IsRight p) ks) (sym c.in_ok-push.ensures)
          (All-push (IsRight p) c.trim.new.self.all.items k (c.trim.ensures p c.requires) is);
    }
