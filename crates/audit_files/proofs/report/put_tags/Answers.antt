use Rattle.std.proofs.Common.{◌≡◌, List, [], ◌∷◌, zip, refl, sym, ◌∙◌, inl, inr}
use Rattle.std.proofs.lemmas.Slice.Zip.{either_empty_from_Zip}
use Rattle.audit_files.proofs.report.put_tags.Goals as goal

zip-none : {K : Type 0} (X : Type 0) (ks : List K) → zip {K = K} {X = X} ks [] ≡ []
zip-none X [] = refl
zip-none X (k ∷ ks) = refl

pub returns : goal.returns
returns c = elim (either_empty_from_Zip c.loop-pair.pair-iterator c.next.new.self c.next.result c.in-None.is c.next.ensures.steps) [
  | inl e ↦ sym (c.loop-pair.invariant ∙ rw e refl)
  | inr e ↦ sym (c.loop-pair.invariant ∙ rw (e, zip-none) refl)
]
