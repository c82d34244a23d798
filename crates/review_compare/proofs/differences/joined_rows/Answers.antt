use Rattle.std.proofs.Common.{◌∙◌, ◌++◌, ◌∷◌, [], ap, append_assoc, option_copied, sym}
use Rattle.review_compare.proofs.PartLemmas.{parts-more}
use Rattle.review_compare.proofs.differences.joined_rows.Goals as goal

pub loop-part-preserved : goal.loop-part-preserved
loop-part-preserved c =
    let yielded = c.loop-part.yielded in
    let whole = append_assoc yielded (c.in-Some.part ∷ []) _ ∙ ap (λ xs. yielded ++ xs) (sym c.in-Some.ensures.steps.0)
    ∙ c.loop-part.invariant.rest in
    record {
      can_next = tt;
      is_finite = tt;
      rest = whole;
      done = parts-more c.args.pair.now c.loop-part.rows.items c.in_ok-part.field-0 c.absorb_all.new.rows.items
          (option_copied c.args.scope.user) (option_copied c.args.scope.host) c.args.size c.args.asks.now.all.items
          c.args.parts.items yielded c.in-Some.part _ c.requires whole c.in_ok-part.was c.loop-part.invariant.done
          c.in_ok-absorb_all.ensures;
    }
