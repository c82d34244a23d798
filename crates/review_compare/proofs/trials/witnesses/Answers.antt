use Rattle.std.proofs.Common.{All, List, arith, subst, sym}
use Rattle.review_compare.specs.declared.witness.Witness.{Witness}
use Rattle.review_compare.specs.Body.Shown.{IsShownWitness}
use Rattle.review_compare.proofs.trials.witnesses.Goals as goal

pub returns : goal.returns
returns c =
    let t = c.args.trial.now in
    c.in_ok-try_rare.ensures (c.in_ok-try_blocks-2.ensures (c.in_ok-try_blocks.ensures
    (subst (λ (ws : List Witness). All (IsShownWitness t.old_rows.now t.new_rows.now) ws) (sym c.new-found.ensures.items)
    (λ i d less. absurd (omega (arith, less))))))
