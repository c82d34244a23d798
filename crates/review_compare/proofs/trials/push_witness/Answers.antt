use Rattle.std.proofs.Common.{List, All, subst, sym}
use Rattle.std.proofs.lemmas.List.Elements.{All-push}
use Rattle.review_compare.specs.declared.witness.Witness.{Witness}
use Rattle.review_compare.specs.Body.Shown.{IsShownWitness}
use Rattle.review_compare.proofs.trials.push_witness.Goals as goal

pub returns-in_ok-push : goal.returns-in_ok-push
returns-in_ok-push c = λ all.
    let t = c.args.trial.now in
    subst (λ (ws : List Witness). All (IsShownWitness t.old_rows.now t.new_rows.now) ws) (sym c.in_ok-push.ensures.items)
    (All-push (IsShownWitness t.old_rows.now t.new_rows.now) c.args.found.now.items c.args.witness all c.requires)
