use Rattle.std.proofs.Common.{◌∙◌, [], List, ap, option_copied, subst, sym}
use Rattle.std.specs.Prelude.{slice_get}
use Rattle.sudo_match.specs.declared.people.Machine.{Machine}
use Rattle.review_compare.specs.declared.row.Row.{Row}
use Rattle.review_compare.specs.Body.Progress.{IsForAsked, Progress}
use Rattle.review_compare.proofs.DifferenceLemmas.{first-none, no-hosts}
use Rattle.review_compare.proofs.differences.rows_for.Goals as goal

pub returns-in-None : goal.returns-in-None
returns-in-None c =
    let p = c.args.pair.now in
    let scope = option_copied c.args.scope in
    record {
      all = subst (λ (rows : List Row). Progress p [] rows (IsForAsked p scope c.args.user c.args.asks.now.all.items))
          (sym c.new.ensures.items) (no-hosts p scope c.args.user c.args.asks.now.all.items (first-none p.directory.now.machines
          (ap (λ (ms : List Machine). slice_get ms 0) (sym c.machines.ensures) ∙ sym c.first.ensures.value
          ∙ ap option_copied c.in-None.is)));
      right = c.requires.right;
    }
