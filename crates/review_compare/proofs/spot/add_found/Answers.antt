use Rattle.sudo_base.proofs.Options.{on_ok}
use Rattle.review_compare.proofs.SpotLemmas.{adds-row}
use Rattle.review_compare.proofs.spot.add_found.Goals as goal

pub returns : goal.returns
returns c =
    on_ok c.absorb.result
    (λ absorbs asks. adds-row asks c.args.rows.now.items c.absorb.new.rows.items c.args.user c.args.hosts.now c.args.asked.now
    c.args.found.now _ c.in_ok-row.row c.in_ok-row.ensures c.in_ok-copy.ensures absorbs)
    c.absorb.ensures
