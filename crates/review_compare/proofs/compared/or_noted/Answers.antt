use Rattle.review_compare.proofs.UnsettledLemmas.{noted-or-none}
use Rattle.review_compare.proofs.compared.or_noted.Goals as goal

pub returns-in-None : goal.returns-in-None
returns-in-None c = noted-or-none c.args.rows.now c.args.overlap c.args.own c.last_noted.result c.in-None.is c.last_noted.ensures
