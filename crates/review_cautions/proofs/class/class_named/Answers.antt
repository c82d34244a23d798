use Rattle.review_cautions.proofs.Naming.{found_by_name}
use Rattle.review_cautions.proofs.class.class_named.Goals as goal

pub returns : goal.returns
returns c = found_by_name c.args.name.now c.first_class.result c.first_class.ensures
