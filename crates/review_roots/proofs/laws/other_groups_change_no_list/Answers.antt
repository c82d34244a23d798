use Rattle.review_roots.proofs.GroupLemmas.{other_groups}
use Rattle.review_roots.proofs.laws.other_groups_change_no_list.Goals as goal

pub returns : goal.returns
returns c = other_groups
