use Rattle.review_subjects.proofs.Resolving.{entries_resolve}
use Rattle.review_subjects.proofs.collecting.subjects.Goals as goal

pub push_entries-requires : goal.push_entries-requires
push_entries-requires c = rw (c.as_slice.ensures, c.policy.ensures.value) (entries_resolve c.args.checked.now c.policy.ensures.sound)
