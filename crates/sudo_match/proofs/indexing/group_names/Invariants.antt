use Rattle.sudo_match.specs.KnownRows.{groups_of}
use Rattle.sudo_match.proofs.GroupLemmas.{GroupsRead}
use Rattle.sudo_match.proofs.indexing.group_names.Given as goal

abbrev pub invariant-loop-at : goal.invariant-loop-at
invariant-loop-at l = GroupsRead (groups_of l.people) l.at l.names l.ids
