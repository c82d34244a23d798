use Rattle.std.proofs.Common.{◌≡◌, ◌++◌, drop}
use Rattle.std.specs.Prelude.{filter, is_some}
use Rattle.sudo_policy.specs.Body.DefinitionRef.{row_of}
use Rattle.sudo_policy.proofs.survey.push_roots.Given as goal

abbrev pub invariant-loop-member : goal.invariant-loop-member
invariant-loop-member l =
    l.roots.items ++ filter is_some (row_of l.index l.list.kind (drop l.member-index l.list.members.now))
    ≡ l.initial.roots.items ++ filter is_some (row_of l.index l.list.kind l.list.members.now)
