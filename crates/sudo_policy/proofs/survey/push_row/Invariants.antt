use Rattle.std.proofs.Common.{◌≡◌, ◌++◌, drop}
use Rattle.sudo_policy.specs.Body.DefinitionRef.{row_of}
use Rattle.sudo_policy.proofs.survey.push_row.Given as goal

abbrev pub invariant-loop-member : goal.invariant-loop-member
invariant-loop-member l =
    l.row.items ++ row_of l.index l.kind (drop l.member-index l.members)
    ≡ l.initial.row.items ++ row_of l.index l.kind l.members
