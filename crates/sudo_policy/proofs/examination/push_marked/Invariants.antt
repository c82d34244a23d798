use Rattle.std.proofs.Common.{◌≡◌, ◌++◌, map}
use Rattle.std.specs.List.{items_where_true}
use Rattle.sudo_policy.specs.Found.{finding_on}
use Rattle.sudo_policy.specs.Body.DefinitionRef.{alias_view}
use Rattle.sudo_policy.proofs.examination.push_marked.Given as goal

abbrev pub invariant-loop-alias : goal.invariant-loop-alias
invariant-loop-alias l = l.findings.items ++ map (finding_on l.class) (items_where_true l.alias-iterator.b.rest.now
    (map alias_view l.alias-iterator.a.rest.now)) ≡ l.initial.findings.items ++ map (finding_on l.class)
    (items_where_true l.marks (map alias_view l.aliases))
