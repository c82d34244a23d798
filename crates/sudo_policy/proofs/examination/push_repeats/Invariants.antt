use Rattle.std.proofs.Common.{◌≡◌, ◌++◌, map, drop}
use Rattle.sudo_policy.specs.declared.finding.Class.TheVariants.{Redefined}
use Rattle.sudo_policy.specs.Found.{finding_on}
use Rattle.sudo_policy.specs.Body.DefinitionRef.{alias_view}
use Rattle.sudo_policy.proofs.examination.push_repeats.Given as goal

abbrev pub invariant-loop-alias : goal.invariant-loop-alias
invariant-loop-alias l = l.findings.items ++ map (finding_on Redefined)
    (map alias_view (drop l.alias-index l.redefinitions)) ≡ l.initial.findings.items ++ map (finding_on Redefined)
    (map alias_view l.redefinitions)
