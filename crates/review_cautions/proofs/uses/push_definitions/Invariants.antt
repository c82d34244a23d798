use Rattle.std.proofs.Common.{◌≡◌, ◌++◌, map, drop}
use Rattle.sudo_grammar.specs.declared.policy.Definition.{Definition}
use Rattle.review_cautions.specs.Body.UnusedNames.{has_name}
use Rattle.review_cautions.proofs.uses.push_definitions.Given as goal

abbrev pub invariant-loop-definition : goal.invariant-loop-definition
invariant-loop-definition l =
    l.marks.items ++ map (λ (d : Definition). has_name l.unused l.kind d.name) (drop l.definition-index l.definitions)
    ≡ l.initial.marks.items ++ map (λ (d : Definition). has_name l.unused l.kind d.name) l.definitions
