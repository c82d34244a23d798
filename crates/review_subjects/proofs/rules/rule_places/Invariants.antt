use Rattle.std.proofs.Common.{◌≡◌, ◌++◌, drop, flat_map}
use Rattle.sudo_grammar.specs.declared.policy.Entry.{Entry}
use Rattle.review_subjects.specs.Counts.{rule_place}
use Rattle.review_subjects.proofs.rules.rule_places.Given as goal

abbrev pub invariant-loop-entry : goal.invariant-loop-entry
invariant-loop-entry l =
    l.found.items ++ flat_map (λ (e : Entry). rule_place e.place e.body) (drop l.entry-index l.entries)
    ≡ flat_map (λ (e : Entry). rule_place e.place e.body) l.entries
