use Rattle.std.proofs.Common.{◌≡◌, ◌++◌, map, drop}
use Rattle.std.specs.Prelude.{flat_map}
use Rattle.sudo_policy.specs.Definitions.{section_lists, list_view}
use Rattle.sudo_policy.proofs.survey.push_sections.Given as goal

abbrev pub invariant-loop-section : goal.invariant-loop-section
invariant-loop-section l = map list_view l.all.items ++ flat_map (section_lists l.place)
    (drop l.section-index l.sections) ≡ map list_view l.initial.all.items ++ flat_map (section_lists l.place) l.sections
