use Rattle.std.proofs.Common.{◌≡◌, ◌++◌, flat_map, option_copied, take}
use Rattle.review_grants.specs.Body.Heads.{rows_on}
use Rattle.review_grants.proofs.rows.push_sections.Given as goal

-- the sections so far were written
abbrev pub invariant-loop-section : goal.invariant-loop-section
invariant-loop-section l = l.text.items ≡ l.fn.text.items
    ++ flat_map (rows_on l.table.checked.now l.table.directory.now (option_copied l.table.scope.host) l.head l.depends)
    (take l.section-index l.sections)
