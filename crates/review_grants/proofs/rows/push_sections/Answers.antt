use Rattle.std.proofs.Common.{option_copied}
use Rattle.review_grants.specs.Body.Heads.{rows_on}
use Rattle.review_grants.proofs.ListSteps.{flat_map-next}
use Rattle.review_grants.proofs.rows.push_sections.Goals as goal

pub loop-section-preserved : goal.loop-section-preserved
loop-section-preserved c = flat_map-next (rows_on c.args.table.checked.now c.args.table.directory.now
    (option_copied c.args.table.scope.host) c.args.head.now c.args.depends.now) c.args.sections.now c.loop-section.section-index
    c.section-item.result c.args.text.now.items c.loop-section.text.items _ c.loop-section-test.true c.section-item.is
    c.loop-section.invariant c.in_ok-push_for_host.ensures
