use Rattle.std.proofs.Common.{map}
use Rattle.review_roots.specs.Body.Naming.{trimmed}
use Rattle.review_roots.specs.KnownGroups.{list_names}
use Rattle.review_roots.proofs.NamingLemmas.{rows-more}
use Rattle.review_roots.proofs.naming.rows_by.Goals as goal

pub loop-group-preserved : goal.loop-group-preserved
loop-group-preserved c =
    rows-more (λ g. trimmed (map (λ v. list_names g v.items) c.args.lists.now)) c.args.groups.now c.loop-group.group-index
    c.group-item.result c.loop-group.rows.items c.in_ok-row_of.field-0 c.push.new.self.items c.loop-group-test.true c.group-item.is
    c.in_ok-row_of.ensures c.loop-group.invariant c.in_ok-push.ensures.items
