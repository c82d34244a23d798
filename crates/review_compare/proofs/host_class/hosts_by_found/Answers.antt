use Rattle.review_compare.proofs.FoundLemmas.{class-found-on}
use Rattle.review_compare.proofs.host_class.hosts_by_found.Goals as goal

pub loop-class-preserved : goal.loop-class-preserved
loop-class-preserved c =
    class-found-on c.args.classes.now c.loop-class.class-index c.args.index c.class-item.result c.loop-class.groups.items
    c.add_class_hosts.new.groups.items c.loop-class-test.true c.class-item.is c.loop-class.invariant c.in_ok-add_class_hosts.ensures
