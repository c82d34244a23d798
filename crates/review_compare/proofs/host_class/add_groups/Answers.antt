use Rattle.std.proofs.Common.{List, arith, subst, sym}
use Rattle.std.proofs.lemmas.List.{take_all}
use Rattle.review_compare.specs.declared.host_class.FoundHosts.{FoundHosts}
use Rattle.review_compare.specs.Body.AskClasses.{AreAsked}
use Rattle.review_compare.specs.Body.Classes.{AreRightOn, IsOnFound}
use Rattle.review_compare.specs.Body.Progress.{Progress, asking}
use Rattle.review_compare.proofs.FoundLemmas.{group-done}
use Rattle.review_compare.proofs.host_class.add_groups.Goals as goal

pub add_found_hosts-requires : goal.add_found_hosts-requires
add_found_hosts-requires c =
    subst (AreRightOn c.args.pair.now c.args.user c.args.asks.now) (sym c.group-item.is)
    (c.requires c.loop-group.group-index c.group-item.result c.loop-group-test.true)

pub loop-group-preserved : goal.loop-group-preserved
loop-group-preserved c =
    group-done c.args.pair.now c.args.rows.now.items c.loop-group.rows.items c.add_found_hosts.new.rows.items c.args.user
    (AreAsked (asking c.args.pair.now) c.args.asks.now.asked.items) c.args.groups.now c.loop-group.group-index c.group-item.result
    c.loop-group-test.true c.group-item.is c.loop-group.invariant c.in_ok-add_found_hosts.ensures

pub returns : goal.returns
returns c =
    let p = c.args.pair.now in
    subst (λ (hs : List FoundHosts). Progress p c.args.rows.now.items c.loop-group.rows.items (IsOnFound c.args.user hs
    (AreAsked (asking p) c.args.asks.now.asked.items)))
    (take_all c.loop-group.group-index c.args.groups.now (omega (arith, c.loop-group-test.false))) c.loop-group.invariant
