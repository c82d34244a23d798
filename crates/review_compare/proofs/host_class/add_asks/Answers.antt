use Rattle.std.proofs.Common.{All, List, subst, sym}
use Rattle.sudo_base.proofs.Options.{on_ok}
use Rattle.review_compare.specs.declared.host_class.FoundHosts.{FoundHosts}
use Rattle.review_compare.specs.Body.AskClasses.{AreAsked}
use Rattle.review_compare.specs.Body.Classes.{AreRightOn, IsOnFound}
use Rattle.review_compare.specs.Body.Progress.{Progress, asking}
use Rattle.review_compare.proofs.FoundLemmas.{groups-done, groups-right}
use Rattle.review_compare.proofs.host_class.add_asks.Goals as goal

pub add_groups-requires : goal.add_groups-requires
add_groups-requires c =
    subst (λ (hs : List FoundHosts). All (AreRightOn c.args.pair.now c.args.user c.args.asks.now) hs) (sym c.deref.ensures.value)
    (groups-right c.args.pair.now c.args.user c.args.person.now c.args.asked.now c.args.index c.args.asks.now c.args.classes.now
    c.in_ok-groups.groups.items c.requires.within c.requires.asks c.requires.classes c.in_ok-groups.ensures)

pub returns : goal.returns
returns c =
    let p = c.args.pair.now in
    let asked = AreAsked (asking p) c.args.asks.now.asked.items in
    let old = c.args.rows.now.items in
    let new = c.add_groups.new.rows.items in
    on_ok c.add_groups.result
    (λ done. groups-done p old new c.args.user c.args.person.now c.args.asked.now c.args.index c.args.classes.now
    c.in_ok-groups.groups.items asked c.requires.within c.requires.classes c.in_ok-groups.ensures
    (subst (λ (hs : List FoundHosts). Progress p old new (IsOnFound c.args.user hs asked)) c.deref.ensures.value done))
    c.add_groups.ensures
