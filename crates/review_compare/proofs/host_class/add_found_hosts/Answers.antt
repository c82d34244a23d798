use Rattle.std.proofs.Common.{IsPermutation, List, ℕ, subst, sym}
use Rattle.sudo_base.proofs.Options.{on_ok}
use Rattle.review_compare.specs.Body.AskClasses.{AreAsked}
use Rattle.review_compare.specs.Body.Classes.{IsRightIn}
use Rattle.review_compare.specs.Body.Merged.{IsOnAmong}
use Rattle.review_compare.specs.Body.Progress.{Progress, asking}
use Rattle.review_compare.proofs.FoundLemmas.{done-moved, right-moved}
use Rattle.review_compare.proofs.host_class.add_found_hosts.Goals as goal

pub add_class-requires : goal.add_class-requires
add_class-requires c =
    let p = c.args.pair.now in
    let asked = AreAsked (asking p) c.args.asks.now.asked.items in
    let f = c.args.group.now.found.now in
    let sorted = c.in_ok-hosts.hosts.items in
    subst (λ (hs : List ℕ). IsRightIn p c.args.user hs asked f) (sym c.deref-2.ensures.value)
    (right-moved p c.args.user c.args.group.now.hosts.items sorted asked f
    (subst (λ (hs : List ℕ). IsPermutation hs sorted) c.deref.ensures.value c.in_ok-hosts.ensures) c.requires)

pub returns : goal.returns
returns c =
    let p = c.args.pair.now in
    let asked = AreAsked (asking p) c.args.asks.now.asked.items in
    let sorted = c.in_ok-hosts.hosts.items in
    let old = c.args.rows.now.items in
    let new = c.add_class.new.rows.items in
    on_ok c.add_class.result
    (λ done. done-moved p old new c.args.user c.args.group.now.hosts.items sorted asked
    (subst (λ (hs : List ℕ). IsPermutation hs sorted) c.deref.ensures.value c.in_ok-hosts.ensures)
    (subst (λ (hs : List ℕ). Progress p old new (IsOnAmong c.args.user hs asked)) c.deref-2.ensures.value done))
    c.add_class.ensures
