use Rattle.std.proofs.Common.{subst, sym}
use Rattle.std.proofs.lemmas.Result.{IfOk-weaker}
use Rattle.review_roots.specs.declared.given.Counted.TheVariants as counted
use Rattle.review_roots.specs.Body.Found.{AreStarts}
use Rattle.review_roots.proofs.FreeLemmas.{chosen, none-of, way-free}
use Rattle.review_roots.proofs.roots.best_way.Goals as goal

pub asked_way-requires-clause-free : goal.asked_way-requires-clause-free
asked_way-requires-clause-free c =
    let found = c.args.chains.now.free.items in
    none-of c.args.steps.now c.args.target c.args.level c.requires.lead.level c.args.user c.requires.known
    (record { target = c.args.target; counted = counted.Free }) found c.requires.lead.free
    (c.in-None.ensures found (subst (AreStarts found) (sym c.deref.ensures.value) c.requires.lead.are.free_starts))

pub returns-in-Some : goal.returns-in-Some
returns-in-Some c =
    let h = c.args.steps.now in
    let found = c.args.chains.now.free.items in
    let at = c.in-Some.ensures found (subst (AreStarts found) (sym c.deref.ensures.value) c.requires.lead.are.free_starts) in
    IfOk-weaker c.way_of.result _ _
    (λ w is.
    way-free h c.args.target c.args.level c.requires.lead.level c.args.user c.requires.known c.requires.best w is.0
    (chosen h c.args.target c.args.level c.requires.lead.level c.args.user c.requires.known
    (record { target = c.args.target; counted = counted.Free }) c.deref-in-Some.result.now found c.in-Some.index w is.1
    c.deref-in-Some.ensures.value c.requires.lead.free c.requires.lead.free_order at))
    c.way_of.ensures.chain
