use Rattle.std.proofs.Common.{subst, sym}
use Rattle.std.proofs.lemmas.Result.{IfOk-weaker}
use Rattle.review_roots.specs.declared.given.Counted.TheVariants as counted
use Rattle.review_roots.specs.Body.Found.{AreStarts}
use Rattle.review_roots.proofs.FreeLemmas.{chosen, none-of, way-unasked}
use Rattle.review_roots.proofs.roots.asked_way.Goals as goal

pub asking_way-requires-clause-unasked : goal.asking_way-requires-clause-unasked
asking_way-requires-clause-unasked c =
    let found = c.args.chains.now.unasked.items in
    none-of c.args.steps.now c.args.target c.args.level c.requires.lead.level c.args.user c.requires.known
    (record { target = c.args.target; counted = counted.Unasked }) found c.requires.lead.unasked
    (c.in-None.ensures found (subst (AreStarts found) (sym c.deref.ensures.value) c.requires.lead.are.unasked_starts))

pub returns-in-Some : goal.returns-in-Some
returns-in-Some c =
    let h = c.args.steps.now in
    let found = c.args.chains.now.unasked.items in
    let at = c.in-Some.ensures found (subst (AreStarts found) (sym c.deref.ensures.value) c.requires.lead.are.unasked_starts) in
    IfOk-weaker c.way_of.result _ _
    (λ w is.
    way-unasked h c.args.target c.args.level c.requires.lead.level c.args.user c.requires.known c.requires.best w is.0 c.requires.free
    (chosen h c.args.target c.args.level c.requires.lead.level c.args.user c.requires.known
    (record { target = c.args.target; counted = counted.Unasked }) c.deref-in-Some.result.now found c.in-Some.index w is.1
    c.deref-in-Some.ensures.value c.requires.lead.unasked c.requires.lead.unasked_order at))
    c.way_of.ensures.chain
