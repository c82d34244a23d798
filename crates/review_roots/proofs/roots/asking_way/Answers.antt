use Rattle.std.proofs.Common.{List, length, subst, sym, ◌<◌}
use Rattle.std.proofs.lemmas.Option.{slice_get_within}
use Rattle.std.proofs.lemmas.Result.{IfOk-weaker}
use Rattle.review_roots.specs.declared.search.Found.{Found}
use Rattle.review_roots.specs.Body.Found.{AreGiven, AreStarts, PointBack, any_sought}
use Rattle.review_roots.specs.Body.Passing.{IsTraced}
use Rattle.review_roots.proofs.FreeLemmas.{chosen, way-any}
use Rattle.review_roots.proofs.PathLemmas.{starts-chainless}
use Rattle.review_roots.proofs.TurnedLemmas.{if-both, none-turned, turned-back, turned-given, way-turned}
use Rattle.review_roots.proofs.roots.asking_way.Goals as goal

pub way_of-requires-clause-back : goal.way_of-requires-clause-back
way_of-requires-clause-back c =
    let chains = c.args.chains.now in
    subst PointBack (sym c.deref-in-Some.ensures.value)
    (turned-back c.args.steps.now c.args.target c.args.level chains.unasked.items chains.turned.items chains.any_starts.items
    chains.unasked_starts.items c.requires.lead.turned c.requires.lead.are.unasked)

pub way_of-requires-clause-given : goal.way_of-requires-clause-given
way_of-requires-clause-given c =
    let chains = c.args.chains.now in
    subst (AreGiven c.args.steps.now) (sym c.deref-in-Some.ensures.value)
    (turned-given c.args.steps.now c.args.target c.args.level chains.unasked.items chains.turned.items chains.any_starts.items
    chains.unasked_starts.items c.requires.lead.turned c.requires.lead.are.unasked_given)

pub way_of-requires-clause-inside : goal.way_of-requires-clause-inside
way_of-requires-clause-inside c =
    let turned = c.args.chains.now.turned.items in
    let at = c.in-Some.ensures turned (subst (AreStarts turned) (sym c.deref.ensures.value) c.requires.lead.are.turned_starts) in
    subst (λ (xs : List Found). c.in-Some.index < length xs) (sym c.deref-in-Some.ensures.value)
    (slice_get_within turned c.in-Some.index at.0 at.1.0)

pub way_of-requires-in-None-clause-inside : goal.way_of-requires-in-None-clause-inside
way_of-requires-in-None-clause-inside c =
    subst (λ (xs : List Found). c.args.index < length xs) (sym c.deref-in-None.ensures.value)
    (slice_get_within c.args.chains.now.any.items c.args.index c.requires.start.0 c.requires.start.1.0)

-- the first step alone asks
pub returns-in-Some : goal.returns-in-Some
returns-in-Some c =
    let h = c.args.steps.now in
    let chains = c.args.chains.now in
    let lead = c.requires.lead in
    let turned = chains.turned.items in
    let at = c.in-Some.ensures turned (subst (AreStarts turned) (sym c.deref.ensures.value) lead.are.turned_starts) in
    if-both c.way_of.result _ _ _ c.way_of.ensures.chain c.way_of.ensures.traced
    (λ w is traced.
    way-turned h c.args.target c.args.user c.args.level lead.level c.requires.known c.requires.unasked chains.unasked.items lead.unasked
    lead.unasked_order chains.any_starts.items chains.unasked_starts.items turned lead.turned c.in-Some.index at.0 at.1.0 at.1.1 w is.0
    c.requires.best (subst (λ (xs : List Found). IsTraced h xs c.in-Some.index w) c.deref-in-Some.ensures.value traced))

-- each chain asks for more
pub returns-in-None : goal.returns-in-None
returns-in-None c =
    let h = c.args.steps.now in
    let chains = c.args.chains.now in
    let lead = c.requires.lead in
    let turned = chains.turned.items in
    let nowhere = c.in-None.ensures turned (subst (AreStarts turned) (sym c.deref.ensures.value) lead.are.turned_starts) in
    IfOk-weaker c.way_of-in-None.result _ _
    (λ w is.
    way-any h c.args.target c.args.level lead.level c.args.user c.requires.known c.requires.best w is.0
    (none-turned h c.args.target c.args.user c.args.level lead.level c.requires.known c.requires.unasked chains.unasked.items lead.unasked
    lead.unasked_order chains.any_starts.items chains.unasked_starts.items turned lead.turned c.requires.away
    (starts-chainless h c.args.target c.args.level chains.any.items chains.any_starts.items lead.any lead.are.any_starts
    lead.are.any_users) lead.are.unasked_starts lead.are.unasked_users nowhere)
    (chosen h c.args.target c.args.level lead.level c.args.user c.requires.known (any_sought c.args.target) c.deref-in-None.result.now
    chains.any.items c.args.index w is.1 c.deref-in-None.ensures.value lead.any lead.any_order c.requires.start))
    c.way_of-in-None.ensures.chain
