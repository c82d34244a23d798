use Rattle.std.proofs.Common.{◌≡◌, false, replicate, length, sym, ◌∙◌, arith}
use Rattle.std.specs.List.{list_any}
use Rattle.sudo_policy.specs.Body.Graph.{is_looped}
use Rattle.sudo_policy.proofs.CycleLemmas.{no_marks, cycle_free, DecidesCycles-begin}
use Rattle.sudo_policy.proofs.MarkingLemmas.{same_marks}
use Rattle.sudo_policy.proofs.cycle.cycles.Goals as goal

pub returns-then-not-any_looped : goal.returns-then-not-any_looped
returns-then-not-any_looped c =
    let g = c.args.links.now in
    let marks = c.in_ok-cyclic.cyclic.items in
    let blank : marks ≡ replicate (length g) false = c.in_ok-cyclic.ensures.items_if_clones_equal (λ y e. e) in
    let long = c.in_ok-cyclic.ensures.len in
    let held = c.in_ok-cyclic.cyclic.ok.0 in
    let none : list_any is_looped c.args.states.now ≡ false = sym c.any_looped.ensures ∙ c.if-not-any_looped.true in
    no_marks g marks (omega (arith, long, held)) (same_marks (length g) false marks blank)
    (cycle_free g c.args.states.now c.requires.holds c.requires.settled c.requires.sizes none)

pub decide_all-requires-clause-decided : goal.decide_all-requires-clause-decided
decide_all-requires-clause-decided c =
    let g = c.args.links.now in
    let cyclic = c.as_mut_slice-3.result.now in
    let blank : cyclic ≡ replicate (length g) false = c.as_mut_slice-3.ensures.value
    ∙ c.in_ok-cyclic.ensures.items_if_clones_equal (λ y e. e) in
    let long = c.in_ok-cyclic.ensures.len in
    let same = c.as_mut_slice-3.ensures.len in
    DecidesCycles-begin g c.args.states.now c.as_mut_slice.result.now cyclic c.requires.holds c.requires.settled c.requires.sizes
    (c.as_mut_slice.ensures.value ∙ c.in_ok-done.ensures) (omega (arith, long, same)) (same_marks (length g) false cyclic blank)
