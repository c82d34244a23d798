use Rattle.std.proofs.Common.{ℕ, List, Some, Bool, true, false, length, sym, ap, ◌∙◌, subst, arith}
use Rattle.std.specs.Prelude.{Contains}
use Rattle.std.proofs.lemmas.List.{length-replicate}
use Rattle.sudo_policy.specs.Body.Marking.{AreSet}
use Rattle.sudo_policy.proofs.CycleLemmas.{round_is}
use Rattle.sudo_policy.proofs.MarkingLemmas.{same_marks, AreSet-back, IsClosed-turned}
use Rattle.sudo_policy.proofs.PastLemmas.{PathPast-end}
use Rattle.sudo_policy.proofs.StateLemmas.{within_get, get_within}
use Rattle.sudo_policy.proofs.cycle.round.Goals as goal

pub ahead-requires-clause-closed : goal.ahead-requires-clause-closed
ahead-requires-clause-closed c = IsClosed-turned c.args.links.now c.args.back.now c.requires.turned

pub ahead-requires-clause-inside : goal.ahead-requires-clause-inside
ahead-requires-clause-inside c =
    let less = within_get c.args.done.now c.args.node false c.requires.new in
    let long = c.requires.turned.same_length in
    let sizes = c.requires.sizes in
    omega (arith, less, long, sizes)

pub ahead-requires-2-clause-inside : goal.ahead-requires-2-clause-inside
ahead-requires-2-clause-inside c =
    let less = within_get c.args.done.now c.args.node false c.requires.new in
    let sizes = c.requires.sizes in
    omega (arith, less, sizes)

pub set_marks-requires : goal.set_marks-requires
set_marks-requires c = record {
  inside = λ i h. (
      let path = (c.in_ok-behind.ensures.found i).0 (subst (λ (xs : List ℕ). Contains xs i) c.as_slice.ensures.value h) in
      let less = within_get c.args.done.now i false (PathPast-end c.args.back.now c.args.done.now c.args.node i path) in
      let sizes = c.requires.sizes in
      let long = ap length c.requires.aside in
      let n = length-replicate (length c.args.links.now) true in
      omega (arith, less, sizes, long, n));
}

pub set_marks-requires-2 : goal.set_marks-requires-2
set_marks-requires-2 c = record {
  inside = λ i h. (
      let here = subst (λ (xs : List ℕ). Contains xs i) (c.as_slice-2.ensures.value ∙ sym c.as_slice.ensures.value) h in
      let less = within_get c.set_marks.new.marks i false (c.set_marks.ensures.those i here) in
      let same = ap length c.in_ok-round.ensures.same in
      omega (arith, less, same));
}

pub returns-clause-found : goal.returns-clause-found
returns-clause-found c =
    let behind = c.in_ok-behind.behind.items in
    let full = same_marks (length c.args.links.now) true c.args.aside.now c.requires.aside in
    let set : AreSet false behind c.args.aside.now c.set_marks.new.marks =
    subst (λ (xs : List ℕ). AreSet false xs c.args.aside.now c.set_marks.new.marks) c.as_slice.ensures.value c.set_marks.ensures in
    round_is c.args.links.now c.args.back.now c.args.node c.args.done.now c.args.aside.now c.set_marks.new.marks
    behind c.in_ok-round.round.items
    c.requires.turned c.requires.sizes c.requires.whole c.requires.new full set c.in_ok-behind.ensures.found c.in_ok-round.ensures.found

pub returns-clause-aside : goal.returns-clause-aside
returns-clause-aside c =
    let behind = c.in_ok-behind.behind.items in
    let full = same_marks (length c.args.links.now) true c.args.aside.now c.requires.aside in
    let there : AreSet false behind c.args.aside.now c.set_marks.new.marks =
    subst (λ (xs : List ℕ). AreSet false xs c.args.aside.now c.set_marks.new.marks) c.as_slice.ensures.value c.set_marks.ensures in
    let put : AreSet true behind c.ahead-2.new.marks c.set_marks-2.new.marks =
    subst (λ (xs : List ℕ). AreSet true xs c.ahead-2.new.marks c.set_marks-2.new.marks) c.as_slice-2.ensures.value
    c.set_marks-2.ensures in
    let back : AreSet true behind c.set_marks.new.marks c.set_marks-2.new.marks =
    subst (λ (ms : List Bool). AreSet true behind ms c.set_marks-2.new.marks) c.in_ok-round.ensures.same put in
    AreSet-back false true behind c.args.aside.now c.set_marks.new.marks c.set_marks-2.new.marks there back
    (λ i h. (
    let less = within_get c.set_marks.new.marks i false (there.those i h) in
    let long = there.same_length in
    let m = get_within c.args.aside.now i (omega (arith, less, long)) in
    m.1 ∙ ap Some (full i m.0 m.1)))
