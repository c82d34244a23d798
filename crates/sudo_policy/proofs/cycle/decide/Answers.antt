use Rattle.std.proofs.Common.{ℕ, List, Bool, true, length, ap, subst, arith}
use Rattle.std.specs.Prelude.{Contains}
use Rattle.sudo_policy.specs.Body.Marking.{AreSet}
use Rattle.sudo_policy.proofs.CycleLemmas.{DecidesCycles-next, path_inside}
use Rattle.sudo_policy.proofs.MarkingLemmas.{AreSet-kept, marked_more}
use Rattle.sudo_policy.proofs.StateLemmas.{get_set_same}
use Rattle.sudo_policy.proofs.cycle.decide.Goals as goal

pub set_marks-requires : goal.set_marks-requires
set_marks-requires c = record {
  inside = λ i h. (
      let ways = (c.in_ok-round.ensures.found i).0 (subst (λ (xs : List ℕ). Contains xs i) c.as_slice.ensures.value h) in
      let less = path_inside c.args.links.now i c.args.node ways.1 in
      let long = c.requires.decided.cyclic_length in
      omega (arith, less, long));
}

pub set_marks-requires-2 : goal.set_marks-requires-2
set_marks-requires-2 c = record {
  inside = λ i h. (
      let ways = (c.in_ok-round.ensures.found i).0 (subst (λ (xs : List ℕ). Contains xs i) c.as_slice-2.ensures.value h) in
      let less = path_inside c.args.links.now i c.args.node ways.1 in
      let long = c.requires.decided.done_length in
      let same = ap length c.in_ok-round.ensures.same in
      omega (arith, less, long, same));
}

pub returns-clause-decided : goal.returns-clause-decided
returns-clause-decided c =
    let round = c.in_ok-round.round.items in
    let done = c.args.done.now in
    let inside = c.if-node-done.false in
    let long = c.requires.decided.done_length in
    let cyclic : AreSet true round c.args.cyclic.now c.set_marks.new.marks =
    subst (λ (xs : List ℕ). AreSet true xs c.args.cyclic.now c.set_marks.new.marks) c.as_slice.ensures.value c.set_marks.ensures in
    let put : AreSet true round c.round.new.done c.set_marks-2.new.marks =
    subst (λ (xs : List ℕ). AreSet true xs c.round.new.done c.set_marks-2.new.marks) c.as_slice-2.ensures.value c.set_marks-2.ensures in
    let set : AreSet true round done c.set_marks-2.new.marks =
    subst (λ (ms : List Bool). AreSet true round ms c.set_marks-2.new.marks) c.in_ok-round.ensures.same put in
    DecidesCycles-next c.args.links.now c.args.node done c.args.cyclic.now round c.set_marks.new.marks
    c.set_marks-2.new.marks (omega (arith, inside, long)) c.requires.decided c.in_ok-round.ensures.found cyclic set

pub returns-clause-kept : goal.returns-clause-kept
returns-clause-kept c i h =
    let round = c.in_ok-round.round.items in
    let done = c.args.done.now in
    let put : AreSet true round c.round.new.done c.set_marks-2.new.marks =
    subst (λ (xs : List ℕ). AreSet true xs c.round.new.done c.set_marks-2.new.marks) c.as_slice-2.ensures.value c.set_marks-2.ensures in
    let set : AreSet true round done c.set_marks-2.new.marks =
    subst (λ (ms : List Bool). AreSet true round ms c.set_marks-2.new.marks) c.in_ok-round.ensures.same put in
    let inside = c.if-node-done.false in
    let long = set.same_length in
    marked_more c.set_marks-2.new.marks c.args.node i (omega (arith, inside, long)) (AreSet-kept round done c.set_marks-2.new.marks i set h)

pub returns-clause-here : goal.returns-clause-here
returns-clause-here c less =
    let long = c.set_marks-2.ensures.same_length in
    let same = ap length c.in_ok-round.ensures.same in
    let inside = c.if-node-done.false in
    get_set_same c.set_marks-2.new.marks c.args.node true (omega (arith, inside, long, same))
