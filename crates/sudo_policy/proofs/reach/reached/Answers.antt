use Rattle.std.proofs.Common.{◌≡◌, List, Bool, false, replicate, drop, length, sym, ◌∙◌, subst, arith}
use lib.Seq.{take_at}
use Rattle.sudo_policy.specs.Body.Graph.{IsReached, MarksOf}
use Rattle.sudo_policy.proofs.MarkingLemmas.{same_marks}
use Rattle.sudo_policy.proofs.PastLemmas.{MarksOf-spread}
use Rattle.sudo_policy.proofs.reach.reached.Goals as goal

pub returns : goal.returns
returns c =
    let g = c.args.links.now in
    let blank = c.as_mut_slice.result.now in
    let marks = c.spread.new.marks in
    let is : blank ≡ replicate (length g) false = c.as_mut_slice.ensures.value ∙ c.in_ok-marks.ensures.items_if_clones_equal (λ y e. e) in
    let long = c.as_mut_slice.ensures.len in
    let all = c.in_ok-marks.ensures.len in
    let same = c.in_ok-spread.ensures.marked.same_length in
    subst (λ (xs : List Bool). MarksOf (length g) (IsReached g c.args.roots.now) xs)
    (sym (take_at marks (drop (length marks) c.in_ok-marks.marks.items) c.in_ok-marks.marks.len (omega (arith, same, long))))
    (MarksOf-spread g c.args.roots.now blank c.in_ok-spread.field-0.items marks c.requires.closed c.requires.inside
    (omega (arith, long, all)) (same_marks (length g) false blank is) c.in_ok-spread.ensures.found c.in_ok-spread.ensures.marked)
