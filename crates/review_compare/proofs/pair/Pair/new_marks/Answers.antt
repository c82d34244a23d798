use Rattle.std.proofs.Common.{◌<◌, Bool, List, Option, arith, get_or, length, subst, sym}
use Rattle.sudo_match.specs.declared.people.Machine.{Machine}
use Rattle.review_compare.specs.Body.Chosen.{AreMarks}
use Rattle.review_compare.specs.Body.HostMarks.{AreHostMarks}
use Rattle.review_compare.proofs.HostMarksLemmas.{known-at}
use Rattle.review_compare.proofs.pair.Pair.new_marks.Goals as goal

pub returns-then-host-len : goal.returns-then-host-len
returns-then-host-len c = λ m on.
    let p = c.args.self.now in
    let h = c.args.host in
    let k = c.index.result.now in
    let less : h < length p.marks.items = omega (arith, c.if-host-len.true, c.len.ensures) in
    let its = subst (AreHostMarks p.old p.new m) (sym c.index.ensures)
    (subst (λ (x : Machine). AreHostMarks p.old p.new x (get_or p.marks.items h k)) (known-at p.directory.now.machines h m on)
    (p.are_marks h m k less)) in
    subst (λ (xs : List (Option Bool)). AreMarks p.new.checked.now p.new.blocks.items m xs) (sym c.deref.ensures.value) its.in_new
