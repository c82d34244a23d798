use Rattle.std.proofs.Common.{◌≡◌, drop, fold}
use Rattle.review_roots.specs.Body.Firsts.{with_noted}
use Rattle.review_roots.proofs.firsts.note_all.Given as goal

abbrev pub invariant-loop-key : goal.invariant-loop-key
invariant-loop-key l =
    fold (with_noted l.start l.index) l.firsts (drop l.key-index l.keys)
    ≡ fold (with_noted l.start l.index) l.initial.firsts l.keys
