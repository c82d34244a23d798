use Rattle.std.proofs.Common.{◌≡◌, ◌++◌, map, take}
use Rattle.review_compare.specs.Body.AskClasses.{plain}
use Rattle.review_compare.proofs.ask_class.push_copies.Given as goal

abbrev pub invariant-loop-with : goal.invariant-loop-with
invariant-loop-with l = map plain l.copies.items ≡ map plain l.initial.copies.items ++ map plain (take l.with-index l.asked)
