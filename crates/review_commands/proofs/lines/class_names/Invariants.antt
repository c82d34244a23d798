use Rattle.std.proofs.Common.{◌≡◌, [], drop, fold}
use Rattle.review_commands.specs.CautionLines.{with_found}
use Rattle.review_commands.proofs.lines.class_names.Given as goal

-- with the classes that are left, the names are those of all
abbrev pub invariant-loop-class : goal.invariant-loop-class
invariant-loop-class l = fold (with_found l.found) [] l.classes ≡ fold (with_found l.found) l.names.items (drop l.class-index l.classes)
