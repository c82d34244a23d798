use Rattle.std.proofs.Common.{◌≡◌, ◌++◌, drop}
use Rattle.review_cautions.specs.Body.Signs.{cautions_on}
use Rattle.review_cautions.proofs.lines.push_lines.Given as goal

abbrev pub invariant-loop-line : goal.invariant-loop-line
invariant-loop-line l = l.found.items ++ cautions_on l.class (drop l.line-index l.lines)
    ≡ l.initial.found.items ++ cautions_on l.class l.lines
