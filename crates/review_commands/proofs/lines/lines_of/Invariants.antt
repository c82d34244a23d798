use Rattle.std.proofs.Common.{◌≡◌, take, flat_map}
use Rattle.review_commands.specs.CautionLines.{caution_line}
use Rattle.review_commands.proofs.lines.lines_of.Given as goal

-- the lines of the cautions so far were written
abbrev pub invariant-loop-caution : goal.invariant-loop-caution
invariant-loop-caution l = l.lines.items ≡ flat_map (caution_line l.files) (take l.caution-index l.cautions)
