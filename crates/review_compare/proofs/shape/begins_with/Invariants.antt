use Rattle.std.proofs.Common.{◌≡◌, length, map}
use Rattle.sudo_match.specs.Pattern.{begins, is_plain}
use Rattle.review_compare.proofs.shape.begins_with.Given as goal

-- what was passed is spelled
abbrev pub invariant-loop-byte : goal.invariant-loop-byte
invariant-loop-byte l = begins (map is_plain l.name) l.chars ≡ begins (map is_plain l.names) l.left

abbrev pub decreases-loop-byte : goal.decreases-loop-byte
decreases-loop-byte l = length l.names
