use Rattle.std.proofs.Common.{◌≡◌, length}
use Rattle.sudo_grammar.specs.Tags.{pairs}
use Rattle.sudo_verdict.specs.Tagged.{or_tags, tags_named}
use Rattle.sudo_verdict.proofs.tags.with_all_earlier.Given as goal

-- what is left still counts for the pairs that are not set
abbrev pub invariant-loop-tag : goal.invariant-loop-tag
invariant-loop-tag l = (length l.tags.choices ≡ length pairs)
    × (or_tags l.fn.later (tags_named l.fn.earlier) ≡ or_tags l.tags (tags_named l.left))

abbrev pub decreases-loop-tag : goal.decreases-loop-tag
decreases-loop-tag l = length l.left
