use Rattle.std.proofs.Common.{◌≡◌, ◌++◌, List, take}
use Rattle.sudo_grammar.specs.declared.tag.Tag.{Tag}
use Rattle.sudo_verdict.specs.Tagged.{tags_named}
use Rattle.review_roots.proofs.blocks.with_all_later.Given as goal

-- the tags so far are in force
abbrev pub invariant-loop-tag : goal.invariant-loop-tag
invariant-loop-tag l = (before : List Tag) → l.fn.tags ≡ tags_named before
    → l.tags ≡ tags_named (before ++ take l.tag-index l.later)
