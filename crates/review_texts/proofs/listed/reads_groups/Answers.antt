use Rattle.std.proofs.Common.{◌∙◌}
use Rattle.review_texts.specs.Places.{has_groups, last_spec}
use Rattle.review_texts.proofs.LoneLines.{found_passes, found_none}
use Rattle.review_texts.proofs.listed.reads_groups.Goals as goal

pub returns-in-Some-clause-only : goal.returns-in-Some-clause-only
returns-in-Some-clause-only c = λ entry is ends. c.has_groups.ensures ∙ found_passes c.args.line.now c.in_ok-entry.field-0
    (λ e. has_groups (last_spec e)) c.in-Some.entry entry c.in_ok-entry.ensures c.in-Some.is is ends

pub returns-in-None-clause-only : goal.returns-in-None-clause-only
returns-in-None-clause-only c = λ entry is ends.
    absurd (found_none c.args.line.now c.in_ok-entry.field-0 entry c.in_ok-entry.ensures c.in-None.is is)
