use Rattle.review_compare.proofs.lines.push_block.Goals as goal

pub returns-clause-walk : goal.returns-clause-walk
returns-clause-walk c = λ l rest is. (c.in_ok-rows.ensures l rest is).walk
