use Rattle.review_commands.proofs.RootSteps.{last-hidden, last-visible}
use Rattle.review_commands.proofs.root_rows.shown.Goals as goal

pub returns-in-Some : goal.returns-in-Some
returns-in-Some c = last-hidden c.args.chain.now c.in-Some.rest.now c.in-Some.last.now c.in-Some.ensures.cases.0 c.if-is_none.ensures

pub returns-in_default : goal.returns-in_default
returns-in_default c = last-visible c.args.chain.now c.in-Some.rest.now c.in-Some.last.now c.in-Some.ensures.cases.0 c.if-is_none.ensures
