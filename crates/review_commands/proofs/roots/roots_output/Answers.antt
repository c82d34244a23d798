use Rattle.review_commands.specs.RootRows.{AreRootRows}
use Rattle.review_commands.specs.Surveying.{Inputs, inputs_by}
use Rattle.review_commands.proofs.TableSteps.{made-of, memory-of, tabled-of}
use Rattle.review_commands.proofs.roots.roots_output.Goals as goal

pub returns-clause-printed : goal.returns-clause-printed
returns-clause-printed g c =
    let given : Inputs = inputs_by (g.F.Files.held c.args.files.now) c.args.path.now (g.U.Feed.ahead c.args.users.now)
    (g.H.Feed.ahead c.args.hosts.now) in
    let policy = c.in_ok-survey.survey.checked.policy in
    let directory = c.in_ok-survey.survey.directory in
    tabled-of (AreRootRows c.args.all) given policy directory _ c.or_memory-table.result c.noted.result c.in_ok-survey.ensures.surveyed
    (made-of (AreRootRows c.args.all) policy directory c.roots_table.result c.or_memory-table.result c.roots_table.ensures
    c.or_memory-table.ensures.made) c.noted.ensures.noted

pub returns-clause-fault : goal.returns-clause-fault
returns-clause-fault g c =
    let given : Inputs = inputs_by (g.F.Files.held c.args.files.now) c.args.path.now (g.U.Feed.ahead c.args.users.now)
    (g.H.Feed.ahead c.args.hosts.now) in
    memory-of given c.or_memory-table.result c.noted.result c.or_memory-table.ensures.fault c.noted.ensures.fault
