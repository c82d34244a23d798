use Rattle.clap.specs.Words.{found_of, rows_of}
use Rattle.review_commands.proofs.Subcommands.{by_parts, nothing_of, stated_of, without_rows}
use Rattle.review_commands.proofs.words.asked_subcommand.Goals as goal

pub returns-in-Some-clause-stated : goal.returns-in-Some-clause-stated
returns-in-Some-clause-stated c = stated_of _ _ _ (by_parts _ c.in-Some.name.now (rows_of (found_of c.in-Some.given.now))
    c.in-Some.ensures.name c.in-Some.ensures.rows) c.asked_by.ensures.stated

pub returns-in-Some-clause-nothing : goal.returns-in-Some-clause-nothing
returns-in-Some-clause-nothing c = nothing_of _ _ _ (by_parts _ c.in-Some.name.now (rows_of (found_of c.in-Some.given.now))
    c.in-Some.ensures.name c.in-Some.ensures.rows) c.asked_by.ensures.nothing

pub returns-in-None-clause-nothing : goal.returns-in-None-clause-nothing
returns-in-None-clause-nothing c other p is = absurd (without_rows _ p c.in-None.ensures.rows is)
