use Rattle.review_commands.proofs.ExpandSteps.{not_shown_of, shown_of}
use Rattle.review_commands.proofs.ReportSteps.{checked_of}
use Rattle.review_commands.proofs.expand.expand_output.Goals as goal

pub returns-clause-printed : goal.returns-clause-printed
returns-clause-printed g c =
    let checked = c.in-Ok.checked in
    shown_of (g.F.Files.held c.args.files.now) c.args.path.now checked.text checked.supplies checked.policy c.args.kind c.args.name.now _
    c.alias_lines-lines.result c.noted_lines.result c.in-Ok.ensures.loaded c.in-Ok.ensures.passes c.in-Ok-notice_on.ensures
    c.alias_lines-lines.ensures.lines c.noted_lines.ensures.noted

pub returns-clause-fault : goal.returns-clause-fault
returns-clause-fault g c =
    not_shown_of (g.F.Files.held c.args.files.now) c.args.path.now c.args.kind c.args.name.now c.in-Ok.checked.policy
    c.alias_lines-lines.result c.noted_lines.result (checked_of _ _ _ _ _ c.in-Ok.ensures.loaded c.in-Ok.ensures.passes)
    c.alias_lines-lines.ensures.fault c.noted_lines.ensures.fault
