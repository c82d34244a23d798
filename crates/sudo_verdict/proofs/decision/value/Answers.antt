use Rattle.std.proofs.Common.{sym, ◌∙◌, ap, not}
use Rattle.std.specs.Option.{option_map}
use Rattle.sudo_verdict.proofs.ListDecisions.{value-decided}
use Rattle.sudo_verdict.proofs.decision.value.Goals as goal

pub returns-in-Some : goal.returns-in-Some
returns-in-Some g c =
    ap (option_map (λ d. not d.negated)) c.in-Some.ensures
    ∙ sym (value-decided c.args.kind c.args.lists.checked.now c.args.members.now (g.S.Subject.fits c.args.subject.now))

pub returns-in-None : goal.returns-in-None
returns-in-None g c =
    ap (option_map (λ d. not d.negated)) c.in-None.ensures
    ∙ sym (value-decided c.args.kind c.args.lists.checked.now c.args.members.now (g.S.Subject.fits c.args.subject.now))
