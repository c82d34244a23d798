use Rattle.std.proofs.Common.{◌∙◌, ap, map}
use Rattle.audit_commands.proofs.AuditSteps.{answered, named_if_other, unreported_is}
use Rattle.audit_commands.proofs.audit.report_under.Goals as goal

pub returns-in-Ok-clause-report : goal.returns-in-Ok-clause-report
returns-in-Ok-clause-report g c = answered _ _ _ _ _ _ _ _ c.in-Ok.ensures.outcome

pub unreported-requires : goal.unreported-requires
unreported-requires g c = named_if_other c.args.policy.now c.args.directory.now _ (map (λ s. s.name) c.args.sources.items)
    (map (λ s. g.R.Feed.ahead s.reader) c.args.sources.items) c.args.workers c.in-Err.fault
    (c.deref-in-Err.ensures.value ∙ c.in_ok-names.ensures ∙ ap (map (λ s. s.name)) c.deref.ensures.value)
    (answered _ _ _ _ _ _ _ _ c.in-Err.ensures.outcome)

pub returns-clause-fault : goal.returns-clause-fault
returns-clause-fault g c = unreported_is c.args.policy.now c.args.directory.now _ (map (λ s. s.name) c.args.sources.items)
    (map (λ s. g.R.Feed.ahead s.reader) c.args.sources.items) c.args.workers c.in-Err.fault _
    (c.deref-in-Err.ensures.value ∙ c.in_ok-names.ensures ∙ ap (map (λ s. s.name)) c.deref.ensures.value)
    (answered _ _ _ _ _ _ _ _ c.in-Err.ensures.outcome)
    c.unreported.ensures
