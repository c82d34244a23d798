use Rattle.std.proofs.Common.{ap, subst, sym, ◌∙◌}
use Rattle.audit_collect.specs.Roster.{AreDistinct}
use Rattle.audit_run.specs.Roster.{roster}
use Rattle.audit_run.proofs.Distinct.{roster-distinct}
use Rattle.audit_run.proofs.Rosters.{entered}
use Rattle.audit_run.proofs.roster.register.Goals as goal

pub returns-in-Ok-clause-parts : goal.returns-in-Ok-clause-parts
returns-in-Ok-clause-parts g c =
    let sources = c.in_ok-names.ensures in
    let names = c.deref-3.ensures.value ∙ sources.names in
    let found = c.deref-2.ensures.value
    ∙ (c.in_ok-roster.ensures.names ∙ ap roster (c.deref.ensures.value ∙ sym c.deref-3.ensures.value)) in
    c.in_ok-parts.ensures.parts ∙ entered (λ s. s.name) (λ s. s.reader) g.F.Feed.ahead c.args.sources.items _ _ _
    names found sources.readers

pub collector_for-requires : goal.collector_for-requires
collector_for-requires g c = subst AreDistinct (sym c.in_ok-roster.ensures.names) (roster-distinct c.deref.result.now)
