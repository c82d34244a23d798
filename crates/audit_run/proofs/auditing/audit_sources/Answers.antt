use Rattle.std.proofs.Common.{map, ◌∙◌, sym, subst}
use Rattle.std.specs.List.{zip}
use Rattle.std.proofs.lemmas.List.{length-map}
use Rattle.audit_run.specs.IsAuditResult.{IsAuditResult}
use Rattle.audit_run.specs.Names.{names_under}
use Rattle.audit_run.specs.Roster.{owners, index_in, roster}
use Rattle.audit_run.proofs.BytesAhead.{ahead-of-parts}
use Rattle.audit_run.proofs.auditing.audit_sources.Goals as goal

pub audit_registered-requires-clause-parts : goal.audit_registered-requires-clause-parts
audit_registered-requires-clause-parts g c κs within =
    let sources = c.args.sources.items in
    let names = map (λ s. s.name) sources in
    let long = length-map names (λ name. index_in name (roster names))
    ∙ (length-map sources (λ s. s.name) ∙ sym (length-map sources (λ s. g.F.Feed.ahead s.reader))) in
    let same = ahead-of-parts (λ p. p.owner) (λ p. g.F.Feed.ahead p.reader) c.in-Ok.registered.parts.items
    (owners names) (map (λ s. g.F.Feed.ahead s.reader) sources) c.in-Ok.ensures.parts long in
    c.in-Ok.ensures.parts ∙ sym (λ i. zip (owners (c.in-Ok.ensures.names i)) (same i))

pub returns-in-Ok : goal.returns-in-Ok
returns-in-Ok g c =
    let sources = c.args.sources.items in
    let names = map (λ s. s.name) sources in
    let bytes = map (λ s. g.F.Feed.ahead s.reader) sources in
    let long = length-map names (λ name. index_in name (roster names))
    ∙ (length-map sources (λ s. s.name) ∙ sym (length-map sources (λ s. g.F.Feed.ahead s.reader))) in
    let same = ahead-of-parts (λ p. p.owner) (λ p. g.F.Feed.ahead p.reader) c.in-Ok.registered.parts.items
    (owners names) bytes c.in-Ok.ensures.parts long in
    subst (λ n. IsAuditResult (names_under c.args.shared.policy.now c.args.shared.directory.now) n bytes
    c.args.workers c.args.pass.now c.audit_registered.new.pass c.audit_registered.result) c.in-Ok.ensures.names
    (subst (λ t. IsAuditResult (names_under c.args.shared.policy.now c.args.shared.directory.now)
    c.in-Ok.registered.names.items t c.args.workers c.args.pass.now c.audit_registered.new.pass
    c.audit_registered.result) same c.audit_registered.ensures)
