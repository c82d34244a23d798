use Rattle.std.proofs.Common.{List, ℕ, map, subst, Bor}
use Rattle.audit_commands.specs.Opening.{Pair}
use Rattle.audit_commands.specs.Body.Opening.{HaveNoReaders}
use Rattle.audit_commands.proofs.Openings.{no_hosts, no_sources, no_users}
use Rattle.audit_commands.proofs.sources.open_all.Goals as goal

pub returns-in-Err-clause-fault : goal.returns-in-Err-clause-fault
returns-in-Err-clause-fault g c =
    no_users (g.O.Opener.opens c.args.opener.now) (g.O.Opener.closed c.args.opener.now) c.args.users.now c.args.hosts.now _ _ c.in-Err.fault
    c.in_ok-senders.ensures.senders c.in-Err.ensures.fault

pub returns-in-Err-open-clause-fault : goal.returns-in-Err-open-clause-fault
returns-in-Err-open-clause-fault g c =
    no_hosts (g.O.Opener.opens c.args.opener.now) (g.O.Opener.closed c.args.opener.now) c.args.users.now
    c.args.hosts.now _ _ c.in-Ok.users c.in-Err-open.fault
    c.in_ok-senders.ensures.senders c.in-Ok.ensures.opened c.in-Err-open.ensures.fault

pub returns-clause-fault : goal.returns-clause-fault
returns-clause-fault g c =
    let cut : Bor (List ℕ) × Bor (List ℕ) → Pair = λ p. (p.0.now, p.1.now) in
    let why = subst (λ (s : List (Bor (List ℕ) × Bor (List ℕ))). HaveNoReaders (g.O.Opener.opens c.args.opener.now)
    (g.O.Opener.closed c.args.opener.now) (map (λ p. p.1) (map cut s)) c.in-Err-open_sources.fault)
    c.deref.ensures.value c.in-Err-open_sources.ensures.fault in
    no_sources (g.O.Opener.opens c.args.opener.now) (g.O.Opener.closed c.args.opener.now) c.args.users.now
    c.args.hosts.now _ _ c.in-Ok.users c.in-Ok-open.hosts c.in-Err-open_sources.fault
    c.in_ok-senders.ensures.senders c.in-Ok.ensures.opened c.in-Ok-open.ensures.opened why
