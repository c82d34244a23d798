use Rattle.sudo_match.specs.KnownRows.{directory_fault, IsDirectoryFault}
use Rattle.sudo_match.proofs.FaultLemmas.{passed-on, refused-user, refused-host, refused-group, refused-last, faultless, kept}
use Rattle.sudo_match.proofs.directory.row_names.Goals as goal

pub returns-in_err-users-clause-fault : goal.returns-in_err-users-clause-fault
returns-in_err-users-clause-fault c =
    passed-on c.from_residual.result c.in_err-users.field-0.0
    (IsDirectoryFault (directory_fault c.args.people.now c.args.machines.now)) c.from_residual.ensures.1
    (refused-user c.args.people.now c.args.machines.now c.in_err-users.field-0.0 c.in_err-users.ensures.fault)

pub returns-in_err-hosts-clause-fault : goal.returns-in_err-hosts-clause-fault
returns-in_err-hosts-clause-fault c =
    passed-on c.from_residual-in_err-hosts.result c.in_err-hosts.field-0.0
    (IsDirectoryFault (directory_fault c.args.people.now c.args.machines.now)) c.from_residual-in_err-hosts.ensures.1
    (refused-host c.args.people.now c.args.machines.now c.in_ok-users.users c.in_err-hosts.field-0.0 c.in_ok-users.ensures.names
    c.in_err-hosts.ensures.fault)

pub returns-in_err-positions-clause-fault : goal.returns-in_err-positions-clause-fault
returns-in_err-positions-clause-fault c =
    passed-on c.from_residual-in_err-positions.result c.in_err-positions.field-0.0
    (IsDirectoryFault (directory_fault c.args.people.now c.args.machines.now)) c.from_residual-in_err-positions.ensures.1
    (refused-group c.args.people.now c.args.machines.now c.in_ok-users.users c.in_ok-hosts.hosts
    c.in_err-positions.field-0.0 c.in_ok-users.ensures.names
    c.in_ok-hosts.ensures.names c.in_err-positions.ensures.fault)

pub returns-in_err-root-clause-fault : goal.returns-in_err-root-clause-fault
returns-in_err-root-clause-fault c =
    passed-on c.from_residual-in_err-root.result c.in_err-root.field-0.0
    (IsDirectoryFault (directory_fault c.args.people.now c.args.machines.now)) c.from_residual-in_err-root.ensures.1
    (refused-last c.args.people.now c.args.machines.now c.in_ok-users.users c.in_ok-hosts.hosts
    c.in_ok-positions.groups c.in_err-root.field-0.0 c.in_ok-users.ensures.names
    c.in_ok-hosts.ensures.names c.in_ok-positions.ensures.names c.in_err-root.ensures.fault)

pub returns-clause-kept : goal.returns-clause-kept
returns-clause-kept c =
    let no_fault = faultless c.args.people.now c.args.machines.now c.in_ok-users.users c.in_ok-hosts.hosts c.in_ok-positions.groups
    c.in_ok-users.ensures.names c.in_ok-hosts.ensures.names c.in_ok-positions.ensures.names c.in_ok-root.ensures.faultless in
    kept c.args.people.now c.args.machines.now c.in_ok-users.users c.in_ok-hosts.hosts c.in_ok-positions.groups
    c.in_ok-positions.positions.items c.in_ok-root.root
    c.in_ok-users.ensures.names c.in_ok-hosts.ensures.names c.in_ok-positions.ensures.names
    c.in_ok-positions.ensures.positions no_fault c.in_ok-root.ensures.root
