use Rattle.audit_files.proofs.PlainRows.{behind_field, behind_last, seven_plain}
use Rattle.audit_files.proofs.plain.plain_row.Goals as goal

pub returns-clause-reads : goal.returns-clause-reads
returns-clause-reads c =
    let (after, rest, last) = c.in_ok-arguments.ensures in
    rw rest
    (seven_plain _ _ _ _ _ _ _ _ _ _ _ _ _ _ after
    c.in_ok-number.ensures c.in_ok-user.ensures c.in_ok-host.ensures c.in_ok-runas_user.ensures
    c.in_ok-runas_group.ensures c.in_ok-command.ensures last)

pub returns-clause-behind : goal.returns-clause-behind
returns-clause-behind c =
    let (after, rest, last) = c.in_ok-arguments.ensures in
    behind_field _ _ _ _ 44 c.in_ok-number.ensures
    (behind_field _ _ _ _ 44 c.in_ok-user.ensures
    (behind_field _ _ _ _ 44 c.in_ok-host.ensures
    (behind_field _ _ _ _ 44 c.in_ok-runas_user.ensures
    (behind_field _ _ _ _ 44 c.in_ok-runas_group.ensures
    (behind_field _ _ _ _ 44 c.in_ok-command.ensures
    (behind_last _ _ _ _ last rest))))))
