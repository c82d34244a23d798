use Rattle.std.proofs.Common.{◌≡◌, ◌<◌, ◌∙◌, List, Some, length, true, ap, sym, arith, rules}
use Rattle.std.specs.Prelude.{is_some}
use Rattle.csv.specs.Records.{fields_of}
use Rattle.audit_files.specs.Users.{last_of, row_behind, users_of, with_row}
use Rattle.audit_files.proofs.Members.{following_row}
use Rattle.audit_files.proofs.memberships.MembershipsTable.add.Goals as goal

pub returns-in-Ok-keep-clause-ok : goal.returns-in-Ok-keep-clause-ok
returns-in-Ok-keep-clause-ok c = λ before holds at.
    let below : length before < 100000 = omega arith in
    let follows : is_some (row_behind (last_of (users_of before)) (Some c.in-Some.member)) ≡ true = rw (← holds) (search rules) in
    let s = following_row before (fields_of c.args.record.now) c.in-Some.member (sym c.in-Ok.ensures ∙ c.in-Some.is) follows below in
    (s.0, c.in-Ok-keep.ensures ∙ ap (λ (l : List _). with_row l c.in-Some.member) holds ∙ sym s.1)
