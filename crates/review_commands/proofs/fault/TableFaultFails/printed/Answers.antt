use Rattle.std.proofs.Common.{◌≡◌, ◌++◌, List, ℕ, codes, subst}
use Rattle.std.specs.Prelude.{IfOk}
use Rattle.run_base.specs.FaultLines.{error_line}
use Rattle.review_commands.proofs.fault.TableFaultFails.printed.Goals as goal

pub returns-in-NoSuchUser : goal.returns-in-NoSuchUser
returns-in-NoSuchUser c = rw c.in-NoSuchUser.is (subst (λ (n : List ℕ). IfOk c.name_line.result
    (λ line. line.items ≡ error_line c.args.program.now (codes "no such user " ++ n))) c.as_slice.ensures c.name_line.ensures)
