use Rattle.std.specs.Prelude.{◌≡◌, [], ℕ, List}
use Rattle.audit_files.specs.RequestRows.{HasRead}
use Rattle.audit_run.specs.Parts.{asking}
use Rattle.audit_run.specs.Body.Work.{putting_jobs}
use Rattle.sudo_match.specs.declared.request.Request.{Request}
use Rattle.audit_run.proofs.sender.send_rows.Given as goal

-- the requests that were put are those that were read
abbrev pub invariant-loop : goal.invariant-loop
invariant-loop g l = (sent : List Request) × (l.pass ≡ putting_jobs l.fn.pass (asking l.sender sent))
    × ((text : List ℕ) → HasRead l.fn.rows text [] → HasRead l.rows text sent)
