use Rattle.std.proofs.Common.{ℕ, List, append-nil, arith, sym, Option, Some, None}
use Rattle.sudo_parser.proofs.Steps.{passed-on}
use Rattle.review_grants.specs.WhoRows.{sought_by, who_text}
use Rattle.review_grants.specs.Writing.{IsStopped}
use Rattle.review_grants.specs.declared.writing.Stopped.TheVariants as stops
use Rattle.review_grants.proofs.who.write_who.Goals as goal

nothing-written : (old : Option (List ℕ)) (text : List ℕ) → IsStopped old old text stops.Memory
nothing-written None text = (0, omega arith, tt)
nothing-written (Some a) text = (0, omega arith, sym (append-nil a))

pub returns-in_err-noted-clause-stopped : goal.returns-in_err-noted-clause-stopped
returns-in_err-noted-clause-stopped g c =
    let text = who_text c.args.checked.now c.args.directory.now (sought_by c.args.sought) in
    let old = g.O.Sink.taken c.args.out.now in
    passed-on c.from_residual-in_err-noted.result stops.Memory (IsStopped old old text) c.from_residual-in_err-noted.ensures.1
    (nothing-written old text)
