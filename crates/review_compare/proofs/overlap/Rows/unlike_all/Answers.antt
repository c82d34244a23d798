use Rattle.std.proofs.Common.{arith, sym}
use Rattle.review_compare.proofs.OverlapLemmas.{agrees-with-all}
use Rattle.review_compare.proofs.overlap.Rows.unlike_all.Goals as goal

pub returns-then-covers_old-clause-none : goal.returns-then-covers_old-clause-none
returns-then-covers_old-clause-none c = λ _.
    let s = c.args.self.now in
    agrees-with-all s.old.now s.new.now c.args.at s.new_end c.args.own.now (omega (arith, c.requires.at, s.within.0)) c.requires.own
    (sym c.if-not-covers_old.ensures) (sym c.if-covers_old.ensures)
