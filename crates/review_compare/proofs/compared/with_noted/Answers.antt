use Rattle.std.proofs.Common.{inr}
use Rattle.review_compare.proofs.UnsettledLemmas.{stands-again}
use Rattle.review_compare.proofs.compared.with_noted.Goals as goal

pub returns-then-is_either_noted : goal.returns-then-is_either_noted
returns-then-is_either_noted c = record { old = c.or_noted-own.ensures; new = c.or_noted-other.ensures }

pub returns-in-Some : goal.returns-in-Some
returns-in-Some c = record { old = c.or_noted-own.ensures; new = inr c.in-Some.ensures }

pub returns-in-None : goal.returns-in-None
returns-in-None c = record {
  old = stands-again c.args.old.now c.args.overlap c.args.overlap.old c.or_noted-own.result c.noted_or.result
      c.or_noted-own.ensures c.noted_or.ensures;
  new = c.or_noted-other.ensures;
}
