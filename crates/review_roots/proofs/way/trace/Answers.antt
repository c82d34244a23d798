use Rattle.std.proofs.Common.{◌<◌, ◌∙◌, ap, arith, length, subst, sym}
use Rattle.review_roots.specs.Ways.{worse}
use Rattle.review_roots.proofs.LoopLemmas.{back-at, chain-all, chain-asks, chain-by, chain-marked, chain-marks, chain-more, chain-password}
use Rattle.review_roots.proofs.LoopLemmas.{chain-row, chain-within, there}
use Rattle.review_roots.proofs.FirstLemmas.{AlongSoFar, along-all, along-more}
use Rattle.review_roots.proofs.way.trace.Goals as goal

pub loop-at-smaller : goal.loop-at-smaller
loop-at-smaller c = back-at c.args.found.now c.loop-at.at c.in-Some.next _ c.requires.back c.loop-at.invariant.inside c.in-Some.is

pub loop-at-preserved : goal.loop-at-preserved
loop-at-preserved c =
    let less = back-at c.args.found.now c.loop-at.at c.in-Some.next _ c.requires.back c.loop-at.invariant.inside c.in-Some.is in
    let inside : c.in-Some.next < length c.args.found.now = omega (arith, less, c.loop-at.invariant.inside) in
    record {
      inside = inside;
      so_far = chain-more c.args.found.now c.args.index c.loop-at.at c.in-Some.next c.loop-at.chain.items c.push.new.self.items _ _
          c.loop-at.invariant.inside inside c.in-Some.is c.in_ok-push.ensures.items c.loop-at.invariant.so_far;
      along = subst (AlongSoFar c.args.found.now c.args.index c.in-Some.next) (sym c.in_ok-push.ensures.items)
          (along-more c.args.found.now c.args.index c.loop-at.at c.in-Some.next c.loop-at.chain.items _ _
          (there c.args.found.now c.loop-at.at _ c.loop-at.invariant.inside) c.in-Some.is (there c.args.found.now c.in-Some.next _ inside)
          c.loop-at.invariant.along);
      within = chain-within c.args.found.now c.in-Some.next c.loop-at.chain.items c.push.new.self.items _ inside c.in_ok-push.ensures.items
          c.loop-at.invariant.within;
      row = chain-row c.args.found.now c.args.index c.loop-at.at c.in-Some.next c.loop-at.chain.items c.push.new.self.items _ _
          c.loop-at.invariant.inside inside c.in-Some.is c.in_ok-push.ensures.items c.loop-at.invariant.row;
      marks = chain-marks c.args.found.now c.args.index c.loop-at.at c.in-Some.next c.loop-at.chain.items
          c.push.new.self.items c.loop-at.marks _ _ _ _ c.loop-at.invariant.inside inside c.in-Some.is c.in_ok-push.ensures.items
          c.joined-marks.ensures c.loop-at.invariant.marks;
      asks = chain-asks c.args.found.now c.args.user c.args.index c.loop-at.at c.in-Some.next c.loop-at.chain.items
          c.push.new.self.items c.loop-at.password _ _ _ _ c.loop-at.invariant.inside inside c.in-Some.is c.in_ok-push.ensures.items
          (c.worse-password.ensures ∙ ap (worse c.loop-at.password) c.step_password.ensures) c.loop-at.invariant.asks;
    }

pub returns-clause-leads : goal.returns-clause-leads
returns-clause-leads c =
    chain-all c.args.found.now c.args.index c.loop-at.at c.loop-at.chain.items _ c.loop-at.invariant.inside c.in_default.is
    c.loop-at.invariant.so_far

pub returns-clause-along : goal.returns-clause-along
returns-clause-along c =
    along-all c.args.found.now c.args.index c.loop-at.at c.loop-at.chain.items _
    (there c.args.found.now c.loop-at.at _ c.loop-at.invariant.inside) c.in_default.is c.loop-at.invariant.along

pub returns-clause-row : goal.returns-clause-row
returns-clause-row c =
    chain-by c.args.found.now c.args.index c.loop-at.at c.loop-at.chain.items _ c.loop-at.invariant.inside c.in_default.is
    c.loop-at.invariant.row

pub returns-clause-password : goal.returns-clause-password
returns-clause-password c =
    chain-password c.args.found.now c.args.user c.args.index c.loop-at.at c.loop-at.chain.items c.loop-at.password _
    c.loop-at.invariant.inside c.in_default.is c.loop-at.invariant.asks

pub returns-clause-marks : goal.returns-clause-marks
returns-clause-marks c =
    chain-marked c.args.found.now c.args.index c.loop-at.at c.loop-at.chain.items c.loop-at.marks _ c.loop-at.invariant.inside
    c.in_default.is c.loop-at.invariant.marks
