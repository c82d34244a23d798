use Rattle.std.proofs.Common.{◌∙◌, ◌≡◌, ◌+◌, ◌||◌, suc, drop, false, sym, ap, arith}
use Rattle.review_cautions.specs.Body.Signs.{has_late_close}
use Rattle.review_cautions.proofs.GroupLaws.{at_close, no_close}
use Rattle.review_cautions.proofs.groups.has_late_close.Goals as goal

pub behind-rest-requires : goal.behind-rest-requires
behind-rest-requires c = c.in-Some.ensures.0.high

pub returns-then-follows_gap : goal.returns-then-follows_gap
returns-then-follows_gap c =
    let rest = c.loop-at.rest.now in
    let is = c.in-Some.ensures in
    sym (at_close false rest c.in-Some.at is.0.high is.0.before is.1
    ∙ ap (λ t. t || has_late_close false (drop (suc c.in-Some.at) rest)) (sym c.follows_gap.ensures ∙ c.if-follows_gap.true))
    ∙ c.loop-at.invariant

pub loop-at-preserved : goal.loop-at-preserved
loop-at-preserved c =
    let rest = c.loop-at.rest.now in
    let is = c.in-Some.ensures in
    let next : c.in-Some.at + 1 ≡ suc c.in-Some.at = omega arith in
    ap (has_late_close false) (c.behind-rest.ensures.rest ∙ ap (λ n. drop n rest) next)
    ∙ sym (at_close false rest c.in-Some.at is.0.high is.0.before is.1
    ∙ ap (λ t. t || has_late_close false (drop (suc c.in-Some.at) rest)) (sym c.follows_gap.ensures ∙ c.if-follows_gap.false))
    ∙ c.loop-at.invariant

pub returns : goal.returns
returns c = sym (no_close false c.loop-at.rest.now c.in_default.ensures) ∙ c.loop-at.invariant
