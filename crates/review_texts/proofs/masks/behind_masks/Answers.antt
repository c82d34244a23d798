use Rattle.std.proofs.Common.{◌≡◌, ℕ, ◌-◌, sym, subst, arith}
use Rattle.sudo_text.specs.declared.line.Line.{Line}
use Rattle.review_texts.specs.Masks.{IsBehind}
use Rattle.review_texts.proofs.FormPlaces.{behind_none, behind_unmasked, behind_more, mask_within}
use Rattle.review_texts.proofs.masks.behind_masks.Goals as goal

pub returns-in_default : goal.returns-in_default
returns-in_default c =
    let none = rw c.in_default.is at c.in_ok-mask.ensures in
    c.loop-left.invariant c.loop-left.line (behind_unmasked c.args.readable.now c.loop-left.left c.loop-left.line none)

pub behind-requires : goal.behind-requires
behind-requires c =
    let is = rw c.in-Some.is at c.in_ok-mask.ensures in
    mask_within c.args.readable.now c.loop-left.line c.in-Some.mask is

pub loop-left-preserved : goal.loop-left-preserved
loop-left-preserved c = λ masked rest.
    let is = rw c.in-Some.is at c.in_ok-mask.ensures in
    c.loop-left.invariant masked
    (behind_more c.args.readable.now c.loop-left.left (c.loop-left.left - 1) c.loop-left.line masked c.in-Some.mask is (omega arith)
    (subst (λ (l : Line). IsBehind c.args.readable.now (c.loop-left.left - 1) l masked) c.in_ok-line.ensures rest))

pub returns : goal.returns
returns c =
    let none : c.loop-left.left ≡ 0 = omega arith in
    c.loop-left.invariant c.loop-left.line
    (subst (λ (n : ℕ). IsBehind c.args.readable.now n c.loop-left.line c.loop-left.line) (sym none)
    (behind_none c.args.readable.now c.loop-left.line))
