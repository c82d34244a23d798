use Rattle.std.proofs.Common.{rules, ◌≡◌, ◌-◌, ℕ, length, subst}
use Rattle.review_compare.specs.Body.Unchanged.{AreAlikeAt}
use Rattle.review_compare.proofs.UnchangedLemmas.{all-more}
use Rattle.review_compare.proofs.common.back_of.Goals as goal

pub loop-back-preserved : goal.loop-back-preserved
loop-back-preserved c =
    let old = c.args.old.now in
    let new = c.args.new.now in
    let k = c.loop-back.back in
    let first : c.len-old_end.result ≡ length c.args.old.now.blocks.items = search rules in
    let second : c.len-new_end.result ≡ length c.args.new.now.blocks.items = search rules in
    all-more k (λ i. AreAlikeAt old.checked.now old.blocks.items new.checked.now new.blocks.items (length old.blocks.items - i - 1)
    (length new.blocks.items - i - 1)) c.loop-back.invariant
    (subst (λ (n : ℕ). AreAlikeAt old.checked.now old.blocks.items new.checked.now new.blocks.items (n - k - 1)
    (length new.blocks.items - k - 1)) first
    (subst (λ (n : ℕ). AreAlikeAt old.checked.now old.blocks.items new.checked.now new.blocks.items (c.len-old_end.result - k - 1)
    (n - k - 1)) second (c.in_ok-are_alike_at.ensures c.if-not-branch.false)))
