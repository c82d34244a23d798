use Rattle.std.proofs.Common.{◌≡◌, arith, refl, subst, sym}
use Rattle.std.specs.Prelude.{All}
use Rattle.std.proofs.lemmas.List.Elements.{All-push}
use Rattle.review_roots.specs.Body.Found.{IsAimed}
use Rattle.review_roots.proofs.LayerLemmas.{aims-next}
use Rattle.review_roots.proofs.LikeLemmas.{like-told, tell-more}
use Rattle.review_roots.proofs.LoopLemmas.{there}
use Rattle.review_roots.specs.declared.layer.Aimed.{Aimed}
use Rattle.review_roots.specs.Body.Found.{TellLike}
use Rattle.review_roots.proofs.AloneLemmas.{agree-all}
use Rattle.review_roots.proofs.layer.aims_of.Goals as goal

pub loop-index-preserved : goal.loop-index-preserved
loop-index-preserved c =
    let q = c.args.sought in
    let l = c.args.level in
    let n = c.args.start in
    let i = c.loop-index.index in
    let found = c.args.found.now in
    record {
      aims = aims-next q l n i found c.loop-index.aims.items c.push.new.self.items _ _ (omega (arith, c.loop-index.auto.index))
          (there found i _ (omega (arith, c.loop-index-test.true))) refl c.in_ok-push.ensures.items c.loop-index.invariant.aims;
      aimed = subst (All (IsAimed c.args.steps.now)) (sym c.in_ok-push.ensures.items)
          (All-push (IsAimed c.args.steps.now) c.loop-index.aims.items _ c.loop-index.invariant.aimed
          (record { level = c.requires.level; toward = c.in_ok-toward.ensures.toward; strong = c.in_ok-toward.ensures.strong }));
      level = subst (All (λ a. a.aim.level ≡ l)) (sym c.in_ok-push.ensures.items)
          (All-push (λ a. a.aim.level ≡ l) c.loop-index.aims.items _ c.loop-index.invariant.level refl);
      counted = subst (All (λ a. a.aim.counted ≡ q.counted)) (sym c.in_ok-push.ensures.items)
          (All-push (λ a. a.aim.counted ≡ q.counted) c.loop-index.aims.items _ c.loop-index.invariant.counted refl);
      like = subst TellLike (sym c.in_ok-push.ensures.items)
          (tell-more c.loop-index.aims.items _ c.loop-index.invariant.like
          (λ is. like-told _ _ _ _ _ c.deref.ensures.value c.get.ensures (c.has_like-is_like.ensures is)));
    }

pub has_like-is_like-requires-clause-level : goal.has_like-is_like-requires-clause-level
has_like-is_like-requires-clause-level c =
    subst (All (λ (a : Aimed). a.aim.level ≡ c.args.level)) (sym c.deref.ensures.value) c.loop-index.invariant.level

pub has_like-is_like-requires-clause-counted : goal.has_like-is_like-requires-clause-counted
has_like-is_like-requires-clause-counted c =
    subst (All (λ (a : Aimed). a.aim.counted ≡ c.args.sought.counted)) (sym c.deref.ensures.value) c.loop-index.invariant.counted

pub has_like-is_like-requires-clause-alone : goal.has_like-is_like-requires-clause-alone
has_like-is_like-requires-clause-alone c =
    agree-all c.args.steps.now c.loop-index.aims.items _ _ _ _ c.in_ok-toward.ensures.toward c.get.ensures c.deref.ensures.value
    c.loop-index.invariant.aimed
