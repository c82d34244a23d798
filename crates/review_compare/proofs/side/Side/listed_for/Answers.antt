use Rattle.std.proofs.Common.{◌++◌, ◌∙◌, ap, arith, get_or, refl, sym}
use Rattle.std.proofs.lemmas.List.{take_all}
use Rattle.review_compare.specs.Body.Chosen.{standing_among, standing_at, user_at}
use Rattle.review_compare.proofs.ChosenLemmas.{all-more, flat-more, flat-take, no-user}
use Rattle.review_compare.proofs.side.Side.listed_for.Goals as goal

pub loop-index-preserved : goal.loop-index-preserved
loop-index-preserved c =
    let p = c.args.self.now.checked.now in
    let bs = c.args.self.now.blocks.items in
    let u = c.args.user.now in
    let k = c.loop-index.index-index in
    let i = get_or c.args.near.now k 0 in
    record {
      all = λ q on is.
          flat-more (standing_at p bs q on) (standing_at p bs q on) c.lists_user_at.result i c.loop-index.indices.items
          c.push_if.new.indices.items c.in_ok-push_if.ensures (λ keep. refl) (λ leave. no-user p bs u q on i is
          (sym c.lists_user_at.ensures ∙ leave))
          ∙ ap (λ ds. ds ++ standing_at p bs q on i) (c.loop-index.invariant.all q on is)
          ∙ sym (flat-take (standing_at p bs q on) c.args.near.now k c.loop-index-test.true);
      each = all-more (user_at p bs u) c.lists_user_at.result i c.loop-index.indices.items c.push_if.new.indices.items
          c.in_ok-push_if.ensures (λ keep. sym c.lists_user_at.ensures ∙ keep) c.loop-index.invariant.each;
    }

pub returns : goal.returns
returns c =
    let p = c.args.self.now.checked.now in
    let bs = c.args.self.now.blocks.items in
    record {
      all = λ q on is.
          c.loop-index.invariant.all q on is
          ∙ ap (standing_among p bs q on) (take_all c.loop-index.index-index c.args.near.now (omega (arith, c.loop-index-test.false)));
      each = c.loop-index.invariant.each;
    }
