use Rattle.std.proofs.Common.{◌++◌, ◌∙◌, ap, arith, get_or, refl, sym}
use Rattle.std.proofs.lemmas.Bool.{and_from}
use Rattle.std.proofs.lemmas.List.{take_all}
use Rattle.review_compare.specs.Body.Chosen.{standing_among, standing_at, host_at, listed_at, user_at}
use Rattle.review_compare.proofs.ChosenLemmas.{all-at, all-more, flat-more, flat-take, no-host}
use Rattle.review_compare.proofs.side.Side.listed_on.Goals as goal

pub loop-index-preserved : goal.loop-index-preserved
loop-index-preserved c =
    let p = c.args.self.now.checked.now in
    let bs = c.args.self.now.blocks.items in
    let u = c.args.user.now in
    let m = c.args.host.now in
    let k = c.loop-index.index-index in
    let i = get_or c.args.listed.now k 0 in
    record {
      all = λ q on at.
          flat-more (standing_at p bs q on) (standing_at p bs q on) c.lists_host_by.result i c.loop-index.indices.items
          c.push_if.new.indices.items c.in_ok-push_if.ensures (λ keep. refl) (λ leave. no-host p bs m q on i at
          (sym c.lists_host_by.ensures ∙ leave))
          ∙ ap (λ ds. ds ++ standing_at p bs q on i) (c.loop-index.invariant.all q on at)
          ∙ sym (flat-take (standing_at p bs q on) c.args.listed.now k c.loop-index-test.true);
      each = all-more (listed_at p bs u m) c.lists_host_by.result i c.loop-index.indices.items c.push_if.new.indices.items
          c.in_ok-push_if.ensures
          (λ keep. and_from (user_at p bs u i) (host_at p bs m i)
          (all-at (user_at p bs u) c.args.listed.now k c.loop-index-test.true c.requires.listed) (sym c.lists_host_by.ensures ∙ keep))
          c.loop-index.invariant.each;
    }

pub returns : goal.returns
returns c =
    let p = c.args.self.now.checked.now in
    let bs = c.args.self.now.blocks.items in
    record {
      all = λ q on at.
          c.loop-index.invariant.all q on at
          ∙ ap (standing_among p bs q on) (take_all c.loop-index.index-index c.args.listed.now (omega (arith, c.loop-index-test.false)));
      each = c.loop-index.invariant.each;
    }
