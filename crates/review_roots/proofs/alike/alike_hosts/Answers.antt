use Rattle.std.proofs.Common.{◌∙◌, ◌+◌, ◌∷◌, [], ap, length, length-append}
use Rattle.review_roots.specs.Body.Alike.{HaveAlike, host_list}
use Rattle.review_roots.proofs.SoleLemmas.{firsts-more}
use Rattle.review_roots.proofs.alike.alike_hosts.Goals as goal

pub loop-index-preserved : goal.loop-index-preserved
loop-index-preserved c =
    let old = c.loop-index.firsts.items in
    let first = c.first_of_hosts.result in
    record {
      long = ap length c.in_ok-push.ensures.items ∙ length-append old (first ∷ []) ∙ ap (λ n. n + 1) c.loop-index.invariant.long;
      are = firsts-more (HaveAlike host_list) c.args.blocks.now old c.push.new.self.items c.loop-index.index first
          c.loop-index.invariant.long c.first_of_hosts.ensures c.in_ok-push.ensures.items c.loop-index.invariant.are;
    }
