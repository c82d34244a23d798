use Rattle.std.proofs.Common.{◌≡◌, ◌<◌, ◌∙◌, [], List, ap, arith, flat_map, get_or, length, subst}
use Rattle.sudo_grammar.specs.declared.policy.Entry.{Entry}
use Rattle.sudo_grammar.specs.declared.policy.Policy.{Policy}
use Rattle.sudo_verdict.specs.Grants.{entry_grants}
use Rattle.sudo_verdict.specs.Body.Resolved.{body_resolves}
use Rattle.sudo_verdict.proofs.RuleLists.{bodies_resolve}
use Rattle.review_compare.specs.Blocks.{block_wides}
use Rattle.review_compare.proofs.BlockLemmas.{entries-all, grants-more}
use Rattle.review_grants.proofs.ListSteps.{all-there}
use Rattle.review_compare.proofs.block.blocks_of.Goals as goal

pub push_entry-requires : goal.push_entry-requires
push_entry-requires c =
    let p = c.args.checked.now in
    let same : c.as_slice-entry-items.result.now ≡ p.entries = c.as_slice-entry-items.ensures
    ∙ ap (λ (q : Policy). q.entries) c.policy.ensures.value in
    let at = c.loop-entry.entry-index in
    let entry = c.entry-item.result in
    let less : at < length p.entries = subst (λ (es : List Entry). at < length es) same c.loop-entry-test.true in
    let is : entry ≡ get_or p.entries at entry = c.entry-item.is ∙ ap (λ (es : List Entry). get_or es at entry) same in
    all-there (λ (e : Entry). body_resolves p e.body) p.entries at entry less is (bodies_resolve p c.policy.ensures.sound)

pub loop-entry-preserved : goal.loop-entry-preserved
loop-entry-preserved c =
    let p = c.args.checked.now in
    let same : c.as_slice-entry-items.result.now ≡ p.entries = c.as_slice-entry-items.ensures
    ∙ ap (λ (q : Policy). q.entries) c.policy.ensures.value in
    let at = c.loop-entry.entry-index in
    let entry = c.entry-item.result in
    let less : at < length p.entries = subst (λ (es : List Entry). at < length es) same c.loop-entry-test.true in
    let is : entry ≡ get_or p.entries at entry = c.entry-item.is ∙ ap (λ (es : List Entry). get_or es at entry) same in
    record {
      rows = grants-more (entry_grants p) p.entries at entry []
          (flat_map block_wides c.loop-entry.blocks.items)
          (flat_map block_wides c.push_entry.new.blocks.items) less is c.loop-entry.invariant.rows c.in_ok-push_entry.ensures.rows;
      resolve = c.in_ok-push_entry.ensures.resolve c.loop-entry.invariant.resolve;
    }

pub returns-clause-rows : goal.returns-clause-rows
returns-clause-rows c =
    let p = c.args.checked.now in
    let same : c.as_slice-entry-items.result.now ≡ p.entries = c.as_slice-entry-items.ensures
    ∙ ap (λ (q : Policy). q.entries) c.policy.ensures.value in
    let long = ap length same in
    entries-all p c.loop-entry.blocks.items c.loop-entry.entry-index (omega (arith, long, c.loop-entry-test.false))
    c.loop-entry.invariant.rows
