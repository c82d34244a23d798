use Rattle.std.proofs.Common.{length, refl, ◌∙◌, ap}
use Rattle.std.proofs.lemmas.Option.{slice_get_read}
use Rattle.sudo_grammar.specs.declared.policy.Entry.{Entry}
use Rattle.sudo_grammar.specs.declared.policy.Policy.{Policy}
use Rattle.sudo_verdict.specs.Keys.{HaveBodyKeys}
use Rattle.sudo_verdict.proofs.KeyLaws.{more_related, more_count, are_keys}
use Rattle.sudo_verdict.proofs.index.keys.Keys.of.Goals as goal

pub loop-entry-preserved : goal.loop-entry-preserved
loop-entry-preserved c =
    let there = slice_get_read c.as_slice-entries.result.now (length c.as_slice-entries.result.now)
    c.loop-entry.entry-index c.entry-item.result refl c.loop-entry-test.true c.entry-item.is in
    let pushed = c.in_ok-push.ensures.items in
    let count = c.loop-entry.invariant.count in
    record {
      count = more_count c.loop-entry.rows.items c.push.new.self.items c.in_ok-body_keys.field-0 c.loop-entry.entry-index pushed count;
      have = more_related (λ ks (e : Entry). HaveBodyKeys c.args.checked.now ks e.body) c.loop-entry.rows.items
          c.push.new.self.items c.as_slice-entries.result.now c.in_ok-body_keys.field-0 c.entry-item.result
          c.loop-entry.entry-index pushed count
          c.loop-entry.invariant.have there c.in_ok-body_keys.ensures;
    }

pub returns : goal.returns
returns c =
    rw c.from_vec.ensures
    (are_keys c.args.checked.now c.loop-entry.rows.items c.as_slice-entries.result.now
    (c.as_slice-entries.ensures ∙ ap (λ (p : Policy). p.entries) c.policy.ensures.value) c.loop-entry.invariant.have)
