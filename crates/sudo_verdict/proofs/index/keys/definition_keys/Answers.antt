use Rattle.std.proofs.Common.{length, refl, sym}
use Rattle.std.proofs.lemmas.Option.{slice_get_read}
use Rattle.sudo_grammar.specs.declared.policy.Definition.{Definition}
use Rattle.sudo_verdict.specs.Keys.{HaveKeys}
use Rattle.sudo_verdict.proofs.KeyLaws.{more_related, more_count}
use Rattle.sudo_verdict.proofs.index.keys.definition_keys.Goals as goal

pub loop-definition-preserved : goal.loop-definition-preserved
loop-definition-preserved c =
    let there = slice_get_read c.args.definitions.now (length c.args.definitions.now)
    c.loop-definition.definition-index c.definition-item.result refl c.loop-definition-test.true c.definition-item.is in
    let pushed = c.in_ok-push.ensures.items in
    let count = c.loop-definition.invariant.count in
    record {
      count = more_count c.loop-definition.keys.items c.push.new.self.items c.in_ok-member_keys.field-0
          c.loop-definition.definition-index pushed count;
      have = more_related (λ ks (d : Definition). HaveKeys c.args.checked.now c.args.kind ks d.members)
          c.loop-definition.keys.items c.push.new.self.items c.args.definitions.now c.in_ok-member_keys.field-0
          c.definition-item.result c.loop-definition.definition-index pushed count
          c.loop-definition.invariant.have there (rw (sym c.as_slice.ensures) c.in_ok-member_keys.ensures);
    }
