use Rattle.std.proofs.Common.{length, refl}
use Rattle.std.proofs.lemmas.Option.{slice_get_read}
use Rattle.sudo_grammar.specs.declared.kind.Kind.TheVariants.{Cmnd}
use Rattle.sudo_grammar.specs.declared.policy.CommandSpec.{CommandSpec}
use Rattle.sudo_verdict.specs.Keys.{IsKeyOf}
use Rattle.sudo_verdict.proofs.KeyLaws.{more_related, more_count}
use Rattle.sudo_verdict.proofs.index.keys.command_keys.Goals as goal

pub loop-spec-preserved : goal.loop-spec-preserved
loop-spec-preserved c =
    let there = slice_get_read c.args.commands.now (length c.args.commands.now) c.loop-spec.spec-index
    c.spec-item.result refl c.loop-spec-test.true c.spec-item.is in
    let pushed = c.in_ok-push.ensures.items in
    let count = c.loop-spec.invariant.count in
    record {
      count = more_count c.loop-spec.keys.items c.push.new.self.items c.atom_key.result c.loop-spec.spec-index pushed count;
      have = more_related (λ k (s : CommandSpec). IsKeyOf c.args.checked.now Cmnd k s.command.atom)
          c.loop-spec.keys.items c.push.new.self.items c.args.commands.now c.atom_key.result c.spec-item.result
          c.loop-spec.spec-index pushed count
          c.loop-spec.invariant.have there c.atom_key.ensures;
    }
