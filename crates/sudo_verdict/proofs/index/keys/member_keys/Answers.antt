use Rattle.std.proofs.Common.{length, refl}
use Rattle.std.proofs.lemmas.Option.{slice_get_read}
use Rattle.sudo_grammar.specs.declared.kind.Member.{Member}
use Rattle.sudo_verdict.specs.Keys.{IsKeyOf}
use Rattle.sudo_verdict.proofs.KeyLaws.{more_related, more_count}
use Rattle.sudo_verdict.proofs.index.keys.member_keys.Goals as goal

pub loop-member-preserved : goal.loop-member-preserved
loop-member-preserved c =
    let there = slice_get_read c.args.members.now (length c.args.members.now) c.loop-member.member-index
    c.member-item.result refl c.loop-member-test.true c.member-item.is in
    let pushed = c.in_ok-push.ensures.items in
    let count = c.loop-member.invariant.count in
    record {
      count = more_count c.loop-member.keys.items c.push.new.self.items c.atom_key.result c.loop-member.member-index pushed count;
      have = more_related (λ k (m : Member). IsKeyOf c.args.checked.now c.args.kind k m.atom) c.loop-member.keys.items
          c.push.new.self.items c.args.members.now c.atom_key.result c.member-item.result c.loop-member.member-index pushed count
          c.loop-member.invariant.have there c.atom_key.ensures;
    }
