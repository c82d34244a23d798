use Rattle.std.proofs.Common.{length, refl}
use Rattle.std.proofs.lemmas.Option.{slice_get_read}
use Rattle.sudo_verdict.specs.Keys.{HaveSectionKeys}
use Rattle.sudo_verdict.proofs.KeyLaws.{more_related, more_count}
use Rattle.sudo_verdict.proofs.index.keys.sections_keys.Goals as goal

pub loop-section-preserved : goal.loop-section-preserved
loop-section-preserved c =
    let there = slice_get_read c.args.sections.now (length c.args.sections.now) c.loop-section.section-index
    c.section-item.result refl c.loop-section-test.true c.section-item.is in
    let pushed = c.in_ok-push.ensures.items in
    let count = c.loop-section.invariant.count in
    record {
      count = more_count c.loop-section.keys.items c.push.new.self.items c.in_ok-section_keys.field-0
          c.loop-section.section-index pushed count;
      have = more_related (HaveSectionKeys c.args.checked.now) c.loop-section.keys.items c.push.new.self.items
          c.args.sections.now c.in_ok-section_keys.field-0 c.section-item.result c.loop-section.section-index pushed count
          c.loop-section.invariant.have there c.in_ok-section_keys.ensures;
    }

pub returns : goal.returns
returns c = rw c.from_vec.ensures c.loop-section.invariant.have
