use Rattle.std.proofs.Common.{flat_map}
use Rattle.sudo_verdict.specs.Grants.{section_grants}
use Rattle.review_roots.specs.Blocks.{block_rows}
use Rattle.review_roots.proofs.BlockLemmas.{grants-more}
use Rattle.review_roots.proofs.blocks.push_sections.Goals as goal

pub loop-section-preserved : goal.loop-section-preserved
loop-section-preserved c =
    let p = c.args.checked.now in
    record {
      rows = grants-more p (section_grants p c.args.place c.args.users.now) c.args.sections.now c.loop-section.section-index
          c.section-item.result (flat_map block_rows c.args.blocks.now.items) (flat_map block_rows c.loop-section.blocks.items)
          (flat_map block_rows c.push_section.new.blocks.items) c.loop-section-test.true c.section-item.is c.loop-section.invariant.rows
          c.in_ok-push_section.ensures.rows;
      resolve = λ old. c.in_ok-push_section.ensures.resolve (c.loop-section.invariant.resolve old);
    }
