use Rattle.std.proofs.Common.{◌∙◌, ap}
use Rattle.review_compare.specs.Body.Chosen.{standing_among}
use Rattle.review_compare.proofs.differences.listed_on.Goals as goal

pub returns : goal.returns
returns c =
    let p = c.args.pair.now in
    record {
      old = record {
        all = λ q on own at. c.in_ok-old.ensures.all q on at
            ∙ ap (standing_among p.old.checked.now p.old.blocks.items q on) c.deref.ensures.value ∙ c.requires.listed.old q on own;
        each = c.in_ok-old.ensures.each;
      };
      new = record {
        all = λ q on own at. c.in_ok-new.ensures.all q on at
            ∙ ap (standing_among p.new.checked.now p.new.blocks.items q on) c.deref-2.ensures.value ∙ c.requires.listed.new q on own;
        each = c.in_ok-new.ensures.each;
      };
    }
