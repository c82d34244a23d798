use Rattle.std.proofs.Common.{◌≡◌, ◌∙◌, [], List, not, ap, map, sym}
use Rattle.sudo_text.specs.declared.token.Ch.{Ch}
use Rattle.review_compare.specs.Covering.{parts_apart}
use Rattle.review_compare.specs.Simply.{char_part}
use Rattle.review_compare.proofs.SimplyLemmas.{fits-nothing, none-left}
use Rattle.review_compare.proofs.characters.parts_apart.Goals as goal

pub returns : goal.returns
returns c =
    let none : c.loop-ch.own.now ≡ [] = none-left c.loop-ch.own.now c.in_default.ensures.cases in
    ap not (c.are_stars.ensures ∙ sym (fits-nothing c.args.other_slash c.loop-ch.left.now))
    ∙ sym (c.loop-ch.invariant
    ∙ ap (λ (own : List Ch). parts_apart c.args.slash c.args.other_slash (map char_part own) (map char_part c.loop-ch.left.now)) none)
