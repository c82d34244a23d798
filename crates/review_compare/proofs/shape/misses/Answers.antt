use Rattle.std.proofs.Common.{◌∙◌, List, ℕ, not, ap}
use Rattle.sudo_match.specs.Pattern.{Part, fits}
use Rattle.review_compare.proofs.SimplyLemmas.{simple-parts}
use Rattle.review_compare.proofs.shape.misses.Goals as goal

pub returns-in-Some : goal.returns-in-Some
returns-in-Some c =
    rw c.in-Some.is
    (ap not (c.matches.ensures
    ∙ ap (λ (t : List ℕ). fits c.of.result t c.args.slash) c.as_slice.ensures.value
    ∙ ap (λ (ps : List Part). fits ps c.in-Some.text.items c.args.slash) (c.of.ensures ∙ simple-parts c.args.chars.now c.requires)))
