use Rattle.std.proofs.Common.{List, ℕ, ◌∙◌, ap}
use Rattle.review_texts.specs.Places.{list_at}
use Rattle.review_texts.proofs.listed.members_at.Goals as goal

pub returns : goal.returns
returns c = record {
  kind = c.in-Some.kind;
  list = rw c.in-Some.is at c.in_ok-kind.ensures;
  is = c.in_ok-put.ensures
      ∙ ap (λ (text : List ℕ). list_at c.args.group c.in-Some.kind c.args.known.now text c.args.at) c.as_slice.ensures;
}
