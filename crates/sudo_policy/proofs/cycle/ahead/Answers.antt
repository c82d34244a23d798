use Rattle.std.proofs.Common.{◌<◌, ◌≡◌, ℕ, List, Some, true, false, Option, length, get_or, sym, ap, ◌∙◌, subst, refl}
use Rattle.std.specs.Prelude.{slice_get, Contains}
use Rattle.std.proofs.lemmas.Option.{slice_get_read}
use Rattle.sudo_policy.specs.Body.Graph.{Links}
use Rattle.sudo_policy.specs.Body.Marking.{AreSet}
use Rattle.sudo_policy.proofs.MarkingLemmas.{row-inside, AreSet-back}
use Rattle.sudo_policy.proofs.StateLemmas.{within_get}
use Rattle.sudo_policy.proofs.PastLemmas.{row-path, path_row, PathPast-end}
use Rattle.sudo_policy.proofs.cycle.ahead.Goals as goal

-- the row of the alias
row_at : (g : Links) (node : ℕ) (row slice : List (Option ℕ)) → node < length g → row ≡ get_or g node row
    → slice ≡ row → slice_get g node ≡ Some slice
row_at g node row slice inside is same = slice_get_read g (length g) node row refl inside is ∙ ap Some (sym same)

pub spread-requires-clause-inside : goal.spread-requires-clause-inside
spread-requires-clause-inside c =
    row-inside c.args.links.now c.args.node c.as_slice.result.now c.requires.closed
    (row_at c.args.links.now c.args.node c.index-links-node.result c.as_slice.result.now c.requires.inside
    c.index-links-node.is c.as_slice.ensures)

pub set_marks-requires : goal.set_marks-requires
set_marks-requires c = record {
  inside = λ i h. within_get c.spread.new.marks i true
      (c.in_ok-found.ensures.marked.those i (subst (λ (xs : List ℕ). Contains xs i) c.as_slice-2.ensures.value h));
}

pub returns-clause-found : goal.returns-clause-found
returns-clause-found c i =
    let g = c.args.links.now in
    let node = c.args.node in
    let marks = c.args.marks.now in
    let row = c.as_slice.result.now in
    let at = row_at g node c.index-links-node.result row c.requires.inside c.index-links-node.is c.as_slice.ensures in (
      (λ h. row-path g marks node row at i ((c.in_ok-found.ensures.found i).0 h)),
      (λ path. (c.in_ok-found.ensures.found i).1 (path_row g marks node row at i path)),
    )

pub returns-clause-same : goal.returns-clause-same
returns-clause-same c =
    let g = c.args.links.now in
    let node = c.args.node in
    let old = c.args.marks.now in
    let row = c.as_slice.result.now in
    let found = c.in_ok-found.found.items in
    let at = row_at g node c.index-links-node.result row c.requires.inside c.index-links-node.is c.as_slice.ensures in
    let back : AreSet false found c.spread.new.marks c.set_marks.new.marks =
    subst (λ (xs : List ℕ). AreSet false xs c.spread.new.marks c.set_marks.new.marks) c.as_slice-2.ensures.value c.set_marks.ensures in
    AreSet-back true false found old c.spread.new.marks c.set_marks.new.marks c.in_ok-found.ensures.marked back
    (λ i h. PathPast-end g old node i (row-path g old node row at i ((c.in_ok-found.ensures.found i).0 h)))
