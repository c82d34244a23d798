use Rattle.std.proofs.Common.{rules, ◌<◌, ◌≡◌, ℕ, [], List, Some, length, get_or, sym, ap, ◌∙◌, subst, arith, refl, inl, Option}
use Rattle.std.specs.Prelude.{slice_get}
use Rattle.std.proofs.lemmas.Option.{slice_get_read}
use Rattle.sudo_policy.specs.Body.Graph.{Links}
use Rattle.sudo_policy.specs.Body.Marking.{MarksRow}
use Rattle.sudo_policy.proofs.MarkingLemmas.{row-inside}
use Rattle.sudo_policy.proofs.PastLemmas.{Spreads, Spreads-begin, Spreads-next, Spreads-found, Spreads-set, waiting_inside}
use Rattle.sudo_policy.proofs.reach.spread.Goals as goal

-- the row of an alias that waited
row_at : (g : Links) (alias : ℕ) (row slice : List (Option ℕ)) → alias < length g → row ≡ get_or g alias row
    → slice ≡ row → slice_get g alias ≡ Some slice
row_at g alias row slice inside is same = slice_get_read g (length g) alias row refl inside is ∙ ap Some (sym same)

pub mark_row-requires : goal.mark_row-requires
mark_row-requires c = record {
  inside = λ i h. (let less = c.requires.inside i h in let long = c.requires.sizes in
      omega (arith, less, long));
}

pub loop-alias-init : goal.loop-alias-init
loop-alias-init c =
    let marks = c.mark_row.new.marks in
    let work = c.mark_row.new.work.items in
    let begun : MarksRow c.args.roots.now c.args.marks.now [] marks work =
    subst (λ (xs : List ℕ). MarksRow c.args.roots.now c.args.marks.now xs marks work) c.new-work.ensures.items c.in_ok-mark_row.ensures in
    subst (λ (xs : List ℕ). Spreads c.args.links.now c.args.roots.now c.args.marks.now xs marks work) (sym c.new-found.ensures.items)
    (Spreads-begin c.args.links.now c.args.roots.now c.args.marks.now marks work begun)

pub offset_bounds-links-alias : goal.offset_bounds-links-alias
offset_bounds-links-alias c =
    let inside : c.in-Some.alias < length c.args.links.now =
    waiting_inside c.args.links.now c.args.roots.now c.args.marks.now c.loop-alias.found.items c.loop-alias.marks
    c.loop-alias.work.items c.pop.new.self.items c.in-Some.alias c.loop-alias.invariant c.in-Some.ensures.items c.requires.sizes in
    search rules

pub bounds-links-alias : goal.bounds-links-alias
bounds-links-alias c = waiting_inside c.args.links.now c.args.roots.now c.args.marks.now c.loop-alias.found.items
    c.loop-alias.marks c.loop-alias.work.items c.pop.new.self.items c.in-Some.alias c.loop-alias.invariant
    c.in-Some.ensures.items c.requires.sizes

pub mark_row-requires-in-Some : goal.mark_row-requires-in-Some
mark_row-requires-in-Some c =
    let g = c.args.links.now in
    let alias = c.in-Some.alias in
    let inside = waiting_inside g c.args.roots.now c.args.marks.now c.loop-alias.found.items c.loop-alias.marks
    c.loop-alias.work.items c.pop.new.self.items alias c.loop-alias.invariant c.in-Some.ensures.items c.requires.sizes in
    let at = row_at g alias c.index-links-alias.result c.as_slice.result.now inside c.index-links-alias.is c.as_slice.ensures in
    let long = c.loop-alias.invariant.same_length in
    let sizes = c.requires.sizes in
    record {
      inside = λ i h. (let less = row-inside g alias c.as_slice.result.now c.requires.closed at i h in
          omega (arith, less, long, sizes));
    }

pub loop-alias-preserved : goal.loop-alias-preserved
loop-alias-preserved c =
    let g = c.args.links.now in
    let roots = c.args.roots.now in
    let old = c.args.marks.now in
    let alias = c.in-Some.alias in
    let found = c.loop-alias.found.items in
    let before = c.loop-alias.marks in
    let marks = c.mark_row-in-Some.new.marks in
    let work = c.mark_row-in-Some.new.work.items in
    let inside = waiting_inside g roots old found before c.loop-alias.work.items c.pop.new.self.items alias
    c.loop-alias.invariant c.in-Some.ensures.items c.requires.sizes in
    let at = row_at g alias c.index-links-alias.result c.as_slice.result.now inside c.index-links-alias.is c.as_slice.ensures in
    subst (λ (xs : List ℕ). Spreads g roots old xs marks work) (sym c.in_ok-push.ensures.items)
    (Spreads-next g roots c.as_slice.result.now alias old found before marks c.loop-alias.work.items
    c.pop.new.self.items work c.in-Some.ensures.items at c.loop-alias.invariant c.in_ok-mark_row-2.ensures)

pub returns-clause-found : goal.returns-clause-found
returns-clause-found c i = (
  (λ h. c.loop-alias.invariant.sound i (inl h)),
  Spreads-found c.args.links.now c.args.roots.now c.args.marks.now c.loop-alias.found.items c.loop-alias.marks c.loop-alias.work.items
      (λ j h. (let less = h.1 in let none = c.in_default.ensures.len in let held = c.loop-alias.work.ok.0 in
      search rules)) c.loop-alias.invariant i,
)

pub returns-clause-marked : goal.returns-clause-marked
returns-clause-marked c =
    Spreads-set c.args.links.now c.args.roots.now c.args.marks.now c.loop-alias.found.items c.loop-alias.marks c.loop-alias.work.items
    (λ j h. (let less = h.1 in let none = c.in_default.ensures.len in let held = c.loop-alias.work.ok.0 in
    search rules)) c.loop-alias.invariant
