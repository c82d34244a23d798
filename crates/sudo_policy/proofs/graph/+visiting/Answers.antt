use Rattle.std.proofs.Common.{rules, ◌≡◌, ◌<◌, ℕ, Some, None, List, Option, length, ◌+◌, ◌-◌, ◌∷◌, ◌⊎◌, inl, inr, set}
use Rattle.std.proofs.Common.{drop, get_or, sym, ◌∙◌, ap, subst, arith, refl}
use Rattle.std.specs.Prelude.{slice_get}
use Rattle.std.proofs.lemmas.Option.{slice_get_read, get_or_from_slice_get}
use Rattle.std.proofs.lemmas.List.{drop_more, length-set}
use Rattle.sudo_policy.specs.declared.graph.State.{State}
use Rattle.sudo_policy.specs.declared.graph.State.TheVariants.{New, Open}
use Rattle.sudo_policy.specs.declared.graph.Measure.{Measure}
use Rattle.sudo_policy.specs.Following.{option_join}
use Rattle.sudo_policy.specs.Body.Graph.{Edge, Path, step, Turned, measure_of_both, link_measure, done_measure}
use Rattle.sudo_policy.proofs.GraphLemmas.{Path-edge}
use Rattle.sudo_policy.proofs.StateLemmas.{Known, settled_as, known_none, near_open, known_next, start-holds}
use Rattle.sudo_policy.proofs.StateLemmas.{end_holds, end_turned, end_settled, row-edge, new_count-below, within_get}
use Rattle.sudo_policy.proofs.StateLemmas.{Turned-refl, Turned-trans}
use Rattle.sudo_policy.proofs.graph.+visiting.Goals as goal
use Rattle.sudo_policy.proofs.graph.+visiting.Goals.{visit-in-Some, visit-in-None+in_ok-push-in-None}

pub visit-loop-at-init : goal.visit-loop-at-init
visit-loop-at-init t c =
    let inside = within_get c.args.states.now c.args.node New c.requires.new in
    record {
      within = omega arith;
      visiting = record {
        held = start-holds c.args.links.now c.args.states.now c.args.node inside c.requires.held;
        turned = Turned-refl (set c.args.states.now c.args.node Open);
        same_length = length-set c.args.states.now c.args.node Open;
        known = known_none c.args.links.now c.args.node c.as_slice-row.result.now;
      };
    }

-- the row of the alias
row_at : (g : List (List (Option ℕ))) (start : List State) (node : ℕ) (item row : List (Option ℕ))
    → slice_get start node ≡ Some New → length start ≡ length g → item ≡ get_or g node item → row ≡ item → slice_get g node ≡ Some row
row_at g start node item row new sizes is same =
    let inside = within_get start node New new in
    slice_get_read g (length g) node item refl (omega (arith, inside, sizes)) is ∙ ap Some (sym same)

pub visit-visit_link-requires : goal.visit-visit_link-requires
visit-visit_link-requires t c =
    let g = c.args.links.now in
    let start = c.args.states.now in
    let v = c.loop-at.invariant.visiting in
    let row = c.as_slice-row.result.now in
    let positive = c.loop-at-test.true in
    let inside : c.loop-at.at - 1 < length row = (let w = c.loop-at.invariant.within in omega (arith, w, positive)) in
    let less = new_count-below start c.loop-at.states c.args.node c.requires.new v.same_length v.turned in (
      omega (arith, less),
      (
        c.requires.closed,
        (
          v.same_length ∙ c.requires.sizes,
          (
            v.held,
            (
              near_open g start c.loop-at.states c.args.node v.same_length c.requires.new c.requires.lead v.turned,
              (λ next named. row-edge g c.args.node (c.loop-at.at - 1) next row (get_or row (c.loop-at.at - 1) None)
                  (row_at c.args.links.now c.args.states.now c.args.node c.index-links-node.result
                  c.as_slice-row.result.now c.requires.new c.requires.sizes c.index-links-node.is
                  c.as_slice-row.ensures) inside refl named),
            ),
          ),
        ),
      ),
    )

pub visit-loop-at-preserved : goal.visit-loop-at-preserved
visit-loop-at-preserved t c =
    let g = c.args.links.now in
    let start = c.args.states.now in
    let states = c.visit_link.new.states in
    let node = c.args.node in
    let v = c.loop-at.invariant.visiting in
    let row = c.as_slice-row.result.now in
    let at = c.loop-at.at - 1 in
    let link = get_or row at None in
    let positive = c.loop-at-test.true in
    let within = c.loop-at.invariant.within in
    let inside : at < length row = omega (arith, within, positive) in
    let up : at + 1 ≡ c.loop-at.at = omega (arith, positive) in
    let long : length states ≡ length start = c.visit_link.auto.states ∙ v.same_length in
    let turned : Turned (set start node Open) states = Turned-trans (set start node Open) c.loop-at.states states
    (v.same_length ∙ sym (length-set start node Open)) v.turned c.in_ok-visit_link.ensures.turned in
    let near = near_open g start states node long c.requires.new c.requires.lead turned in
    let edge : (next : ℕ) → link ≡ Some next → Edge g node next =
    λ next named. row-edge g node at next row link
    (row_at c.args.links.now c.args.states.now c.args.node c.index-links-node.result c.as_slice-row.result.now
    c.requires.new c.requires.sizes c.index-links-node.is c.as_slice-row.ensures) inside refl named in
    let known : Known g node (drop (at + 1) row) c.loop-at.measure =
    subst (λ (k : ℕ). Known g node (drop k row) c.loop-at.measure) (sym up) v.known in
    let next : Known g node (link ∷ drop (at + 1) row)
    (option_join measure_of_both (link_measure (done_measure states) link) c.loop-at.measure) =
    known_next g states node (drop (at + 1) row) c.loop-at.measure link c.requires.closed (long
    ∙ c.requires.sizes) c.in_ok-visit_link.ensures.holds near c.in_ok-visit_link.ensures.visited edge known in
    let split : drop at row ≡ link ∷ drop (at + 1) row = drop_more row at None inside in
    let same : c.joined-measure.result ≡ option_join measure_of_both (link_measure (done_measure states) link) c.loop-at.measure =
    c.joined-measure.ensures ∙ ap (λ (o : Option Measure). option_join measure_of_both o c.loop-at.measure) c.link_measure.ensures in
    let one : Known g node (drop at row) (option_join measure_of_both (link_measure (done_measure states) link)
    c.loop-at.measure) = subst (λ (r : List (Option ℕ)). Known g node r
    (option_join measure_of_both (link_measure (done_measure states) link) c.loop-at.measure)) (sym split) next in
    record {
      within = omega (arith, inside);
      visiting = record {
        held = c.in_ok-visit_link.ensures.holds;
        turned = turned;
        same_length = long;
        known = subst (λ (o : Option Measure). Known g node (drop at row) o) (sym same) one;
      };
    }

-- the state that the alias gets
settled_is : {t : ℕ} (c : goal.visit-Joined-measure t) → c.match-measure.states ≡ settled_as c.loop-at.measure
settled_is c = elim c.match-measure.branch [
  | visit-in-Some w ↦ w.states-is ∙ ap settled_as (sym w.in-Some.is)
  | visit-in-None+in_ok-push-in-None w ↦ w.states-is ∙ ap settled_as (sym w.in-None.is)
]

node_inside : {t : ℕ} (c : goal.visit-Joined-measure t) → c.args.node < length c.loop-at.states
node_inside c =
    let inside = within_get c.args.states.now c.args.node New c.requires.new in
    let long = c.loop-at.invariant.visiting.same_length in
    omega (arith, inside, long)

pub visit-offset_bounds-states-node-2 : goal.visit-offset_bounds-states-node-2
visit-offset_bounds-states-node-2 t c =
    let inside = within_get c.args.states.now c.args.node New c.requires.new in
    let long = c.loop-at.invariant.visiting.same_length in
    search rules

pub visit-bounds-states-node-2 : goal.visit-bounds-states-node-2
visit-bounds-states-node-2 t c =
    let inside = within_get c.args.states.now c.args.node New c.requires.new in
    let long = c.loop-at.invariant.visiting.same_length in
    omega (arith, inside, long)

pub visit-returns-clause-holds : goal.visit-returns-clause-holds
visit-returns-clause-holds t c i s at =
    let g = c.args.links.now in
    let v = c.loop-at.invariant.visiting in
    let row = c.as_slice-row.result.now in
    let zero_at : c.loop-at.at ≡ 0 = (let none = c.loop-at-test.false in omega (arith, none)) in
    let known : Known g c.args.node row c.loop-at.measure =
    subst (λ (k : ℕ). Known g c.args.node (drop k row) c.loop-at.measure) zero_at v.known in
    end_holds g c.loop-at.states c.args.node row c.loop-at.measure (node_inside c) v.held
    (row_at c.args.links.now c.args.states.now c.args.node c.index-links-node.result c.as_slice-row.result.now
    c.requires.new c.requires.sizes c.index-links-node.is c.as_slice-row.ensures) known i s
    (subst (λ (x : State). slice_get (set c.loop-at.states c.args.node x) i ≡ Some s) (settled_is c) at)

pub visit-returns-clause-turned : goal.visit-returns-clause-turned
visit-returns-clause-turned t c i s u at_start at_end =
    let v = c.loop-at.invariant.visiting in
    end_turned c.args.states.now c.loop-at.states c.args.node c.loop-at.measure v.same_length c.requires.new v.turned i s u at_start
    (subst (λ (x : State). slice_get (set c.loop-at.states c.args.node x) i ≡ Some u) (settled_is c) at_end)

pub visit-returns-clause-settled : goal.visit-returns-clause-settled
visit-returns-clause-settled t c s at =
    end_settled c.loop-at.states c.args.node c.loop-at.measure (node_inside c) s
    (subst (λ (x : State). slice_get (set c.loop-at.states c.args.node x) c.args.node ≡ Some s) (settled_is c) at)

pub visit_link-offset_bounds-states-next : goal.visit_link-offset_bounds-states-next
visit_link-offset_bounds-states-next t c =
    let inside : c.in-Some.next < length c.args.links.now =
    c.requires.closed c.args.from c.in-Some.next (c.requires.edge c.in-Some.next c.in-Some.is) in
    let long = c.requires.sizes in
    search rules

pub visit_link-bounds : goal.visit_link-bounds
visit_link-bounds t c =
    let inside : c.in-Some.next < length c.args.links.now =
    c.requires.closed c.args.from c.in-Some.next (c.requires.edge c.in-Some.next c.in-Some.is) in
    let long = c.requires.sizes in
    omega (arith, inside, long)

lead_on : {g : List (List (Option ℕ))} {i j k : ℕ} → Edge g i k → (j ≡ i) ⊎ Path g j i → Path g j k
lead_on {g} {i} {j} {k} e (inl same) = subst (λ (x : ℕ). Path g x k) (sym same) (step e)
lead_on {g} {i} {j} {k} e (inr path) = Path-edge g j i k path e

pub visit_link-visit-requires : goal.visit_link-visit-requires
visit_link-visit-requires t c =
    let edge = c.requires.edge c.in-Some.next c.in-Some.is in
    let inside : c.in-Some.next < length c.args.links.now = c.requires.closed c.args.from c.in-Some.next edge in
    let long = c.requires.sizes in
    let new : slice_get c.args.states.now c.in-Some.next ≡ Some New =
    slice_get_read c.args.states.now (length c.args.states.now) c.in-Some.next New refl
    (omega (arith, inside, long)) (sym c.in-New.is) in (
      omega arith,
      (
        c.requires.closed,
        (
          c.requires.sizes,
          (
            new,
            (
              c.requires.held,
              (λ j at. lead_on edge (c.requires.lead j at)),
            ),
          ),
        ),
      ),
    )

pub visit_link-returns-in_ok-visit-clause-visited : goal.visit_link-returns-in_ok-visit-clause-visited
visit_link-returns-in_ok-visit-clause-visited t c next is at =
    let same : next ≡ c.in-Some.next = (let k = c.in-Some.is in cc) in
    c.in_ok-visit.ensures.settled New (subst (λ (n : ℕ). slice_get c.visit.new.states n ≡ Some New) same at)

pub visit_link-returns-in_default-states : goal.visit_link-returns-in_default-states
visit_link-returns-in_default-states t c = record {
  holds = c.requires.held;
  turned = Turned-refl c.args.states.now;
  visited = λ next is at. (let k = c.in-Some.is in let same : next ≡ c.in-Some.next = cc in
      c.in_default-states.not-New (get_or_from_slice_get c.args.states.now c.in-Some.next New New
      (subst (λ (n : ℕ). slice_get c.args.states.now n ≡ Some New) same at)));
}
