use Rattle.std.proofs.Common.{◌≡◌, ℕ, not, List, Option, map, length, sym, ap, ◌∙◌, subst}
use Rattle.std.proofs.lemmas.List.{length-map}
use Rattle.sudo_policy.specs.declared.survey.DefinitionRef.{DefinitionRef}
use Rattle.sudo_policy.specs.Body.Graph.{Links, IsClosed, IsInside, IsReached, MarksOf, Path, StatesHold}
use Rattle.sudo_policy.specs.Body.Judgement.{is_deep, is_wide}
use Rattle.sudo_policy.specs.Body.DefinitionRef.{alias_view, row_of_alias}
use Rattle.sudo_policy.proofs.ExaminedLemmas.{links_closed, views_inside, judged_is}
use Rattle.sudo_policy.proofs.examination.judge.Goals as goal

pub all_visited-requires : goal.all_visited-requires
all_visited-requires c =
    let survey = c.args.survey.now in
    let are : c.as_slice-2.result.now ≡ map (row_of_alias survey.index) (map alias_view survey.aliases.items) =
    c.as_slice-2.ensures.value ∙ c.in_ok-links.ensures
    ∙ ap (λ (xs : List DefinitionRef). map (row_of_alias survey.index) (map alias_view xs)) c.as_slice.ensures.value in
    record {
      closed = subst IsClosed (sym are) (links_closed survey.index (map alias_view survey.aliases.items)
          (views_inside survey c.requires.leads));
    }

pub cycles-requires-clause-closed : goal.cycles-requires-clause-closed
cycles-requires-clause-closed c =
    let survey = c.args.survey.now in
    let are : c.as_slice-3.result.now ≡ map (row_of_alias survey.index) (map alias_view survey.aliases.items) =
    c.as_slice-3.ensures.value ∙ c.in_ok-links.ensures
    ∙ ap (λ (xs : List DefinitionRef). map (row_of_alias survey.index) (map alias_view xs)) c.as_slice.ensures.value in
    subst IsClosed (sym are) (links_closed survey.index (map alias_view survey.aliases.items) (views_inside survey c.requires.leads))

pub reached-requires-clause-closed : goal.reached-requires-clause-closed
reached-requires-clause-closed c =
    let survey = c.args.survey.now in
    let are : c.as_slice-8.result.now ≡ map (row_of_alias survey.index) (map alias_view survey.aliases.items) =
    c.as_slice-8.ensures.value ∙ c.in_ok-links.ensures
    ∙ ap (λ (xs : List DefinitionRef). map (row_of_alias survey.index) (map alias_view xs)) c.as_slice.ensures.value in
    subst IsClosed (sym are) (links_closed survey.index (map alias_view survey.aliases.items) (views_inside survey c.requires.leads))

pub reached-requires-clause-inside : goal.reached-requires-clause-inside
reached-requires-clause-inside c =
    let survey = c.args.survey.now in
    let are : c.as_slice-8.result.now ≡ map (row_of_alias survey.index) (map alias_view survey.aliases.items) =
    c.as_slice-8.ensures.value ∙ c.in_ok-links.ensures
    ∙ ap (λ (xs : List DefinitionRef). map (row_of_alias survey.index) (map alias_view xs)) c.as_slice.ensures.value in
    let n : length c.as_slice-8.result.now ≡ length survey.aliases.items = ap length are
    ∙ length-map (map alias_view survey.aliases.items) (row_of_alias survey.index) ∙ length-map survey.aliases.items alias_view in
    subst (λ (k : ℕ). IsInside c.args.roots.now k) (sym n) c.requires.inside

pub returns : goal.returns
returns c p s roots_are =
    let survey = c.args.survey.now in
    let links = c.in_ok-links.links.items in
    let states = c.in_ok-states.field-0.states.items in
    let are : links ≡ map (row_of_alias survey.index) (map alias_view survey.aliases.items) =
    c.in_ok-links.ensures ∙ ap (λ (xs : List DefinitionRef). map (row_of_alias survey.index) (map alias_view xs))
    c.as_slice.ensures.value in
    let sizes : length states ≡ length links = c.in_ok-states.ensures.sizes ∙ ap length c.as_slice-2.ensures.value in
    let held : StatesHold links states = subst (λ (g : Links). StatesHold g states) c.as_slice-2.ensures.value
    c.in_ok-states.ensures.holds in
    let cyclic : MarksOf (length links) (λ i. Path links i i) c.in_ok-cyclic.cyclic.items =
    subst (λ (g : Links). MarksOf (length g) (λ i. Path g i i) c.in_ok-cyclic.cyclic.items)
    c.as_slice-3.ensures.value c.in_ok-cyclic.ensures in
    let used : MarksOf (length links) (IsReached links c.args.roots.now) c.in_ok-used.used.items =
    subst (λ (g : Links). MarksOf (length g) (IsReached g c.args.roots.now) c.in_ok-used.used.items)
    c.as_slice-8.ensures.value c.in_ok-used.ensures in
    judged_is p survey s links are states sizes held c.in_ok-states.ensures.settled
    c.args.roots.now roots_are c.in_ok-used.used.items used
    (record { cyclic = c.in_ok-cyclic.cyclic; deep = c.in_ok-deep.deep; wide = c.in_ok-wide.wide; unused = c.in_ok-unused.unused })
    cyclic
    (c.in_ok-deep.ensures ∙ ap (map is_deep) c.as_slice-6.ensures.value)
    (c.in_ok-wide.ensures ∙ ap (map is_wide) c.as_slice-7.ensures.value)
    (c.in_ok-unused.ensures ∙ ap (map not) c.as_slice-9.ensures.value)
