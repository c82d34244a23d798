use Rattle.std.proofs.Common.{◌≡◌, ◌∙◌, ◌++◌, ap, List, count_by, flat_map}
use Rattle.sudo_grammar.specs.declared.policy.Policy.{Policy}
use Rattle.sudo_text.specs.declared.line.Place.{Place}
use Rattle.audit_collect.specs.declared.report.SenderReport.{SenderReport}
use Rattle.review_grants.specs.Depends.{same_place}
use Rattle.review_subjects.specs.Counts.{sender_verdicts, verdicts}
use Rattle.review_subjects.specs.Body.Places.{granted_places, allowed_place, denied_place}
use Rattle.review_subjects.proofs.PlaceSteps.{granted_counts, allowed_counts, denied_counts, row_is}
use Rattle.review_subjects.proofs.Resolving.{entries_resolve}
use Rattle.review_subjects.proofs.rules.counted.Goals as goal

pub granted_places-requires : goal.granted_places-requires
granted_places-requires c = rw (c.as_slice.ensures, c.policy.ensures.value) (entries_resolve c.args.checked.now c.policy.ensures.sound)

pub returns : goal.returns
returns c =
    let p = c.args.checked.now in
    let vs = verdicts c.args.report.now in
    let entries : c.as_slice.result.now ≡ p.entries = c.as_slice.ensures ∙ ap (λ (x : Policy). x.entries) c.policy.ensures.value in
    let granted : c.as_slice-3.result.now ≡ granted_places p p.entries =
    c.as_slice-3.ensures.value ∙ c.in_ok-granted.ensures ∙ ap (granted_places p) entries in
    let allowed : c.as_slice-4.result.now ≡ flat_map allowed_place vs =
    c.as_slice-4.ensures.value ∙ c.in_ok-add_senders.ensures.allowed
    ∙ ap (λ (ps : List Place). ps ++ flat_map allowed_place (flat_map sender_verdicts c.as_slice-2.result.now)) c.new.ensures.items
    ∙ ap (λ (ss : List SenderReport). flat_map allowed_place (flat_map sender_verdicts ss)) c.as_slice-2.ensures in
    let denied : c.as_slice-5.result.now ≡ flat_map denied_place vs =
    c.as_slice-5.ensures.value ∙ c.in_ok-add_senders.ensures.denied
    ∙ ap (λ (ps : List Place). ps ++ flat_map denied_place (flat_map sender_verdicts c.as_slice-2.result.now)) c.new-2.ensures.items
    ∙ ap (λ (ss : List SenderReport). flat_map denied_place (flat_map sender_verdicts ss)) c.as_slice-2.ensures in
    λ q. row_is q _ _ _ _ _ _
    (c.in_ok-tally.ensures q ∙ ap (count_by (same_place q)) granted ∙ granted_counts p q)
    (c.in_ok-tally-2.ensures q ∙ ap (count_by (same_place q)) allowed ∙ allowed_counts q vs)
    (c.in_ok-tally-3.ensures q ∙ ap (count_by (same_place q)) denied ∙ denied_counts q vs)
