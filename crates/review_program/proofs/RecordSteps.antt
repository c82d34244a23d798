-- The record of a change from what is known of it.
use Rattle.std.proofs.Common.{◌≡◌, ◌∙◌, ℕ, Bool, List, ◌++◌, Option, Some, ap}
use Rattle.audit_collect.specs.declared.arrival.Answer.{Answer}
use Rattle.audit_files.specs.Report.{line}
use Rattle.sudo_grammar.specs.declared.policy.Policy.{Policy}
use Rattle.sudo_match.specs.KnownRows.{KnownRows}
use Rattle.sudo_match.specs.declared.request.Verdict.{Verdict}
use Rattle.sudo_verdict.specs.Verdicts.{verdict_of}
use Rattle.review_compare.specs.Cases.{cases_of, same_cases}
use Rattle.review_program.specs.Changes.{are_noted, change_between, change_fields, change_record, change_to, change_unless, last_field}
use Rattle.review_program.specs.Changes.{record_if, request_depends}
use Rattle.review_program.specs.declared.change.Change.{Change}

pub record-of : (old new p q : Policy) (d : KnownRows) (sender : List ℕ) (a : Answer) (v : Verdict) (same noted : Bool) (depends : List ℕ)
    (c : Change) (between : Option Change) (text result : List ℕ) → v ≡ verdict_of new d a.request
    → same ≡ same_cases (cases_of old d a.request) (cases_of new d a.request) → depends ≡ request_depends old new d a.request
    → noted ≡ are_noted p q → p ≡ old → q ≡ new → Some c ≡ change_unless same between → between ≡ change_between a.verdict v
    → result ≡ text ++ line (change_fields old.files new.files sender a v (last_field noted depends) c)
    → result ≡ text ++ change_record old new d sender a
record-of old new p q d sender a v same noted depends c between text result is_v is_same is_depends is_noted is_old is_new is_c is_between
    made =
    let w = verdict_of new d a.request in
    let kept = same_cases (cases_of old d a.request) (cases_of new d a.request) in
    let named = request_depends old new d a.request in
    let change : Some c ≡ change_to old new d a =
    is_c ∙ ap (λ (b : Bool). change_unless b between) is_same
    ∙ ap (change_unless kept) (is_between ∙ ap (change_between a.verdict) is_v) in
    let column : noted ≡ are_noted old new = is_noted ∙ ap (λ (x : Policy). are_noted x q) is_old ∙ ap (are_noted old) is_new in
    made ∙ ap (λ (t : List ℕ). text ++ t)
    (ap (λ (x : Verdict). record_if old.files new.files sender a x (last_field noted depends) (Some c)) is_v
    ∙ ap (λ (b : Bool). record_if old.files new.files sender a w (last_field b depends) (Some c)) column
    ∙ ap (λ (t : List ℕ). record_if old.files new.files sender a w (last_field (are_noted old new) t) (Some c)) is_depends
    ∙ ap (record_if old.files new.files sender a w (last_field (are_noted old new) named)) change)
