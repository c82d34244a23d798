use Rattle.std.proofs.Common.{◌≡◌, ◌∙◌, ap, false, sym}
use Rattle.std.specs.List.{list_any}
use Rattle.sudo_grammar.specs.declared.policy.Policy.{Policy}
use Rattle.sudo_verdict.proofs.RuleLists.{bodies_resolve}
use Rattle.review_grants.specs.Body.Noted.{entry_has_note}
use Rattle.review_grants.proofs.NotedLemmas.{no-notes}
use Rattle.review_grants.proofs.noted.policy_notes.Goals as goal

pub returns-then-not-have_note : goal.returns-then-not-have_note
returns-then-not-have_note c =
    let none : list_any entry_has_note c.args.checked.now.entries ≡ false =
    sym (ap (list_any entry_has_note) (c.as_slice-entries.ensures ∙ ap (λ (x : Policy). x.entries) c.policy.ensures.value))
    ∙ sym c.have_note.ensures ∙ c.if-not-have_note.true in
    c.new.ensures.items ∙ sym (no-notes c.args.checked.now none)

pub entry_notes-requires : goal.entry_notes-requires
entry_notes-requires c = rw (c.as_slice-entries.ensures, c.policy.ensures.value)
    (bodies_resolve c.args.checked.now c.policy.ensures.sound)
