use Rattle.std.proofs.Common.{◌≡◌, true, subst}
use Rattle.std.specs.List.{list_all}
use Rattle.sudo_grammar.specs.declared.policy.EntryBody.{EntryBody}
use Rattle.sudo_policy.specs.Definitions.{lists_of_body}
use Rattle.sudo_policy.proofs.SoundLemmas.{rule_holds}
use Rattle.review_subjects.specs.Subjects.{list_resolves}
use Rattle.review_subjects.proofs.Resolving.{definitions_resolve}
use Rattle.review_subjects.proofs.entries.push_entry.Goals as goal

pub push_aliases-requires : goal.push_aliases-requires
push_aliases-requires c =
    let p = c.args.finder.now.checked.now in
    let place = c.args.entry.now.place in
    rw c.as_slice.ensures (definitions_resolve p c.in-Aliases.kind place c.in-Aliases.definitions
    (subst (λ (b : EntryBody). list_all (list_resolves p) (lists_of_body place b) ≡ true) c.in-Aliases.is c.requires))

pub push_rule-requires : goal.push_rule-requires
push_rule-requires c =
    let p = c.args.finder.now.checked.now in
    let place = c.args.entry.now.place in
    rw (c.as_slice-in-Rule.ensures, c.as_slice-in-Rule-2.ensures) (rule_holds p place c.in-Rule.users c.in-Rule.sections
    (subst (λ (b : EntryBody). list_all (list_resolves p) (lists_of_body place b) ≡ true) c.in-Rule.is c.requires))
