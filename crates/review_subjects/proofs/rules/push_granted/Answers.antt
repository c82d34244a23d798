use Rattle.std.proofs.Common.{◌≡◌, true, subst}
use Rattle.std.specs.List.{list_all}
use Rattle.std.proofs.lemmas.Bool.{and_parts}
use Rattle.sudo_grammar.specs.declared.kind.Kind.TheVariants.{User}
use Rattle.sudo_grammar.specs.declared.policy.EntryBody.{EntryBody}
use Rattle.sudo_policy.specs.Body.Resolving.{section_resolves}
use Rattle.sudo_policy.specs.Definitions.{lists_of_body}
use Rattle.sudo_policy.specs.Resolving.{resolves}
use Rattle.sudo_policy.proofs.SoundLemmas.{rule_holds}
use Rattle.review_subjects.specs.Subjects.{list_resolves}
use Rattle.review_subjects.proofs.Resolving.{section_commands_resolve}
use Rattle.review_subjects.proofs.rules.push_granted.Goals as goal

pub push_sections-requires : goal.push_sections-requires
push_sections-requires c =
    let p = c.args.checked.now in
    let place = c.args.entry.now.place in
    let users = c.in-Rule.users in
    let sections = c.in-Rule.sections in
    let whole = rule_holds p place users sections
    (subst (λ (b : EntryBody). list_all (list_resolves p) (lists_of_body place b) ≡ true) c.in-Rule.is c.requires) in
    rw c.as_slice.ensures (section_commands_resolve p sections
    (and_parts (resolves User p users) (list_all (section_resolves p) sections) whole).1)
