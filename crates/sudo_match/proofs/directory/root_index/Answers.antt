use Rattle.std.proofs.Common.{◌≡◌, ap, sym, ◌∙◌}
use Rattle.std.specs.Prelude.{Some, None, find, is_some}
use Rattle.std.specs.Option.{option_copied}
use Rattle.sudo_match.specs.KnownRows.{is_no_group}
use Rattle.sudo_match.proofs.FaultLemmas.{refused-ungrouped, refused-root, root-faultless}
use Rattle.sudo_match.proofs.directory.root_index.Goals as goal

pub returns-in-Some-clause-fault : goal.returns-in-Some-clause-fault
returns-in-Some-clause-fault c =
    let found : find (λ u. is_no_group u.groups) c.args.people.now ≡ Some c.in-Some.person.now =
    sym c.ungrouped.ensures ∙ ap option_copied c.in-Some.is in
    refused-ungrouped c.args.people.now c.in-Some.person.now c.no_group.result found (rw (sym c.as_slice.ensures) c.no_group.ensures)

pub returns-in-None-clause-fault : goal.returns-in-None-clause-fault
returns-in-None-clause-fault c =
    let grouped : find (λ u. is_no_group u.groups) c.args.people.now ≡ None = sym c.ungrouped.ensures ∙ ap option_copied c.in_default.is in
    refused-root c.args.people.now c.args.users.now c.requires grouped (ap is_some (sym c.get.ensures ∙ c.in-None.is))

pub returns-in-Some-get-clause-faultless : goal.returns-in-Some-get-clause-faultless
returns-in-Some-get-clause-faultless c =
    let grouped : find (λ u. is_no_group u.groups) c.args.people.now ≡ None = sym c.ungrouped.ensures ∙ ap option_copied c.in_default.is in
    root-faultless c.args.people.now c.args.users.now c.requires grouped (ap is_some (sym c.get.ensures ∙ c.in-Some-get.is))
