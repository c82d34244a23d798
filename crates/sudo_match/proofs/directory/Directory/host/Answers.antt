use Rattle.std.proofs.Common.{sym, ap, ◌∙◌}
use Rattle.std.specs.Prelude.{option_copied, option_and_then, slice_get, find, bytes_eq}
use Rattle.sudo_match.specs.declared.people.Machine.{Machine}
use Rattle.sudo_match.specs.Class.{lower_text}
use Rattle.sudo_match.specs.KnownRows.{KnownRows}
use Rattle.sudo_match.proofs.DirectoryLemmas.{host_named-is, host_named-scanned}
use Rattle.sudo_match.proofs.directory.Directory.host.Goals as goal

pub returns-in_err-at : goal.returns-in_err-at
returns-in_err-at c =
    ap option_copied c.from_residual.ensures
    ∙ sym (host_named-is c.args.self.now c.self.inside.machines c.self.inside.hosts c.args.name.now
    (ap (λ (d : KnownRows). d.machines) c.self.view_is) c.self.invariant.hosts_indexed
    ∙ ap (option_and_then (slice_get c.self.inside.machines)) (sym c.host_place.ensures ∙ c.in_err-at.was))

pub returns : goal.returns
returns c =
    c.get.ensures
    ∙ sym (host_named-is c.args.self.now c.self.inside.machines c.self.inside.hosts c.args.name.now
    (ap (λ (d : KnownRows). d.machines) c.self.view_is) c.self.invariant.hosts_indexed
    ∙ ap (option_and_then (slice_get c.self.inside.machines)) (sym c.host_place.ensures ∙ c.in_ok-at.was))

pub returns-then-name-gt255 : goal.returns-then-name-gt255
returns-then-name-gt255 c =
    c.scanned.ensures
    ∙ ap (find (λ (m : Machine). bytes_eq (lower_text m.name) (lower_text c.args.name.now)))
    (c.as_slice.ensures ∙ ap (λ (d : KnownRows). d.machines) c.self.view_is)
    ∙ host_named-scanned c.args.self.now c.args.name.now
