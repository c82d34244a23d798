use Rattle.std.proofs.Common.{◌≡◌, true, sym, ◌∙◌, ap}
use Rattle.sudo_match.specs.Matching.{host_fits}
use Rattle.sudo_match.specs.Body.Beginnings.{is_named_otherwise}
use Rattle.sudo_match.proofs.BeginningLemmas.{host-differs}
use Rattle.sudo_match.proofs.matchers.host_matches.Goals as goal

pub returns-then-is_named_otherwise : goal.returns-then-is_named_otherwise
unfolding host_fits
returns-then-is_named_otherwise c =
    let otherwise : is_named_otherwise c.in-Host.chars c.args.host.now.name ≡ true =
    rw (c.as_slice.ensures, c.as_slice-in-Host.ensures) at (sym c.is_named_otherwise.ensures ∙ c.if-is_named_otherwise.true) in
    sym (ap (λ a. host_fits a c.args.host.now) c.in-Host.is ∙ host-differs c.in-Host.chars c.in-Host.quoted c.args.host.now.name otherwise)
