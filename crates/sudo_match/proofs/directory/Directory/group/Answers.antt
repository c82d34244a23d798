use Rattle.std.proofs.Common.{sym, ap, ◌∙◌}
use Rattle.std.specs.Prelude.{option_and_then, slice_get}
use Rattle.sudo_match.specs.KnownRows.{KnownRows, groups_of}
use Rattle.sudo_match.proofs.DirectoryLemmas.{group_named-is}
use Rattle.sudo_match.proofs.directory.Directory.group.Goals as goal

pub returns : goal.returns
returns c =
    c.group_found.ensures
    ∙ ap (λ us. option_and_then (slice_get (groups_of us)) c.get.result) c.as_slice.ensures
    ∙ ap (option_and_then (slice_get (groups_of c.self.inside.people))) c.get.ensures
    ∙ sym (group_named-is c.args.self.now c.self.inside.people c.self.inside.groups c.args.name.now
    (ap (λ (d : KnownRows). d.people) c.self.view_is) c.self.invariant.groups_indexed)
