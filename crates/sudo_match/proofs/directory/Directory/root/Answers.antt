use Rattle.std.proofs.Common.{sym, ap, ◌∙◌}
use Rattle.std.specs.Prelude.{option_and_then, slice_get, codes}
use Rattle.sudo_match.specs.KnownRows.{KnownRows}
use Rattle.sudo_match.proofs.DirectoryLemmas.{user_named-is}
use Rattle.sudo_match.proofs.directory.Directory.root.Goals as goal

pub returns : goal.returns
returns c =
    c.get.ensures
    ∙ sym (user_named-is c.args.self.now c.self.inside.people c.self.inside.users (codes "root")
    (ap (λ (d : KnownRows). d.people) c.self.view_is) c.self.invariant.users_indexed
    ∙ ap (option_and_then (slice_get c.self.inside.people)) c.self.invariant.root_indexed)
