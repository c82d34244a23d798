use Rattle.std.proofs.Common.{◌≡◌, None, ◌∙◌, ap, map, refl}
use Rattle.sudo_base.specs.NameEntry.{entry_by_list}
use Rattle.sudo_base.specs.NameIndices.{index_of}
use Rattle.sudo_base.proofs.NamesLemmas.{insert-entry_by_list}
use Rattle.sudo_base.proofs.names.Names.insert.Goals as goal

pub returns-clause-ok : goal.returns-clause-ok
returns-clause-ok c =
    let key = c.in_ok-key.key in
    let new : index_of (map entry_by_list c.self.inside.indices.entries) key.items ≡ None =
    rw (c.in_ok-key.ensures.items, c.self.view_is) c.requires in
    ap (map entry_by_list) c.in_ok-insert.ensures.entries
    ∙ insert-entry_by_list key c.args.index c.self.inside.indices.entries new ∙ rw (c.self.view_is, c.in_ok-key.ensures.items) refl
