use Rattle.std.proofs.Common.{◌∙◌, ap}
use Rattle.sudo_base.specs.NameIndices.{index_of}
use Rattle.sudo_base.proofs.NamesLemmas.{lookup-entry_by_list}
use Rattle.sudo_base.proofs.names.Names.get.Goals as goal

pub returns : goal.returns
returns c =
    c.copied.ensures ∙ c.get.ensures.value ∙ lookup-entry_by_list c.args.name.now c.self.inside.indices.entries
    ∙ ap (λ es. index_of es c.args.name.now) c.self.view_is
