use Rattle.std.proofs.Common.{◌∙◌, ap, ◌∷◌, []}
use Rattle.sudo_base.specs.NameIndices.{index_of}
use Rattle.sudo_match.proofs.IdLemmas.{lookup-entry_by_id}
use Rattle.sudo_match.proofs.ids.Ids.get.Goals as goal

pub returns : goal.returns
returns c =
    c.copied.ensures ∙ c.get.ensures.value ∙ lookup-entry_by_id c.args.id c.self.inside.indices.entries
    ∙ ap (λ es. index_of es (c.args.id ∷ [])) c.self.view_is
