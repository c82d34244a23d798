use Rattle.std.proofs.Common.{◌≡◌, ◌∙◌, ap, sym, ◌∷◌, ◌++◌, [], map, false, None, cond}
use Rattle.std.specs.Prelude.{is_some}
use Rattle.sudo_base.specs.NameIndices.{index_of}
use Rattle.sudo_base.proofs.Options.{none_of}
use Rattle.sudo_match.specs.Body.IdEntry.{entry_by_id}
use Rattle.sudo_match.proofs.IdLemmas.{insert-entry_by_id}
use Rattle.sudo_match.proofs.ids.Ids.note.Goals as goal

pub returns : goal.returns
returns c =
    let fresh : is_some (index_of c.args.self.now (c.args.id ∷ [])) ≡ false = ap is_some (sym c.get.ensures)
    ∙ sym c.is_some.ensures ∙ c.if-is_some.false in
    let new : index_of (map entry_by_id c.self.inside.indices.entries) (c.args.id ∷ []) ≡ None =
    ap (λ es. index_of es (c.args.id ∷ [])) c.self.view_is ∙ none_of _ fresh in
    ap (map entry_by_id) c.in_ok-insert.ensures.entries
    ∙ insert-entry_by_id c.args.id c.args.index c.self.inside.indices.entries new
    ∙ ap (λ es. es ++ (c.args.id ∷ [], c.args.index) ∷ []) c.self.view_is
    ∙ sym (ap (λ b. cond b c.args.self.now (c.args.self.now ++ (c.args.id ∷ [], c.args.index) ∷ [])) fresh)
