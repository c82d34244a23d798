use Rattle.std.proofs.Common.{◌≡◌, ◌∙◌, ◌<◌, List, Some, ap, arith, get_or, length, option_copied, subst, sym, unwrap_or}
use Rattle.std.proofs.lemmas.Option.{slice_get-get_or}
use Rattle.std.specs.Prelude.{slice_get}
use Rattle.sudo_verdict.specs.Questions.{question_as}
use Rattle.review_compare.specs.declared.block.Block.{Block}
use Rattle.review_compare.specs.Body.Chosen.{runas_if}
use Rattle.review_compare.proofs.UnchangedLemmas.{none-allowed}
use Rattle.review_compare.proofs.side.Side.may_allow_at.Goals as goal

pub returns-else-depends_on_user : goal.returns-else-depends_on_user
returns-else-depends_on_user c = λ e u m.
    let p = c.args.self.now.checked.now in
    let d = c.args.directory.now in
    let a = c.args.asker in
    let i = c.args.index in
    let block = c.in-Some.block.now in
    let blocks = c.args.self.now.blocks.items in
    let same = c.deref.ensures.value in
    let less : i < length blocks = subst (λ (bs : List Block). i < length bs) same c.in-Some.in-Some-ensures.3.0 in
    let at : block ≡ get_or blocks i block =
    ap (λ found. unwrap_or (option_copied found) block) (sym c.in-Some.is) ∙ c.get.ensures.lookup.4 (omega arith) block
    ∙ ap (λ (bs : List Block). get_or bs i block) same in
    let there : slice_get blocks i ≡ Some block = slice_get-get_or blocks i block less ∙ ap Some (sym at) in
    ap (runas_if p (question_as d u m (option_copied a.target) (option_copied a.group))) there
    ∙ none-allowed p d a.user.now a.host.now (option_copied a.target) (option_copied a.group) block
    (sym c.depends_on_user.ensures ∙ c.if-depends_on_user.false) (sym c.allows_runas.ensures ∙ e) u m
