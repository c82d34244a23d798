use Rattle.std.proofs.Common.{◌∙◌, option_copied, sym}
use Rattle.review_compare.proofs.UnchangedLemmas.{one-for-all}
use Rattle.review_compare.proofs.whoever.answer_to_all.Goals as goal

pub returns-then-not-depends_on_user : goal.returns-then-not-depends_on_user
returns-then-not-depends_on_user c = λ u m.
    let a = c.args.asker in
    one-for-all c.args.checked.now c.args.directory.now u a.user.now m a.host.now (option_copied a.target) (option_copied a.group)
    (option_copied c.args.runas) (sym c.depends_on_user.ensures ∙ c.if-not-depends_on_user.true)
    ∙ sym c.allows_runas.ensures
