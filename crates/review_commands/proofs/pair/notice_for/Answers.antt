use Rattle.std.proofs.Common.{◌∙◌, ap, subst}
use Rattle.std.proofs.lemmas.Result.{IfOk-weaker}
use Rattle.sudo_grammar.specs.declared.policy.Policy.{Policy}
use Rattle.review_cautions.specs.Cautions.{AreCautionsOn}
use Rattle.review_cautions.specs.ListTests.{usual_links}
use Rattle.review_commands.specs.CautionLines.{path_notice}
use Rattle.review_commands.specs.FileTexts.{texts_of}
use Rattle.review_commands.proofs.pair.notice_for.Goals as goal

pub returns : goal.returns
returns c =
    let checked = c.args.checked.now in
    let found : AreCautionsOn usual_links (texts_of checked.text checked.supplies checked.policy.files) checked.policy
    c.in_ok-found.found.items =
    subst (λ (p : Policy). AreCautionsOn usual_links (texts_of checked.text checked.supplies p.files) p c.in_ok-found.found.items)
    c.policy-policy.ensures.value c.in_ok-found.ensures in
    IfOk-weaker c.notice_at.result _ _
    (λ line is. record {
      found = c.in_ok-found.found.items;
      are = found;
      line_is = is ∙ ap (path_notice c.args.path.now) c.deref.ensures.value;
    })
    c.notice_at.ensures
