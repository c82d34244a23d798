use Rattle.std.proofs.Common.{◌+◌, ◌++◌, ◌∙◌, ◌∷◌, [], cond}
use Rattle.std.proofs.Common.{ℕ, Bool, List, ap, arith, get_or, length, length-append, option_copied}
use Rattle.std.proofs.Common.{subst, sym, take}
use Rattle.std.specs.Prelude.{filter}
use Rattle.std.proofs.lemmas.List.{take_all}
use Rattle.std.proofs.lemmas.List.Elements.{filter_more}
use Rattle.sudo_verdict.specs.Questions.{question_as}
use Rattle.review_compare.specs.Body.Chosen.{runas_at}
use Rattle.review_compare.specs.Body.SameRunas.{AreAnswers}
use Rattle.review_compare.proofs.SameRunasLemmas.{answers-more}
use Rattle.review_compare.proofs.side.Side.allowing.Goals as goal

pub loop-at-preserved : goal.loop-at-preserved
loop-at-preserved c =
    let p = c.args.self.now.checked.now in
    let bs = c.args.self.now.blocks.items in
    let a = c.args.asker in
    let q = question_as c.args.directory.now a.user.now a.host.now (option_copied a.target) (option_copied a.group) in
    let is = c.args.listed.now in
    let at = c.loop-at.at in
    let answers = c.loop-at.answers.items in
    let items = c.in_ok-push.ensures.items in
    let b = c.answer_at-allows.result in
    let i = get_or is at 0 in (
      ap length items ∙ length-append answers (b ∷ []) ∙ ap (λ (n : ℕ). n + 1) c.loop-at.invariant.0,
      subst (λ (bools : List Bool). AreAnswers p bs q is bools) (sym items)
          (answers-more p bs q is answers at b c.loop-at.invariant.0 c.loop-at.invariant.1 c.answer_at-allows.ensures),
      c.in_ok-push_if.ensures
          ∙ ap (λ (js : List ℕ). js ++ cond b (i ∷ []) []) c.loop-at.invariant.2
          ∙ ap (λ (v : Bool). filter (runas_at p bs q) (take at is) ++ cond v (i ∷ []) []) c.answer_at-allows.ensures
          ∙ sym (filter_more (runas_at p bs q) is at 0 c.loop-at-test.true),
    )

pub returns : goal.returns
returns c =
    let p = c.args.self.now.checked.now in
    let bs = c.args.self.now.blocks.items in
    let a = c.args.asker in
    let q = question_as c.args.directory.now a.user.now a.host.now (option_copied a.target) (option_copied a.group) in
    c.loop-at.invariant.2
    ∙ ap (filter (runas_at p bs q)) (take_all c.loop-at.at c.args.listed.now (omega (arith, c.loop-at-test.false)))
