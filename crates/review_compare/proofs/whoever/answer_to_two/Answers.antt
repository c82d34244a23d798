use Rattle.std.proofs.Common.{◌≡◌, ◌∙◌, Option, Some, option_copied, subst, sym}
use Rattle.sudo_match.specs.declared.people.Person.{Person}
use Rattle.sudo_verdict.specs.Questions.{question_as}
use Rattle.sudo_verdict.specs.RunasForms.{runas_allows}
use Rattle.review_compare.specs.Body.Whoever.{AllowsWhoever}
use Rattle.review_compare.proofs.WhoeverLemmas.{two-for-all}
use Rattle.review_compare.proofs.whoever.answer_to_two.Goals as goal

pub returns-then-are_equal : goal.returns-then-are_equal
returns-then-are_equal c =
    let p = c.args.checked.now in
    let d = c.args.directory.now in
    let a = c.args.asker in
    let t = c.args.target.now in
    let r = c.args.runas.now in
    let g = option_copied a.group in
    let answer = c.allows_runas-to_other.result in
    let asked = c.requires.target in
    subst (λ (o : Option Person). AllowsWhoever p d o g (Some r) answer) (sym asked)
    (two-for-all p d t a.user.now a.host.now a.host.now g r answer (sym c.has_both_lists.ensures ∙ c.if-not-has_both_lists.false)
    (sym c.is_same_user.ensures ∙ c.if-is_same_user.false)
    (subst (λ (o : Option Person). runas_allows p (question_as d t a.host.now o g) (Some r) ≡ answer) asked
    (sym c.allows_runas-to_target.ensures ∙ c.are_equal.ensures c.if-are_equal.true))
    (subst (λ (o : Option Person). runas_allows p (question_as d a.user.now a.host.now o g) (Some r) ≡ answer) asked
    (sym c.allows_runas-to_other.ensures)))
