use Rattle.std.proofs.Common.{◌≡◌, arith, false, option_copied}
use Rattle.sudo_match.specs.declared.people.Machine.{Machine}
use Rattle.sudo_match.specs.declared.people.Person.{Person}
use Rattle.sudo_verdict.specs.Questions.{question_as}
use Rattle.review_compare.specs.Body.Chosen.{runas_at}
use Rattle.review_compare.proofs.UnchangedLemmas.{allow-quiet, each-more}
use Rattle.review_compare.proofs.side.Side.may_allow.Goals as goal

pub loop-index-preserved : goal.loop-index-preserved
loop-index-preserved c =
    let self = c.args.self.now in
    let asker = c.args.asker in
    each-more c.args.common.front c.loop-index.index
    (λ i. (u : Person) (m : Machine) → runas_at self.checked.now self.blocks.items (question_as c.args.directory.now u m
    (option_copied asker.target) (option_copied asker.group)) i ≡ false)
    c.loop-index.invariant (c.may_allow_at.ensures c.if-may_allow_at.false)

pub returns : goal.returns
returns c = λ e. let asker = c.args.asker in
    allow-quiet c.args.self.now.checked.now c.args.self.now.blocks.items c.args.common c.args.directory.now (option_copied asker.target)
    (option_copied asker.group) c.loop-index.index (omega (arith, c.loop-index-test.false)) c.loop-index.invariant
