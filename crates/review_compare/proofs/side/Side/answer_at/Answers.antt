use Rattle.std.proofs.Common.{option_copied}
use Rattle.sudo_verdict.specs.Questions.{question_as}
use Rattle.review_compare.proofs.SameRunasLemmas.{answer-alike}
use Rattle.review_compare.proofs.side.Side.answer_at.Goals as goal

pub returns-in-Some : goal.returns-in-Some
returns-in-Some c =
    let p = c.args.self.now.checked.now in
    let bs = c.args.self.now.blocks.items in
    let a = c.args.asker in
    let q = question_as c.args.directory.now a.user.now a.host.now (option_copied a.target) (option_copied a.group) in
    answer-alike p bs q c.args.listed.now c.args.firsts.now c.args.answers.now c.args.at c.in-Some.answer
    (c.requires.firsts c.args.at c.requires.at) c.requires.answers c.in-Some.ensures.0 c.in-Some.ensures.1
