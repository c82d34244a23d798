use Rattle.std.proofs.Common.{◌≡◌, length, option_copied}
use Rattle.sudo_match.specs.declared.people.Machine.{Machine}
use Rattle.sudo_match.specs.declared.people.Person.{Person}
use Rattle.sudo_verdict.specs.Questions.{question_as}
use Rattle.review_compare.specs.Body.SameRunas.{AreAnswers}
use Rattle.review_compare.proofs.side.Side.answers_by.Given as goal

abbrev pub invariant-loop-form : goal.invariant-loop-form
invariant-loop-form l = (length l.answers.items ≡ l.form-index)
    × ((u : Person) (m : Machine) → AreAnswers l.self.checked.now l.self.blocks.items
    (question_as l.directory u m (option_copied l.asker.target) (option_copied l.asker.group)) l.forms l.answers.items)
