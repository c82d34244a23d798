use Rattle.sudo_match.proofs.CutLemmas.{star-is-part, question-is-part, byte-is-part}
use Rattle.sudo_match.proofs.laws.characters_are_parts.Goals as goal

pub returns-clause-star : goal.returns-clause-star
returns-clause-star c = λ ch cs. star-is-part ch cs

pub returns-clause-question : goal.returns-clause-question
returns-clause-question c = λ ch cs. question-is-part ch cs

pub returns-clause-other : goal.returns-clause-other
returns-clause-other c = λ ch cs. byte-is-part ch cs
