use Rattle.review_texts.proofs.HostLaws.{names_stand}
use Rattle.review_texts.proofs.laws.names_stand_for_escapes.Goals as goal

pub returns : goal.returns
returns c = λ host line start end put stands. names_stand host line start end put stands
