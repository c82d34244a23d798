use Rattle.review_texts.proofs.Newlines.{text_stays, text_count}
use Rattle.review_texts.proofs.laws.lines_stay.Goals as goal

pub returns-clause-places : goal.returns-clause-places
returns-clause-places c = λ noted text masked lines cut is. text_stays noted text masked lines cut is

pub returns-clause-count : goal.returns-clause-count
returns-clause-count c = λ noted text masked is. text_count noted text masked is
