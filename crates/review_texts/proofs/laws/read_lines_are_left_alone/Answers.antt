use Rattle.review_texts.proofs.Kept.{text_kept}
use Rattle.review_texts.proofs.laws.read_lines_are_left_alone.Goals as goal

pub returns : goal.returns
returns c = λ noted text masked lines entries cut are is. text_kept noted text masked lines entries cut are is
