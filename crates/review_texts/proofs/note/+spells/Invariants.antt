use Rattle.std.proofs.Common.{length}
use Rattle.review_texts.proofs.note.+spells.Given as goal

abbrev pub decreases-spells : goal.decreases-spells
decreases-spells l = length l.text.now
