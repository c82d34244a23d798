use Rattle.std.proofs.Common.{length}
use Rattle.sudo_parser.proofs.words.+spells.Given as goal

abbrev pub decreases-spells : goal.decreases-spells
decreases-spells l = length l.chars.now
