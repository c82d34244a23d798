-- A fault of a line names the place where the line begins.
use Rattle.std.proofs.Common.{◌≡◌, ℕ, Some, refl, ap, ◌∙◌}
use Rattle.sudo_text.specs.declared.line.Place.{Place}
use Rattle.sudo_text.specs.declared.piece.Flaw.{Flaw}
use Rattle.sudo_text.specs.declared.piece.Flaw.TheVariants as flaws
use Rattle.sudo_text.specs.Tokens.{fault_of, fault_place, FaultsPlaced}

flaw_place : (first : Place) (flaw : Flaw) (offset : ℕ) → fault_place (fault_of first flaw offset) ≡ Some first
flaw_place first flaws.BadQuote offset = refl
flaw_place first flaws.BadHex offset = refl
flaw_place first flaws.BadEscape offset = refl
flaw_place first flaws.NotPrintable offset = refl

pub faults_placed : FaultsPlaced
faults_placed = λ line fault leftmost. ap fault_place leftmost.is ∙ flaw_place line.first leftmost.flaw leftmost.offset
