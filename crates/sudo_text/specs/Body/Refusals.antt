-- Facts about the flaw that a refusal reports. Only proofs of bodies use these.
use Rattle.std.specs.Prelude.{ℕ}
use Rattle.sudo_text.specs.declared.piece.Flaw.{Flaw}
use Rattle.sudo_text.specs.declared.run.Refusal.{Refusal}
use Rattle.sudo_text.specs.declared.run.Refusal.TheVariants as refusals

abbrev pub Refuses : (Flaw → ℕ → Type 0) → Refusal → Type 0
Refuses P refusals.Memory = Unit {0}
Refuses P (refusals.Wrong flaw offset) = P flaw offset
