-- The characters of runs: words, values, paths, arguments, and texts between double quotes. Only proofs of bodies use these.
use Rattle.std.specs.Prelude.{ℕ, Bool, true, false}
use Rattle.std.specs.Prelude.{◌<◌, ◌≤◌}
use Rattle.sudo_text.specs.declared.piece.Style.{Style}
use Rattle.sudo_text.specs.declared.piece.Style.TheVariants as styles
use Rattle.sudo_text.specs.declared.piece.Piece.{Piece}
use Rattle.sudo_text.specs.declared.piece.Piece.TheVariants.{Char, End, Bad}

-- the first byte of a run always belongs to it
abbrev pub takes_first : Style → Bool
takes_first styles.Quoted = false
takes_first styles.Word = true
takes_first styles.DefaultsWord = true
takes_first styles.Value = true
takes_first styles.Path = true
takes_first styles.Arguments = false
takes_first styles.Include = true

-- a character is not empty and ends within the text, and a flaw lies within it
abbrev pub IsWithin : ℕ → ℕ → Piece → Type 0
IsWithin at end (Char c next) = (at < next) × (next ≤ end)
IsWithin at end End = Unit {0}
IsWithin at end (Bad flaw offset) = (at ≤ offset) × (offset < end)
