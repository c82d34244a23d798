-- One step of matching: the part at a position of the pattern, and whether it fits the byte at a position of the text;
-- only the proof of the loop needs these definitions.
use Rattle.std.specs.Prelude.{◌≡◌, ℕ, ◌+◌, ◌<◌, true, false, List, ◌∷◌, length, drop}
use Rattle.sudo_text.specs.declared.token.Ch.{Ch}
use Rattle.sudo_match.specs.declared.patterns.Slash.{Slash}
use Rattle.sudo_match.specs.declared.patterns.Step.{Step}
use Rattle.sudo_match.specs.declared.patterns.Step.TheVariants.{Starred, Taken, Finished, Stuck}
use Rattle.sudo_match.specs.Pattern.{ByteSet, One, Star, set_holds, parts, fits}

-- a set of the pattern holds a byte of the text
pub record TakesPart (s : Slash) (cs : List Ch) (t : List ℕ) (at offset more : ℕ) : Type 0 where
  pub set : ByteSet
  pub byte : ℕ
  pub parts_are : parts (drop at cs) ≡ One set ∷ parts (drop (at + 1 + more) cs)
  pub text_is : drop offset t ≡ byte ∷ drop (offset + 1) t
  pub held : set_holds s set byte ≡ true
  pub at_within : at + more < length cs
  pub offset_within : offset < length t

-- the pattern continues with a star
pub record IsStarred (cs : List Ch) (at : ℕ) : Type 0 where
  pub parts_are : parts (drop at cs) ≡ Star ∷ parts (drop (at + 1) cs)
  pub within : at < length cs

abbrev pub StepIs : Slash → List Ch → List ℕ → ℕ → ℕ → Step → Type 0
StepIs s cs t at offset Starred = IsStarred cs at
StepIs s cs t at offset (Taken more) = TakesPart s cs t at offset more
StepIs s cs t at offset Finished = fits (parts (drop at cs)) (drop offset t) s ≡ true
StepIs s cs t at offset Stuck = fits (parts (drop at cs)) (drop offset t) s ≡ false
