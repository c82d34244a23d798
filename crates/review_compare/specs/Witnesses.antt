-- What is found of the rows of two policies for a target.
use Rattle.std.specs.Prelude.{◌≡◌, ◌<◌, ℕ, List, All, length, Some}
use Rattle.review_compare.specs.declared.compared.Compared.{Compared}
use Rattle.review_compare.specs.declared.compared.Compared.TheVariants as compared
use Rattle.review_compare.specs.declared.witness.Witness.{Witness}
use Rattle.review_compare.specs.Cells.{Decider, answer_between, verdict_among}
use Rattle.review_compare.specs.Compared.{said}
use Rattle.review_compare.specs.Lines.{Choice}
use Rattle.review_compare.specs.Unsettled.{IsUnsettled}

-- a command that the policies answer differently: the verdict of each, whichever noted conditions hold, and the kind of change
pub record IsWitness (ds es : List Decider) (w : Witness) : Type 0 where
  pub old : (met : Choice) → w.old ≡ verdict_among met ds w.command w.arguments
  pub new : (met : Choice) → w.new ≡ verdict_among met es w.command w.arguments
  pub answer : answer_between w.old w.new ≡ Some w.answer

-- whichever noted conditions hold, the last rows that apply say the same to every command, with any arguments
abbrev pub RowsSaySame : List Decider → List Decider → Type 0
RowsSaySame ds es = (met : Choice) (command arguments : List ℕ) →
    said (verdict_among met ds command arguments) ≡ said (verdict_among met es command arguments)

-- same: to every command; or there are witnesses; otherwise it is not settled, and rows are named that leave it so
abbrev pub IsCompared : List Decider → List Decider → Compared → Type 0
IsCompared ds es compared.Same = RowsSaySame ds es
IsCompared ds es (compared.Differs ws) = (0 < length ws) × All (IsWitness ds es) ws
IsCompared ds es (compared.May old new) = IsUnsettled ds es old new
