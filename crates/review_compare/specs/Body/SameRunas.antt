-- Blocks with the same runas; only proofs of bodies need these definitions.
use Rattle.std.specs.Prelude.{◌≡◌, ◌<◌, ℕ, Bool, List, get_or, length}
use Rattle.sudo_grammar.specs.declared.policy.Policy.{Policy}
use Rattle.sudo_verdict.specs.Questions.{Question}
use Rattle.review_compare.specs.declared.block.Block.{Block}
use Rattle.review_compare.specs.Body.Chosen.{runas_at}

-- the blocks at both positions of these indices allow the same
abbrev pub AllowAlike : Policy → List Block → List ℕ → ℕ → ℕ → Type 0
AllowAlike p bs is j k = (q : Question) → runas_at p bs q (get_or is j 0) ≡ runas_at p bs q (get_or is k 0)

-- for each of the indices, a position at which a block allows the same
abbrev pub AreFirsts : Policy → List Block → List ℕ → List ℕ → Type 0
AreFirsts p bs is ns = (k : ℕ) → k < length is → AllowAlike p bs is (get_or ns k k) k

-- whether the blocks at the first positions allow what is asked
abbrev pub AreAnswers : Policy → List Block → Question → List ℕ → List Bool → Type 0
AreAnswers p bs q is answers = (k : ℕ) (d : Bool) → k < length answers → get_or answers k d ≡ runas_at p bs q (get_or is k 0)
