-- The common prefix and suffix of two policies' blocks, and the blocks between; only proofs of bodies need these definitions.
use Rattle.std.specs.Prelude.{◌≡◌, ◌<◌, ◌≤◌, ◌+◌, ◌-◌, ℕ, List, [], length, map, slice_get, Option, option_map}
use Rattle.sudo_grammar.specs.declared.kind.Kind.TheVariants as kind
use Rattle.sudo_grammar.specs.declared.kind.Member.{Member}
use Rattle.sudo_grammar.specs.declared.kind.Signed.{Signed}
use Rattle.sudo_grammar.specs.declared.policy.Policy.{Policy}
use Rattle.sudo_grammar.specs.declared.policy.Runas.{Runas}
use Rattle.sudo_match.specs.declared.request.Tags.{Tags}
use Rattle.sudo_policy.specs.Written.{written_form}
use Rattle.sudo_verdict.specs.Questions.{Question}
use Rattle.review_compare.specs.declared.block.Block.{Block}
use Rattle.review_compare.specs.declared.common.Common.{Common}
use Rattle.review_compare.specs.Agreement.{Ruling}
use Rattle.review_compare.specs.Blocks.{block_stands}
use Rattle.review_compare.specs.Cells.{ruling_by}
use Rattle.review_compare.specs.Lines.{Lined}
use Rattle.review_compare.specs.Body.Chosen.{standing_if}

-- a list of a runas written out, if there is one
abbrev pub written_if : Policy → Option (List Member) → Option (List Signed)
written_if p list = option_map (written_form kind.Runas p) list

-- both lists of a runas of one policy and of one of another are the same, written out
abbrev pub ArePartsAlike : Policy → Runas → Policy → Runas → Type 0
ArePartsAlike p a r b = (written_if p a.users ≡ written_if r b.users) × (written_if p a.groups ≡ written_if r b.groups)

-- a block of one policy stands exactly for the questions for which a block of another does
abbrev pub StandAlike : Policy → Block → Policy → Block → Type 0
StandAlike p b r c = (q : Question) → block_stands p q b ≡ block_stands r q c

-- what the block at an index answers to a question: nothing, if it does not stand
abbrev pub rulings_at : Policy → List Block → Question → ℕ → List (Ruling Lined (Option Tags))
rulings_at p bs q i = map ruling_by (standing_if p q (slice_get bs i))

-- the block of one policy and that of another answer the same to every question
abbrev pub AreAlikeAt : Policy → List Block → Policy → List Block → ℕ → ℕ → Type 0
AreAlikeAt p bs r cs i j = (q : Question) → rulings_at p bs q i ≡ rulings_at r cs q j

-- the blocks of the common prefix answer the same
abbrev pub IsFront : Policy → List Block → Policy → List Block → ℕ → Type 0
IsFront p bs r cs front = (i : ℕ) → i < front → AreAlikeAt p bs r cs i i

-- the blocks of the common suffix answer the same
abbrev pub IsBack : Policy → List Block → Policy → List Block → ℕ → Type 0
IsBack p bs r cs back = (i : ℕ) → i < back → AreAlikeAt p bs r cs (length bs - i - 1) (length cs - i - 1)

-- the lengths of the common prefix and suffix, which do not overlap
pub record AreCommon (p : Policy) (bs : List Block) (r : Policy) (cs : List Block) (c : Common) : Type 0 where
  pub front : IsFront p bs r cs c.front
  pub back : IsBack p bs r cs c.back
  pub within_old : c.front + c.back ≤ length bs
  pub within_new : c.front + c.back ≤ length cs

-- no block between the common prefix and suffix stands for the question
abbrev pub IsQuiet : Policy → List Block → Common → Question → Type 0
IsQuiet p bs c q = (i : ℕ) → c.front ≤ i → i + c.back < length bs → standing_if p q (slice_get bs i) ≡ []
