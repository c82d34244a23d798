-- Lists that answer alike, whatever is asked; only proofs of bodies need these definitions.
use Rattle.std.specs.Prelude.{◌≡◌, ◌<◌, ℕ, List, Option, Some, None, option_copied, slice_get}
use Rattle.sudo_grammar.specs.declared.kind.Kind.{Kind}
use Rattle.sudo_grammar.specs.declared.kind.Member.{Member}
use Rattle.sudo_grammar.specs.declared.policy.Policy.{Policy}
use Rattle.sudo_grammar.specs.declared.policy.Runas.{Runas}
use Rattle.sudo_policy.specs.Written.{written_form}
use Rattle.sudo_verdict.specs.Questions.{Question}
use Rattle.sudo_verdict.specs.RunasForms.{runas_allows}
use Rattle.review_roots.specs.declared.block.Block.{Block}

-- the lists have the same written form
abbrev pub AreAlike : List Member → List Member → Type 0
AreAlike ms ns = (k : Kind) (p : Policy) → written_form k p ms ≡ written_form k p ns

abbrev pub user_list : Block → List Member
user_list b = b.users.now

abbrev pub host_list : Block → List Member
host_list b = b.hosts.now

abbrev pub HaveAlike : (Block → List Member) → Block → Block → Type 0
HaveAlike list f b = AreAlike (list f) (list b)

-- both lists are alike, or there is neither
abbrev pub AreAlikeOrNone : Option (List Member) → Option (List Member) → Type 0
AreAlikeOrNone None None = Unit {0}
AreAlikeOrNone (Some ms) (Some ns) = AreAlike ms ns
AreAlikeOrNone _ _ = ⊥

-- both runas, or their absence, allow the same
abbrev pub AllowAlike : Option Runas → Option Runas → Type 0
AllowAlike r s = (p : Policy) (q : Question) → runas_allows p q r ≡ runas_allows p q s

abbrev pub HaveAlikeRunas : Block → Block → Type 0
HaveAlikeRunas f b = AllowAlike (option_copied f.runas) (option_copied b.runas)

-- the block at the first index, if that is before the other, answers as the block at the other
abbrev pub IsFirstBy : (Block → Block → Type 0) → List Block → ℕ → ℕ → Type 0
IsFirstBy same bs index first =
    (b f : Block) → first < index → slice_get bs index ≡ Some b → slice_get bs first ≡ Some f → same f b

abbrev pub AreFirstsBy : (Block → Block → Type 0) → List Block → List ℕ → Type 0
AreFirstsBy same bs firsts = (index first : ℕ) → slice_get firsts index ≡ Some first → IsFirstBy same bs index first

-- the same by a list of each block
abbrev pub IsFirst : (Block → List Member) → List Block → ℕ → ℕ → Type 0
IsFirst list bs index first = IsFirstBy (HaveAlike list) bs index first

abbrev pub AreFirsts : (Block → List Member) → List Block → List ℕ → Type 0
AreFirsts list bs firsts = AreFirstsBy (HaveAlike list) bs firsts
