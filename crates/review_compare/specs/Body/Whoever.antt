-- What the runas of blocks answers to whoever asks; only proofs of bodies need these definitions.
use Rattle.std.specs.Prelude.{◌≡◌, ◌<◌, ℕ, Bool, ◌&&◌, is_some, List, get_or, length, Option}
use Rattle.sudo_grammar.specs.declared.policy.Policy.{Policy}
use Rattle.sudo_grammar.specs.declared.policy.Runas.{Runas}
use Rattle.sudo_match.specs.declared.people.Group.{Group}
use Rattle.sudo_match.specs.declared.people.Machine.{Machine}
use Rattle.sudo_match.specs.declared.people.Person.{Person}
use Rattle.sudo_match.specs.KnownRows.{KnownRows}
use Rattle.sudo_verdict.specs.Questions.{Question, question_as}
use Rattle.sudo_verdict.specs.RunasForms.{runas_allows}
use Rattle.review_compare.specs.declared.block.Block.{Block}
use Rattle.review_compare.specs.declared.cell.Ask.{Ask}
use Rattle.review_compare.specs.declared.pair.Pair.{Pair}
use Rattle.review_compare.specs.declared.spot.Listed.{Listed}
use Rattle.review_compare.specs.Differences.{known_at}
use Rattle.review_compare.specs.Body.Chosen.{runas_at}
use Rattle.review_compare.specs.Body.SameRunas.{AreAnswers}

-- the runas has a list of users and one of groups
abbrev pub has_both_lists : Runas → Bool
has_both_lists r = is_some r.users && is_some r.groups

-- the runas answers so to each user on each host
abbrev pub AllowsWhoever : Policy → KnownRows → Option Person → Option Group → Option Runas → Bool → Type 0
AllowsWhoever p d t g r answer = (u : Person) (m : Machine) → runas_allows p (question_as d u m t g) r ≡ answer

-- so does that of the block at an index
abbrev pub AnswersWhoever : Policy → List Block → KnownRows → Option Person → Option Group → ℕ → Bool → Type 0
AnswersWhoever p bs d t g i answer = (u : Person) (m : Machine) → runas_at p bs (question_as d u m t g) i ≡ answer

-- one of these blocks allows what the block at an index does
abbrev pub HasForm : Policy → List Block → List ℕ → ℕ → Type 0
HasForm p bs forms i = (j : ℕ) × (j < length forms) × ((q : Question) → runas_at p bs q (get_or forms j 0) ≡ runas_at p bs q i)

-- and what each of the blocks does
abbrev pub AreForms : Policy → List Block → List ℕ → List ℕ → Type 0
AreForms p bs is forms = (k : ℕ) → k < length is → HasForm p bs forms (get_or is k 0)

-- these are the answers of the blocks to each user on each host
pub record AreAnsweredBy (p : Policy) (bs : List Block) (d : KnownRows) (t : Option Person) (g : Option Group) (is : List ℕ)
    (answers : List Bool) : Type 0 where
  pub long : length answers ≡ length is
  pub are : (u : Person) (m : Machine) → AreAnswers p bs (question_as d u m t g) is answers

-- blocks of both policies that allow what the blocks near the change do
pub record AreFormsIn (p : Pair) (forms : Listed) : Type 0 where
  pub old : AreForms p.old.checked.now p.old.blocks.items p.near.old.items forms.old.items
  pub new : AreForms p.new.checked.now p.new.blocks.items p.near.new.items forms.new.items

-- these are the answers of blocks of both policies to each user who asks for this on each host
pub record AreAnswered (p : Pair) (forms : Listed) (a : Ask) (old new : List Bool) : Type 0 where
  pub in_old : AreAnsweredBy p.old.checked.now p.old.blocks.items p.directory.now (known_at p.directory.now.people a.target)
      (known_at p.groups.now a.group) forms.old.items old
  pub in_new : AreAnsweredBy p.new.checked.now p.new.blocks.items p.directory.now (known_at p.directory.now.people a.target)
      (known_at p.groups.now a.group) forms.new.items new

-- the first so many of these blocks of both policies allow the same, one by one
abbrev pub AllowAlikeBelow : Pair → Listed → ℕ → Type 0
AllowAlikeBelow p forms n = (q : Question) (k : ℕ) → k < n →
    runas_at p.old.checked.now p.old.blocks.items q (get_or forms.old.items k 0)
    ≡ runas_at p.new.checked.now p.new.blocks.items q (get_or forms.new.items k 0)

-- all of them do
pub record AreFormsAlike (p : Pair) (forms : Listed) : Type 0 where
  pub long : length forms.old.items ≡ length forms.new.items
  pub each : AllowAlikeBelow p forms (length forms.old.items)
