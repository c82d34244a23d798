-- Without a block that raises, what is given has not the least level.
use Rattle.std.proofs.Common.{◌≡◌, ◌<◌, ◌≤◌, ◌∙◌, ℕ, Bool, true, false, not, cond, ◌&&◌, ◌||◌, List, [], ◌∷◌, ap, arith, flat_map}
use Rattle.std.proofs.Common.{map, refl, subst, sym, inl, inr, ◌⊎◌, Option, Some, None, option_copied}
use Rattle.std.specs.Prelude.{is_some}
use Rattle.std.specs.List.{list_any}
use Rattle.std.proofs.lemmas.Bool.{cases_lt, le-leb, leb-true}
use Rattle.std.proofs.lemmas.Grind.{fold-append}
use Rattle.sudo_grammar.specs.declared.policy.Policy.{Policy}
use Rattle.sudo_match.specs.declared.people.Group.{Group}
use Rattle.sudo_match.specs.declared.people.Machine.{Machine}
use Rattle.sudo_match.specs.declared.people.Person.{Person}
use Rattle.sudo_match.specs.declared.request.Tags.{Tags}
use Rattle.sudo_match.specs.KnownRows.{KnownRows}
use Rattle.sudo_verdict.specs.Questions.{Question, question_as}
use Rattle.sudo_verdict.specs.RunasForms.{is_same_user, runas_allows}
use Rattle.review_roots.specs.declared.given.Counted.{Counted}
use Rattle.review_roots.specs.declared.given.Counted.TheVariants as counted
use Rattle.review_roots.specs.declared.block.Block.{Block}
use Rattle.review_roots.specs.declared.block.Sign.{Sign}
use Rattle.review_roots.specs.declared.given.Given.{Given}
use Rattle.review_roots.specs.declared.level.Level.{Level}
use Rattle.review_roots.specs.declared.level.Level.TheVariants as level
use Rattle.review_roots.specs.Asked.{better, given_alone, given_asked, is_better, nothing}
use Rattle.review_roots.specs.Blocks.{AreBlocks, block_row, block_rows, is_for, lists, standing_rows, with_row, with_rows}
use Rattle.review_roots.specs.Body.Candidates.{raises_for}
use Rattle.review_roots.specs.Body.Raising.{block_raises, raises}
use Rattle.review_grants.specs.declared.marks.Marks.{Marks}
use Rattle.review_grants.specs.Depends.{is_unmarked}
use Rattle.review_roots.specs.Levels.{after_row, after_signed, lowered, raised}
use Rattle.review_roots.specs.Passwords.{free_after, free_row, nopasswd}
use Rattle.review_roots.specs.Ranks.{best, rank, is_at_least}
use Rattle.review_roots.specs.States.{given_between, level_for}
use Rattle.review_roots.proofs.GivenLemmas.{blocks_give}
use Rattle.review_grants.proofs.ItemLemmas.{neither}

-- ---- Ranks

pub not-at-least : (k l : Level) → is_at_least k l ≡ false → rank l < rank k
not-at-least k l e = go (cases_lt (rank l) (rank k))
  where
    go : (rank l < rank k) ⊎ (rank k ≤ rank l) → rank l < rank k
    go (inl less) = less
    go (inr most) = let is : is_at_least k l ≡ true = le-leb (rank k) (rank l) most in absurd (let bad : true ≡ false = sym is ∙ e in cc)

pub below-not : (k l : Level) → rank l < rank k → is_at_least k l ≡ false
below-not k l less = go (is_at_least k l) refl
  where
    go : (b : Bool) → is_at_least k l ≡ b → is_at_least k l ≡ false
    go false e = e
    go true e = let most = leb-true (rank k) (rank l) e in absurd (omega (arith, less, most))

lowered-rank : (l : Level) → rank (lowered l) ≤ rank l
lowered-rank level.None = omega arith
lowered-rank level.Listed = omega arith
lowered-rank level.AllBut = omega arith
lowered-rank level.All = omega arith

raised-below : (l : Level) (n : ℕ) → 1 < n → rank l < n → rank (raised l) < n
raised-below level.None n one less = one
raised-below level.Listed n one less = less
raised-below level.AllBut n one less = less
raised-below level.All n one less = less

-- ---- One row, one block, all blocks

-- the level is not the least one or a better one, and a password is asked
abbrev pub IsWeak : Level → Given → Type 0
IsWeak least a = (is_at_least least a.level ≡ false) × (a.free ≡ false)

level-weak :
    (least l : Level) (n a : Bool) → is_at_least least l ≡ false → (not n && (a || is_at_least least level.Listed)) ≡ false →
    is_at_least least (after_signed l n a) ≡ false
level-weak least l true true weak e =
    let less = not-at-least least l weak in below-not least level.None (omega (arith, less))
level-weak least l true false weak e =
    let less = not-at-least least l weak in
    let most = lowered-rank l in
    below-not least (lowered l) (omega (arith, less, most))
level-weak least l false true weak e = cc
level-weak least l false false weak e =
    below-not least (raised l) (raised-below l (rank least) (not-at-least least level.Listed e) (not-at-least least l weak))

free-weak : (free n a x : Bool) (t : Tags) → free ≡ false → (not n && (a || x)) ≡ false → free_after free n t a ≡ false
free-weak free true a x t is e = refl
free-weak free false true x t is e = cc
free-weak free false false x t is e = go (nopasswd t)
  where
    go : (b : Bool) → cond b (false || free) false ≡ false
    go true = is
    go false = refl

-- the same of a row with these notes
level-weak-row :
    (marks : Marks) (least l : Level) (n a : Bool) → is_at_least least l ≡ false →
    (not n && (a || is_at_least least level.Listed)) ≡ false →
    is_at_least least (after_row marks l n a) ≡ false
level-weak-row marks least l n a weak e = go (is_unmarked marks)
  where
    either : (b : Bool) → is_at_least least (cond b (after_signed l n a) l) ≡ false
    either true = level-weak least l n a weak e
    either false = weak

    go : (k : Bool) → is_at_least least (cond k (after_signed l n a) (best l (after_signed l n a))) ≡ false
    go true = level-weak least l n a weak e
    go false = either (is_at_least l (after_signed l n a))

free-weak-row : (marks : Marks) (free n a x : Bool) (t : Tags) → free ≡ false → (not n && (a || x)) ≡ false
    → free_row marks free n t a ≡ false
free-weak-row marks free n a x t is e = go (is_unmarked marks)
  where
    go : (k : Bool) → cond k (free_after free n t a) (free || free_after free n t a) ≡ false
    go true = free-weak free n a x t is e
    go false = ap (λ b. b || free_after free n t a) is ∙ free-weak free n a x t is e

pub weak-signs :
    (least : Level) (b : Block) (ss : List Sign) (a : Given) → IsWeak least a → list_any (raises least) ss ≡ false →
    IsWeak least (with_rows a (map (block_row b) ss))
weak-signs least b [] a weak e = weak
weak-signs least b (s ∷ ss) a weak e =
    let both = neither (raises least s) (list_any (raises least) ss) e in
    weak-signs least b ss (with_row a (block_row b s)) (
      level-weak-row b.marks least a.level s.negated s.all weak.0 both.0,
      free-weak-row b.marks a.free s.negated s.all (is_at_least least level.Listed) b.tags weak.1 both.0,
    ) both.1

silent-if : (r l x : Bool) → ((r && l) && x) ≡ false → (l && x) ≡ true → r ≡ false
silent-if false l x e s = refl
silent-if true true x e s = cc
silent-if true false x e s = cc

-- no block raises that stands for the question
abbrev pub NoneRaises : Policy → Level → Question → List Block → Type 0
NoneRaises p least q bs =
    list_any (λ b. raises_for p least q.user b && (is_for p q.host b && runas_allows p q (option_copied b.runas))) bs ≡ false

weak-blocks :
    (p : Policy) (least : Level) (q : Question) (bs : List Block) (a : Given) → IsWeak least a → NoneRaises p least q bs →
    IsWeak least (with_rows a (flat_map (standing_rows p q) bs))
weak-blocks p least q [] a weak e = weak
weak-blocks p least q (b ∷ bs) a weak e =
    let both = neither (raises_for p least q.user b && (is_for p q.host b && runas_allows p q (option_copied b.runas)))
    (list_any (λ b. raises_for p least q.user b && (is_for p q.host b && runas_allows p q (option_copied b.runas))) bs) e in
    subst (IsWeak least) (sym (fold-append with_row a (standing_rows p q b) (flat_map (standing_rows p q) bs)))
    (weak-blocks p least q bs (with_rows a (standing_rows p q b))
    (go (lists p q.user b && (is_for p q.host b && runas_allows p q (option_copied b.runas))) refl both.0) both.1)
  where
    go :
        (c : Bool) → (lists p q.user b && (is_for p q.host b && runas_allows p q (option_copied b.runas))) ≡ c →
        (raises_for p least q.user b && (is_for p q.host b && runas_allows p q (option_copied b.runas))) ≡ false →
        IsWeak least (with_rows a (cond c (block_rows b) []))
    go true is none =
        weak-signs least b b.signs.items a weak
        (silent-if (block_raises least b) (lists p q.user b) (is_for p q.host b && runas_allows p q (option_copied b.runas)) none is)
    go false is none = weak

-- ---- What is given is weak

pub weak-nothing : (least : Level) → is_at_least level.Listed least ≡ true → IsWeak least nothing
weak-nothing least listed =
    let most = leb-true (rank level.Listed) (rank least) listed in (below-not least level.None (omega (arith, most)), refl)

weak-better : (least : Level) (a b : Given) → IsWeak least a → IsWeak least b → IsWeak least (better a b)
weak-better least a b first second = go (is_better a b)
  where
    go : (c : Bool) → IsWeak least (cond c b a)
    go true = second
    go false = first

pub weak-asked :
    (p : Policy) (d : KnownRows) (least : Level) (u : Person) (m : Machine) (t : Option Person) (g : Option Group) (bs : List Block) →
    AreBlocks p bs → is_at_least level.Listed least ≡ true → NoneRaises p least (question_as d u m t g) bs →
    IsWeak least (given_asked p d u m t g)
weak-asked p d least u m t g bs tied listed none =
    subst (IsWeak least) (blocks_give p (question_as d u m t g) bs tied)
    (weak-blocks p least (question_as d u m t g) bs nothing (weak-nothing least listed) none)

-- a step without the least level has it not where it counts either
pub low-level :
    (least : Level) (a : Given) → is_at_least level.Listed least ≡ true → is_at_least least a.level ≡ false → (k : Counted) (l : Level)
    → is_at_least least l ≡ true → is_at_least l (level_for k a) ≡ false
low-level least a listed low k l above = go k
  where
    below : is_at_least l a.level ≡ false
    below =
        let less = not-at-least least a.level low in
        let most = leb-true (rank least) (rank l) above in
        below-not l a.level (omega (arith, less, most))

    none : is_at_least l level.None ≡ false
    none =
        let one = leb-true (rank level.Listed) (rank least) listed in
        let most = leb-true (rank least) (rank l) above in
        below-not l level.None (omega (arith, one, most))

    either : (b : Bool) → is_at_least l (cond b a.level level.None) ≡ false
    either true = below
    either false = none

    go : (k : Counted) → is_at_least l (level_for k a) ≡ false
    go counted.Any = below
    go counted.Unasked = either a.unasked
    go counted.Free = either a.free

-- a step that is weak has not the least level
pub weak-level :
    (least : Level) (a : Given) → is_at_least level.Listed least ≡ true → IsWeak least a → (k : Counted) (l : Level)
    → is_at_least least l ≡ true → is_at_least l (level_for k a) ≡ false
weak-level least a listed weak k l above = low-level least a listed weak.0 k l above

pub any-weaker : {X : Type 0} (f g : X → Bool) → ((x : X) → f x ≡ false → g x ≡ false) → (xs : List X) → list_any f xs ≡ false
    → list_any g xs ≡ false
any-weaker f g weaker [] e = refl
any-weaker f g weaker (x ∷ xs) e =
    let both = neither (f x) (list_any f xs) e in
    ap (λ b. b || list_any g xs) (weaker x both.0) ∙ any-weaker f g weaker xs both.1

and-more : (r f x : Bool) → (r && f) ≡ false → (r && (f && x)) ≡ false
and-more false f x e = refl
and-more true false x e = refl
and-more true true x e = cc

-- whoever no block that raises lists on the host takes no step of the least level
module _
    (p : Policy) (d : KnownRows) (m : Machine) (least : Level) (u : Person) (bs : List Block) (tied : AreBlocks p bs)
    (listed : is_at_least level.Listed least ≡ true) (none : list_any (λ b. raises_for p least u b && is_for p m b) bs ≡ false)
  where
    quiet-asked : (t : Option Person) (g : Option Group) → IsWeak least (given_asked p d u m t g)
    quiet-asked t g =
        weak-asked p d least u m t g bs tied listed
        (any-weaker (λ b. raises_for p least u b && is_for p m b)
        (λ b. raises_for p least u b && (is_for p m b && runas_allows p (question_as d u m t g) (option_copied b.runas)))
        (λ b. and-more (raises_for p least u b) (is_for p m b) (runas_allows p (question_as d u m t g) (option_copied b.runas))) bs none)

    quiet-alone : (v : Person) (g : Option Group) → IsWeak least (given_alone p d m u v g)
    quiet-alone v g = go (is_same_user v u && is_some g)
      where
        go : (b : Bool) → IsWeak least (cond b (given_asked p d u m None g) nothing)
        go true = quiet-asked None g
        go false = weak-nothing least listed

    pub quiet-between : (v : Option Person) (g : Option Group) → IsWeak least (given_between p d m (Some u) v g)
    quiet-between None g = weak-nothing least listed
    quiet-between (Some v) g =
        weak-better least (given_asked p d u m (Some v) g) (given_alone p d m u v g) (quiet-asked (Some v) g) (quiet-alone v g)
