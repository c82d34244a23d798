-- What is given has each level from the least one on if and only if what the deciding blocks give has it.
use Rattle.std.proofs.Common.{◌≡◌, ◌<◌, ◌≤◌, ◌∙◌, ◌==◌, Bool, true, false, not, cond, ◌&&◌, ◌||◌, List, [], ◌∷◌, ap, arith, flat_map}
use Rattle.std.proofs.Common.{drop, option_copied, refl, subst, suc, sym, take, zero, inl, inr, ◌⊎◌, ℕ, Option, Some, None}
use Rattle.std.specs.Prelude.{All, bytes_eq, is_some, nat_lt}
use Rattle.std.specs.List.{list_all}
use Rattle.std.proofs.lemmas.Bool.{and_parts, le-ltb, leb-true, lt-ltb, ne_eqb}
use Rattle.std.proofs.lemmas.Grind.{fold-append}
use Rattle.std.proofs.lemmas.List.Elements.{All-weaker}
use Rattle.sudo_grammar.specs.declared.policy.Policy.{Policy}
use Rattle.sudo_match.specs.declared.people.Group.{Group}
use Rattle.sudo_match.specs.declared.people.Machine.{Machine}
use Rattle.sudo_match.specs.declared.people.Person.{Person}
use Rattle.sudo_match.specs.KnownRows.{KnownRows}
use Rattle.sudo_verdict.specs.Questions.{Question, question_as}
use Rattle.sudo_verdict.specs.RunasForms.{is_same_user, runas_allows}
use Rattle.review_roots.specs.declared.block.Block.{Block}
use Rattle.review_roots.specs.declared.given.Counted.{Counted}
use Rattle.review_roots.specs.declared.given.Given.{Given}
use Rattle.review_roots.specs.declared.level.Level.{Level}
use Rattle.review_roots.specs.declared.level.Level.TheVariants as level
use Rattle.review_roots.specs.Asked.{better, given_alone, given_asked, given_towards, is_better, is_easier, nothing}
use Rattle.review_roots.specs.Blocks.{AreBlocks, block_rows, is_for, stands, standing_rows, with_row, with_rows}
use Rattle.review_roots.specs.Body.Deciding.{IsCut, IsPassed, alone_by, asked_by, deciding, deciding_for, from_raising}
use Rattle.review_roots.specs.Body.Deciding.{is_called, is_settled, towards_by}
use Rattle.review_roots.specs.Body.Raising.{block_raises}
use Rattle.review_roots.specs.Body.Settled.{settles}
use Rattle.review_roots.specs.Ranks.{is_at_least, rank}
use Rattle.review_roots.specs.States.{level_for}
use Rattle.review_roots.proofs.GivenLemmas.{blocks_give}
use Rattle.review_roots.proofs.SettledLemmas.{settled-gives}
use Rattle.review_roots.proofs.WeakLemmas.{IsWeak, low-level, not-at-least, weak-nothing, weak-signs}

-- ---- The deciding blocks are among all

raising-all : (t : Block → Bool) (least : Level) (bs : List Block) → list_all t bs ≡ true → list_all t (from_raising least bs) ≡ true
raising-all t least [] all = all
raising-all t least (b ∷ bs) all = go (block_raises least b) (raising-all t least bs)
  where
    go : (c : Bool) → (list_all t bs ≡ true → list_all t (from_raising least bs) ≡ true)
        → list_all t (cond c (b ∷ bs) (from_raising least bs)) ≡ true
    go true rest = all
    go false rest = rest (and_parts (t b) (list_all t bs) all).1

pub deciding-all : (t : Block → Bool) (least : Level) (bs : List Block) → list_all t bs ≡ true → list_all t (deciding least bs) ≡ true
deciding-all t least bs all = go (list_all (is_settled least) bs)
  where
    go : (c : Bool) → list_all t (cond c (from_raising least bs) bs) ≡ true
    go true = raising-all t least bs all
    go false = all

-- ---- Given the same, or less than the least level

-- both are the same, or neither has the least level
abbrev pub AreLevel : Level → Given → Given → Type 0
AreLevel least a c = (a ≡ c) ⊎ ((is_at_least least a.level ≡ false) × (is_at_least least c.level ≡ false))

-- the same, where a password is asked, too
abbrev AreEven : Level → Given → Given → Type 0
AreEven least a c = (a ≡ c) ⊎ (IsWeak least a × IsWeak least c)

even-level : (least : Level) (a c : Given) → AreEven least a c → AreLevel least a c
even-level least a c (inl e) = inl e
even-level least a c (inr (first, second)) = inr (first.0, second.0)

-- ---- Blocks of which each settles that raises

module _ (p : Policy) (least : Level) (listed : is_at_least level.Listed least ≡ true) (q : Question) where
  -- what is given with a block
  abbrev with-block : Given → Block → Given
  with-block a b = with_rows a (standing_rows p q b)

  abbrev with-blocks : Given → List Block → Given
  with-blocks a bs = with_rows a (flat_map (standing_rows p q) bs)

  one-more : (a : Given) (b : Block) (bs : List Block) → with-blocks a (b ∷ bs) ≡ with-blocks (with-block a b) bs
  one-more a b bs = fold-append with_row a (standing_rows p q b) (flat_map (standing_rows p q) bs)

  -- without a block that raises it is as weak as before
  weak-block : (b : Block) (a : Given) → block_raises least b ≡ false → IsWeak least a → IsWeak least (with-block a b)
  weak-block b a none weak = go (stands p q b)
    where
      go : (c : Bool) → IsWeak least (with_rows a (cond c (block_rows b) []))
      go true = weak-signs least b b.signs.items a weak none
      go false = weak

  even-block : (b : Block) (a c : Given) → is_settled least b ≡ true → AreEven least a c → AreEven least (with-block a b) (with-block c b)
  even-block b a c settled (inl e) = inl (ap (λ (x : Given). with-block x b) e)
  even-block b a c settled (inr weak) = go (block_raises least b) refl settled
    where
      stand : (s : Bool) → settles b.effect ≡ true
          → AreEven least (with_rows a (cond s (block_rows b) [])) (with_rows c (cond s (block_rows b) []))
      stand true settle = inl (settled-gives b settle a c)
      stand false settle = inr weak

      go : (r : Bool) → block_raises least b ≡ r → (not r || settles b.effect) ≡ true
          → AreEven least (with-block a b) (with-block c b)
      go true is settle = stand (stands p q b) settle
      go false is settle = inr (weak-block b a is weak.0, weak-block b c is weak.1)

  even-blocks :
      (bs : List Block) (a c : Given) → list_all (is_settled least) bs ≡ true → AreEven least a c
      → AreEven least (with-blocks a bs) (with-blocks c bs)
  even-blocks [] a c all even = even
  even-blocks (b ∷ bs) a c all even =
      let both = and_parts (is_settled least b) (list_all (is_settled least) bs) all in
      subst (λ x. AreEven least x (with-blocks c (b ∷ bs))) (sym (one-more a b bs))
      (subst (AreEven least (with-blocks (with-block a b) bs)) (sym (one-more c b bs))
      (even-blocks bs (with-block a b) (with-block c b) both.1 (even-block b a c both.0 even)))

  -- those in front of the first one that raises change nothing
  even-behind :
      (bs : List Block) (a : Given) → list_all (is_settled least) bs ≡ true → IsWeak least a
      → AreEven least (with-blocks a bs) (with-blocks nothing (from_raising least bs))
  even-behind [] a all weak = inr (weak, weak-nothing least listed)
  even-behind (b ∷ bs) a all weak = go (block_raises least b) refl (even-behind bs)
    where
      go : (r : Bool) → block_raises least b ≡ r →
          ((a : Given) → list_all (is_settled least) bs ≡ true → IsWeak least a
          → AreEven least (with-blocks a bs) (with-blocks nothing (from_raising least bs))) →
          AreEven least (with-blocks a (b ∷ bs)) (with-blocks nothing (cond r (b ∷ bs) (from_raising least bs)))
      go true is rest = even-blocks (b ∷ bs) a nothing all (inr (weak, weak-nothing least listed))
      go false is rest =
          subst (λ x. AreEven least x (with-blocks nothing (from_raising least bs))) (sym (one-more a b bs))
          (rest (with-block a b) (and_parts (is_settled least b) (list_all (is_settled least) bs) all).1 (weak-block b a is weak))

  even-deciding : (bs : List Block) → AreEven least (with-blocks nothing bs) (with-blocks nothing (deciding least bs))
  even-deciding bs = go (list_all (is_settled least) bs) refl
    where
      go : (c : Bool) → list_all (is_settled least) bs ≡ c
          → AreEven least (with-blocks nothing bs) (with-blocks nothing (cond c (from_raising least bs) bs))
      go true is = even-behind bs nothing is (weak-nothing least listed)
      go false is = inl refl

  -- a block that raises and does not stand changes nothing
  skip-block : (b : Block) (a : Given) → (block_raises least b ≡ true → stands p q b ≡ false) → IsWeak least a
      → IsWeak least (with-block a b)
  skip-block b a out weak = go (block_raises least b) refl
    where
      go : (r : Bool) → block_raises least b ≡ r → IsWeak least (with-block a b)
      go false is = weak-block b a is weak
      go true is = subst (λ c. IsWeak least (with_rows a (cond c (block_rows b) []))) (sym (out is)) weak

  even-drop :
      (bs : List Block) (n : ℕ) (a : Given) → list_all (is_settled least) bs ≡ true →
      All (λ b. block_raises least b ≡ true → stands p q b ≡ false) (take n bs) → IsWeak least a →
      AreEven least (with-blocks a bs) (with-blocks nothing (drop n bs))
  even-drop bs zero a all front weak = even-blocks bs a nothing all (inr (weak, weak-nothing least listed))
  even-drop [] (suc n) a all front weak = inr (weak, weak-nothing least listed)
  even-drop (b ∷ bs) (suc n) a all front weak =
      subst (λ x. AreEven least x (with-blocks nothing (drop n bs))) (sym (one-more a b bs))
      (even-drop bs n (with-block a b) (and_parts (is_settled least b) (list_all (is_settled least) bs) all).1
      (λ i d less. front (suc i) d (omega (arith, less))) (skip-block b a (front zero b (omega arith)) weak))

  -- nor do those in front of where the blocks begin that decide for users of other names
  even-cut : (name : Option (List ℕ)) (bs : List Block) (start : ℕ) → IsCut least name bs start → is_called name q.user ≡ false
      → AreEven least (with-blocks nothing bs) (with-blocks nothing (drop start bs))
  even-cut name bs zero cut other = inl refl
  even-cut name bs (suc n) cut other =
      even-drop bs (suc n) nothing (cut.settled (omega arith))
      (All-weaker (IsPassed least name) (λ b. block_raises least b ≡ true → stands p q b ≡ false)
      (λ b passed raises. ap (λ c. c && (is_for p q.host b && runas_allows p q (option_copied b.runas))) (passed raises p q.user other))
      (take (suc n) bs) cut.front)
      (weak-nothing least listed)

-- ---- The better of two

module _ (least : Level) where
  low-better : (a c : Given) → is_at_least least a.level ≡ false → is_at_least least c.level ≡ false
      → is_at_least least (better a c).level ≡ false
  low-better a c first second = go (is_better a c)
    where
      go : (k : Bool) → is_at_least least (cond k c a).level ≡ false
      go true = second
      go false = first

  -- what has the least level is better than what has not
  keeps-first : (a c : Given) → is_at_least least a.level ≡ true → is_at_least least c.level ≡ false → better a c ≡ a
  keeps-first a c high low =
      let most = leb-true (rank least) (rank a.level) high in
      let less = not-at-least least c.level low in
      let none : nat_lt (rank a.level) (rank c.level) ≡ false = le-ltb (rank a.level) (rank c.level) (omega (arith, most, less)) in
      let apart : (rank a.level == rank c.level) ≡ false =
      ne_eqb (rank a.level) (rank c.level) (λ e. omega (arith, most, less, e)) in
      ap (λ k. cond (k || ((rank a.level == rank c.level) && is_easier a c)) c a) none
      ∙ ap (λ k. cond (k && is_easier a c) c a) apart

  takes-second : (a c : Given) → is_at_least least a.level ≡ false → is_at_least least c.level ≡ true → better a c ≡ c
  takes-second a c low high =
      let most = leb-true (rank least) (rank c.level) high in
      let less = not-at-least least a.level low in
      let is : nat_lt (rank a.level) (rank c.level) ≡ true = lt-ltb (rank a.level) (rank c.level) (omega (arith, most, less)) in
      ap (λ k. cond (k || ((rank a.level == rank c.level) && is_easier a c)) c a) is

  level-better : (a a' c c' : Given) → AreLevel least a a' → AreLevel least c c' → AreLevel least (better a c) (better a' c')
  level-better a a' c c' (inl e) (inl f) = inl (ap (λ (x : Given). better x c) e ∙ ap (better a') f)
  level-better a a' c c' (inr low) (inr below) = inr (low-better a c low.0 below.0, low-better a' c' low.1 below.1)
  level-better a a' c c' (inl e) (inr below) = go (is_at_least least a.level) refl
    where
      same : is_at_least least a.level ≡ is_at_least least a'.level
      same = ap (λ (x : Given). is_at_least least x.level) e

      go : (k : Bool) → is_at_least least a.level ≡ k → AreLevel least (better a c) (better a' c')
      go true is = inl (keeps-first a c is below.0 ∙ e ∙ sym (keeps-first a' c' (sym same ∙ is) below.1))
      go false is = inr (low-better a c is below.0, low-better a' c' (sym same ∙ is) below.1)
  level-better a a' c c' (inr low) (inl f) = go (is_at_least least c.level) refl
    where
      same : is_at_least least c.level ≡ is_at_least least c'.level
      same = ap (λ (x : Given). is_at_least least x.level) f

      go : (k : Bool) → is_at_least least c.level ≡ k → AreLevel least (better a c) (better a' c')
      go true is = inl (takes-second a c low.0 is ∙ f ∙ sym (takes-second a' c' low.1 (sym same ∙ is)))
      go false is = inr (low-better a c low.0 is, low-better a' c' low.1 (sym same ∙ is))

-- ---- On the way to another user

-- some blocks that give a user the same as all, or neither has the least level
module _ (p : Policy) (d : KnownRows) (bs ds : List Block) (m : Machine) (least : Level) (tied : AreBlocks p bs)
    (listed : is_at_least level.Listed least ≡ true) (u : Person)
    (even : (t : Option Person) (g : Option Group) → AreEven least (asked_by p d bs u m t g) (asked_by p d ds u m t g)) where
  asked-level : (t : Option Person) (g : Option Group) → AreLevel least (given_asked p d u m t g) (asked_by p d ds u m t g)
  asked-level t g =
      subst (λ a. AreLevel least a (asked_by p d ds u m t g)) (blocks_give p (question_as d u m t g) bs tied)
      (even-level least (asked_by p d bs u m t g) (asked_by p d ds u m t g) (even t g))

  alone-level : (v : Person) (g : Option Group) → AreLevel least (given_alone p d m u v g) (alone_by p d ds m u v g)
  alone-level v g = go (is_same_user v u && is_some g)
    where
      go : (c : Bool) → AreLevel least (cond c (given_asked p d u m None g) nothing)
          (cond c (asked_by p d ds u m None g) nothing)
      go true = asked-level None g
      go false = inl refl

  towards-level : (v : Person) (g : Option Group) → AreLevel least (given_towards p d m u v g) (towards_by p d ds m u v g)
  towards-level v g =
      level-better least (given_asked p d u m (Some v) g) (asked_by p d ds u m (Some v) g)
      (given_alone p d m u v g) (alone_by p d ds m u v g) (asked-level (Some v) g) (alone-level v g)

  decided :
      (v : Person) (g : Option Group) (k : Counted) (l : Level) → is_at_least least l ≡ true →
      is_at_least l (level_for k (given_towards p d m u v g)) ≡ is_at_least l (level_for k (towards_by p d ds m u v g))
  decided v g k l above = go (given_towards p d m u v g) (towards_by p d ds m u v g) (towards-level v g)
    where
      go : (a c : Given) → AreLevel least a c → is_at_least l (level_for k a) ≡ is_at_least l (level_for k c)
      go a c (inl e) = ap (λ (x : Given). is_at_least l (level_for k x)) e
      go a c (inr low) = low-level least a listed low.0 k l above ∙ sym (low-level least c listed low.1 k l above)

called-same : (name : Option (List ℕ)) (u w : Person) → u.name ≡ w.name → is_called name u ≡ is_called name w
called-same None u w same = refl
called-same (Some n) u w same = ap (bytes_eq n) same

-- what is given has a level from the least one on if what the blocks give have it that decide for a user of the name
pub decided-for :
    (p : Policy) (d : KnownRows) (bs : List Block) (m : Machine) (least : Level) → AreBlocks p bs → is_at_least level.Listed least ≡ true →
    (name : Option (List ℕ)) (start : ℕ) → IsCut least name bs start → (w u : Person) → u.name ≡ w.name →
    (v : Person) (g : Option Group) (k : Counted) (l : Level) → is_at_least least l ≡ true →
    is_at_least l (level_for k (given_towards p d m u v g))
    ≡ is_at_least l (level_for k (towards_by p d (deciding_for least name start bs w) m u v g))
decided-for p d bs m least tied listed name start cut w u same v g k l above = go (is_called name w) refl
  where
    go : (c : Bool) → is_called name w ≡ c
        → is_at_least l (level_for k (given_towards p d m u v g))
        ≡ is_at_least l (level_for k (towards_by p d (cond c (deciding least bs) (drop start bs)) m u v g))
    go true is =
        decided p d bs (deciding least bs) m least tied listed u (λ t g. even-deciding p least listed (question_as d u m t g) bs)
        v g k l above
    go false is =
        decided p d bs (drop start bs) m least tied listed u
        (λ t g. even-cut p least listed (question_as d u m t g) name bs start cut (called-same name u w same ∙ is)) v g k l above
