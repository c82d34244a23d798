-- What rows give is at most what they may give at best.
use Rattle.std.proofs.Common.{◌≡◌, ◌∙◌, ◌+◌, ℕ, Bool, true, false, cond, ◌&&◌, ◌||◌}
use Rattle.std.proofs.Common.{List, [], ◌∷◌, ◌++◌, ap, append_assoc, arith, flat_map}
use Rattle.std.proofs.Common.{fold, length, length-append, refl, subst, sym, Option, Some, None, option_copied}
use Rattle.std.specs.Prelude.{is_some, slice_get}
use Rattle.std.specs.List.{slice_index_or}
use Rattle.std.proofs.lemmas.Bool.{and_parts, leb-true}
use Rattle.std.proofs.lemmas.Grind.{fold-append}
use Rattle.sudo_grammar.specs.declared.policy.Policy.{Policy}
use Rattle.sudo_match.specs.declared.people.Group.{Group}
use Rattle.sudo_match.specs.declared.people.Person.{Person}
use Rattle.sudo_verdict.specs.Questions.{Question, question_as}
use Rattle.sudo_verdict.specs.RunasForms.{is_same_user, runas_allows}
use Rattle.review_roots.specs.declared.block.Block.{Block}
use Rattle.review_roots.specs.declared.block.Sign.{Sign}
use Rattle.review_roots.specs.declared.candidate.Candidate.{Candidate}
use Rattle.review_roots.specs.declared.effect.Effect.{Effect}
use Rattle.review_roots.specs.declared.given.Counted.{Counted}
use Rattle.review_roots.specs.declared.given.Counted.TheVariants as counted
use Rattle.review_roots.specs.declared.given.Given.{Given}
use Rattle.review_roots.specs.declared.host.HostSteps.{HostSteps}
use Rattle.review_roots.specs.declared.level.Level.{Level}
use Rattle.review_roots.specs.declared.level.Level.TheVariants as level
use Rattle.review_roots.specs.declared.may.May.{May}
use Rattle.review_roots.specs.Asked.{better, given_alone, given_asked, is_better, nothing}
use Rattle.review_roots.specs.Blocks.{block_rows, is_for, lists, standing_rows, stands, with_row, with_rows}
use Rattle.review_grants.specs.declared.marks.Marks.{Marks}
use Rattle.review_grants.specs.Depends.{is_unmarked}
use Rattle.review_roots.specs.Body.Effects.{free_by, level_behind, level_by, marks_by, unasked_by}
use Rattle.review_roots.specs.Body.Found.{IsCandidate}
use Rattle.review_roots.specs.Body.May.{may_at, may_count, may_reach, may_for, may_if, may_nothing, may_of, may_with, unasked_behind}
use Rattle.review_roots.specs.Body.Raising.{indices, indices_from}
use Rattle.review_roots.specs.Body.Rows.{by_behind}
use Rattle.review_roots.specs.Levels.{after_row, after_signed, lowered, raised}
use Rattle.review_roots.specs.Ranks.{best, is_at_least, rank}
use Rattle.review_roots.specs.States.{given_between, level_for}
use Rattle.review_roots.proofs.EffectLemmas.{block-gives, level-by-effect}
use Rattle.review_roots.proofs.GivenLemmas.{blocks_give}
use Rattle.review_roots.proofs.IndexLemmas.{answer-at, item-behind}
use Rattle.review_roots.proofs.SearchLemmas.{at-least-below, at-least-itself, at-least-trans}
use Rattle.review_roots.proofs.WeakLemmas.{below-not, not-at-least}

-- ---- A better level stays one behind a row

lowered-more : (l m : Level) → is_at_least l m ≡ true → is_at_least (lowered l) (lowered m) ≡ true
lowered-more level.None m e = at-least-below level.None (lowered m) (omega arith)
lowered-more level.Listed level.None e = e
lowered-more level.Listed level.Listed e = refl
lowered-more level.Listed level.AllBut e = refl
lowered-more level.Listed level.All e = refl
lowered-more level.AllBut level.None e = e
lowered-more level.AllBut level.Listed e = e
lowered-more level.AllBut level.AllBut e = refl
lowered-more level.AllBut level.All e = refl
lowered-more level.All level.None e = cc
lowered-more level.All level.Listed e = cc
lowered-more level.All level.AllBut e = refl
lowered-more level.All level.All e = refl

raised-more : (l m : Level) → is_at_least l m ≡ true → is_at_least (raised l) (raised m) ≡ true
raised-more level.None level.None e = refl
raised-more level.None level.Listed e = refl
raised-more level.None level.AllBut e = refl
raised-more level.None level.All e = refl
raised-more level.Listed level.None e = refl
raised-more level.Listed level.Listed e = refl
raised-more level.Listed level.AllBut e = refl
raised-more level.Listed level.All e = refl
raised-more level.AllBut level.None e = cc
raised-more level.AllBut level.Listed e = e
raised-more level.AllBut level.AllBut e = refl
raised-more level.AllBut level.All e = refl
raised-more level.All level.None e = cc
raised-more level.All level.Listed e = e
raised-more level.All level.AllBut e = e
raised-more level.All level.All e = refl

after-more : (l m : Level) (n a : Bool) → is_at_least l m ≡ true → is_at_least (after_signed l n a) (after_signed m n a) ≡ true
after-more l m true true e = refl
after-more l m true false e = lowered-more l m e
after-more l m false true e = refl
after-more l m false false e = raised-more l m e

best-left : (l m : Level) → is_at_least l (best l m) ≡ true
best-left l m = go (is_at_least l m) refl
  where
    go : (c : Bool) → is_at_least l m ≡ c → is_at_least l (cond c m l) ≡ true
    go true e = e
    go false e = at-least-itself l

best-right : (l m : Level) → is_at_least m (best l m) ≡ true
best-right l m = go (is_at_least l m) refl
  where
    go : (c : Bool) → is_at_least l m ≡ c → is_at_least m (cond c m l) ≡ true
    go true e = at-least-itself m
    go false e = let less = not-at-least l m e in at-least-below m l (omega (arith, less))

-- what both are at most is the better of them at most
best-least : (l k m : Level) → is_at_least l m ≡ true → is_at_least k m ≡ true → is_at_least (best l k) m ≡ true
best-least l k m first second = go (is_at_least l k)
  where
    go : (c : Bool) → is_at_least (cond c k l) m ≡ true
    go true = second
    go false = first

row-more : (marks : Marks) (l m : Level) (n a : Bool) → is_at_least l m ≡ true
    → is_at_least (after_row marks l n a) (after_row marks m n a) ≡ true
row-more marks l m n a e = go (is_unmarked marks)
  where
    after : is_at_least (after_signed l n a) (after_signed m n a) ≡ true
    after = after-more l m n a e

    go : (k : Bool) → is_at_least (cond k (after_signed l n a) (best l (after_signed l n a)))
        (cond k (after_signed m n a) (best m (after_signed m n a))) ≡ true
    go true = after
    go false = best-least l (after_signed l n a) (best m (after_signed m n a))
        (at-least-trans l m (best m (after_signed m n a)) e (best-left m (after_signed m n a)))
        (at-least-trans (after_signed l n a) (after_signed m n a) (best m (after_signed m n a)) after (best-right m (after_signed m n a)))

signs-more : (marks : Marks) (ss : List Sign) (l m : Level) → is_at_least l m ≡ true
    → is_at_least (level_behind marks l ss) (level_behind marks m ss) ≡ true
signs-more marks [] l m e = e
signs-more marks (s ∷ ss) l m e =
    signs-more marks ss (after_row marks l s.negated s.all) (after_row marks m s.negated s.all) (row-more marks l m s.negated s.all e)

level-more : (b : Block) (l m : Level) → is_at_least l m ≡ true → is_at_least (level_by b.effect l) (level_by b.effect m) ≡ true
level-more b l m e =
    ap (λ x. is_at_least x (level_by b.effect m)) (at l) ∙ ap (is_at_least (level_behind b.marks l b.signs.items)) (at m)
    ∙ signs-more b.marks b.signs.items l m e
  where
    at : (l : Level) → level_by b.effect l ≡ level_behind b.marks l b.signs.items
    at l = ap (λ e. level_by e l) b.effective ∙ level-by-effect b.marks b.tags b.signs.items l

-- ---- What is given is at most what may be given

pub record IsWithin (a : Given) (m : May) : Type 0 where
  pub level : is_at_least a.level m.level ≡ true
  pub unasked : a.unasked ≡ true → is_at_least a.level m.unasked ≡ true
  pub free : a.free ≡ true → m.free ≡ true

pub nothing-within : (m : May) → IsWithin nothing m
nothing-within m = record {
  level = at-least-below level.None m.level (omega arith);
  unasked = λ e. at-least-below level.None m.unasked (omega arith);
  free = λ e. absurd (let bad : false ≡ true = e in cc);
}

pub better-within : (a b : Given) (m : May) → IsWithin a m → IsWithin b m → IsWithin (better a b) m
better-within a b m first second = go (is_better a b)
  where
    go : (c : Bool) → IsWithin (cond c b a) m
    go true = second
    go false = first

free-within : (e : Effect) (f g : Bool) → (f ≡ true → g ≡ true) → free_by e f ≡ true → (g || free_by e g) ≡ true
free-within e f true h is = refl
free-within e true false h is = absurd (let bad : false ≡ true = h refl in cc)
free-within e false false h is = is

or-more : (a b : Bool) → a ≡ true → (a || b) ≡ true
or-more a b e = ap (λ c. c || b) e

module _ (b : Block) (a : Given) (m : May) (within : IsWithin a m) where
  abbrev e : Effect
  e = b.effect

  unasked-behind : unasked_by e a.unasked ≡ true → is_at_least (level_by e a.level) (unasked_behind m e) ≡ true
  unasked-behind is = go (unasked_by e false) refl
    where
      kept : (o : Bool) → a.unasked ≡ o → unasked_by e false ≡ false → unasked_by e true ≡ true
      kept true is_a lacks = sym (ap (unasked_by e) is_a) ∙ is
      kept false is_a lacks = absurd (let bad : true ≡ false = sym is ∙ ap (unasked_by e) is_a ∙ lacks in cc)

      was : (o : Bool) → a.unasked ≡ o → unasked_by e false ≡ false → a.unasked ≡ true
      was true is_a lacks = is_a
      was false is_a lacks = absurd (let bad : true ≡ false = sym is ∙ ap (unasked_by e) is_a ∙ lacks in cc)

      go :
          (c : Bool) → unasked_by e false ≡ c → is_at_least (level_by e a.level)
          (cond c (level_by e m.level) (cond (unasked_by e true) (level_by e m.unasked) level.None)) ≡ true
      go true new = level-more b a.level m.level within.level
      go false old =
          ap (λ c. is_at_least (level_by e a.level) (cond c (level_by e m.unasked) level.None)) (kept a.unasked refl old)
          ∙ level-more b a.level m.unasked (within.unasked (was a.unasked refl old))

  with-standing : IsWithin (with_rows a (block_rows b)) (may_with m b)
  with-standing =
      subst (λ x. IsWithin x (may_with m b))
      (block-gives b a (level_by e a.level) (free_by e a.free) (unasked_by e a.unasked) (by_behind b a.by)
      (marks_by e a.marks) refl refl refl refl refl) (record {
        level = at-least-trans (level_by e a.level) (level_by e m.level) (best m.level (level_by e m.level))
            (level-more b a.level m.level within.level) (best-right m.level (level_by e m.level));
        unasked = λ is. at-least-trans (level_by e a.level) (unasked_behind m e) (best m.unasked (unasked_behind m e))
            (unasked-behind is) (best-right m.unasked (unasked_behind m e));
        free = free-within e a.free m.free within.free;
      })

  without : IsWithin a (may_with m b)
  without = record {
    level = at-least-trans a.level m.level (best m.level (level_by e m.level)) within.level (best-left m.level (level_by e m.level));
    unasked = λ is. at-least-trans a.level m.unasked (best m.unasked (unasked_behind m e)) (within.unasked is)
        (best-left m.unasked (unasked_behind m e));
    free = λ is. or-more m.free (free_by e m.free) (within.free is);
  }

-- ---- All blocks

abbrev pub may_all : (Block → Bool) → May → List Block → May
may_all t m bs = fold (λ m b. may_if (t b) m b) m bs

-- where each block that stands passes the test, what all give is at most what those may give that pass it
pub blocks-within :
    (p : Policy) (q : Question) (t : Block → Bool) → ((b : Block) → stands p q b ≡ true → t b ≡ true) →
    (bs : List Block) (a : Given) (m : May) → IsWithin a m → IsWithin (with_rows a (flat_map (standing_rows p q) bs)) (may_all t m bs)
blocks-within p q t pass [] a m within = within
blocks-within p q t pass (b ∷ bs) a m within =
    subst (λ x. IsWithin x (may_all t (may_if (t b) m b) bs))
    (sym (fold-append with_row a (standing_rows p q b) (flat_map (standing_rows p q) bs)))
    (blocks-within p q t pass bs (with_rows a (standing_rows p q b)) (may_if (t b) m b) (go (stands p q b) refl (t b) refl))
  where
    go : (s : Bool) → stands p q b ≡ s → (c : Bool) → t b ≡ c → IsWithin (with_rows a (cond s (block_rows b) [])) (cond c (may_with m b) m)
    go true is true e = with-standing b a m within
    go true is false e = absurd (let bad : true ≡ false = sym (pass b is) ∙ e in cc)
    go false is true e = without b a m within
    go false is false e = within

-- ---- The same by indices

may-from :
    (on : List Bool) (l T : Block → Bool) (all : List Block) →
    ((i : ℕ) (b : Block) → slice_get all i ≡ Some b → slice_index_or on i false ≡ T b) →
    (bs before : List Block) (k : ℕ) → all ≡ before ++ bs → k ≡ length before → (m : May) →
    fold (may_at on all) m (indices_from l k bs) ≡ may_all (λ b. l b && T b) m bs
may-from on l T all same [] before k is at m = refl
may-from on l T all same (b ∷ bs) before k is at m = go (l b) (may-from on l T all same bs (before ++ b ∷ []) (k + 1)
    (is ∙ sym (append_assoc before (b ∷ []) bs))
    (let n : length (before ++ b ∷ []) ≡ length before + 1 = length-append before (b ∷ []) in omega (arith, n, at)))
  where
    there : slice_get all k ≡ Some b
    there = ap (slice_get all) at ∙ ap (λ (xs : List Block). slice_get xs (length before)) is ∙ item-behind before b bs

    here : may_at on all m k ≡ may_if (T b) m b
    here = ap (may_of (slice_index_or on k false) m) there ∙ ap (λ c. may_if c m b) (same k b there)

    go :
        (c : Bool) → ((m : May) → fold (may_at on all) m (indices_from l (k + 1) bs) ≡ may_all (λ b. l b && T b) m bs) →
        fold (may_at on all) m (cond c (k ∷ indices_from l (k + 1) bs) (indices_from l (k + 1) bs))
        ≡ may_all (λ b. l b && T b) (may_if (c && T b) m b) bs
    go true rest =
        rest (may_at on all m k) ∙ ap (λ m. may_all (λ b. l b && T b) m bs) here
    go false rest = rest m

pub may-are :
    (on : List Bool) (l T : Block → Bool) (bs : List Block) →
    ((i : ℕ) (b : Block) → slice_get bs i ≡ Some b → slice_index_or on i false ≡ T b) →
    fold (may_at on bs) may_nothing (indices l bs) ≡ may_all (λ b. l b && T b) may_nothing bs
may-are on l T bs same = may-from on l T bs same bs [] 0 refl refl may_nothing

-- ---- A step that counts

pub level-within : (k : Counted) (a : Given) (m : May) → IsWithin a m → is_at_least (level_for k a) (may_for k m) ≡ true
level-within counted.Any a m within = within.level
level-within counted.Unasked a m within = go a.unasked refl
  where
    go : (b : Bool) → a.unasked ≡ b → is_at_least (cond b a.level level.None) m.unasked ≡ true
    go true e = within.unasked e
    go false e = at-least-below level.None m.unasked (omega arith)
level-within counted.Free a m within = go a.free refl
  where
    go : (b : Bool) → a.free ≡ b → is_at_least (cond b a.level level.None) (cond m.free m.level level.None) ≡ true
    go true e = ap (λ c. is_at_least a.level (cond c m.level level.None)) (within.free e) ∙ within.level
    go false e = at-least-below level.None (cond m.free m.level level.None) (omega arith)

-- ---- A candidate of which no step that counts may have the least level

module _ (h : HostSteps) (c : Candidate) (is : IsCandidate h c) where
  abbrev most : May
  most = fold (may_at h.on.items h.blocks.now) may_nothing c.listed.items

  abbrev passes : Block → Bool
  passes b = lists h.checked.now c.person b && is_for h.checked.now h.host.now b

  most-are : most ≡ may_all passes may_nothing h.blocks.now
  most-are =
      ap (fold (may_at h.on.items h.blocks.now) may_nothing) is.listed
      ∙ may-are h.on.items (lists h.checked.now c.person) (is_for h.checked.now h.host.now) h.blocks.now
      (λ i b at. ap (λ xs. slice_index_or xs i false) h.here ∙ answer-at (is_for h.checked.now h.host.now) h.blocks.now i b at)

  standing-passes : (q : Question) (b : Block) → q.user ≡ c.person → q.host ≡ h.host.now → stands h.checked.now q b ≡ true
      → passes b ≡ true
  standing-passes q b who where_at stand =
      let both = and_parts (lists h.checked.now q.user b)
      (is_for h.checked.now q.host b && runas_allows h.checked.now q (option_copied b.runas)) stand in
      let also = and_parts (is_for h.checked.now q.host b) (runas_allows h.checked.now q (option_copied b.runas)) both.1 in
      ap (λ u. lists h.checked.now u b && is_for h.checked.now h.host.now b) (sym who)
      ∙ ap (λ a. a && is_for h.checked.now h.host.now b) both.0
      ∙ ap (λ m. is_for h.checked.now m b) (sym where_at) ∙ also.0

  asked-within : (t : Option Person) (g : Option Group)
      → IsWithin (given_asked h.checked.now h.directory.now c.person h.host.now t g) most
  asked-within t g =
      subst (IsWithin (given_asked h.checked.now h.directory.now c.person h.host.now t g)) (sym most-are)
      (subst (λ a. IsWithin a (may_all passes may_nothing h.blocks.now))
      (blocks_give h.checked.now (question_as h.directory.now c.person h.host.now t g) h.blocks.now h.tied)
      (blocks-within h.checked.now (question_as h.directory.now c.person h.host.now t g) passes
      (λ b stand. standing-passes (question_as h.directory.now c.person h.host.now t g) b refl refl stand)
      h.blocks.now nothing may_nothing (nothing-within may_nothing)))

  alone-within : (v : Person) (g : Option Group) → IsWithin (given_alone h.checked.now h.directory.now h.host.now c.person v g) most
  alone-within v g = go (is_same_user v c.person && is_some g)
    where
      go : (b : Bool)
          → IsWithin (cond b (given_asked h.checked.now h.directory.now c.person h.host.now None g) nothing) most
      go true = asked-within None g
      go false = nothing-within most

  between-within : (v : Option Person) (g : Option Group)
      → IsWithin (given_between h.checked.now h.directory.now h.host.now (Some c.person) v g) most
  between-within None g = nothing-within most
  between-within (Some v) g =
      better-within (given_asked h.checked.now h.directory.now c.person h.host.now (Some v) g)
      (given_alone h.checked.now h.directory.now h.host.now c.person v g) most (asked-within (Some v) g) (alone-within v g)

  unreached :
      (k : Counted) (l : Level) → may_reach h.on.items h.blocks.now h.least k c.listed.items ≡ false →
      is_at_least h.least l ≡ true → (v : Option Person) (g : Option Group) →
      is_at_least l (level_for k (given_between h.checked.now h.directory.now h.host.now (Some c.person) v g)) ≡ false
  unreached k l none above v g =
      let a = given_between h.checked.now h.directory.now h.host.now (Some c.person) v g in
      let less = not-at-least h.least (may_for k most) none in
      let up = leb-true (rank h.least) (rank l) above in
      let below = leb-true (rank (level_for k a)) (rank (may_for k most)) (level-within k a most (between-within v g)) in
      below-not l (level_for k a) (omega (arith, less, up, below))

  pub uncounted :
      (k : Counted) (l : Level) → may_count h.on.items h.blocks.now h.least k c.listed.items ≡ false →
      is_at_least h.least l ≡ true → (v : Option Person) (g : Option Group) →
      is_at_least l (level_for k (given_between h.checked.now h.directory.now h.host.now (Some c.person) v g)) ≡ false
  uncounted counted.Any l none above v g = cc
  uncounted counted.Unasked l none above v g = unreached counted.Unasked l none above v g
  uncounted counted.Free l none above v g = unreached counted.Free l none above v g
