-- What is noted of the aims of a layer; and which of them a candidate does not reach, by that.
use Rattle.std.proofs.Common.{◌≡◌, ◌≢◌, ◌<◌, ◌≤◌, ◌+◌, ◌∙◌, ◌⊎◌, ◌==◌, ◌&&◌, ◌||◌, ℕ, zero, suc, Bool, true, false, cond, List, [], ◌∷◌}
use Rattle.std.proofs.Common.{ap, arith, drop, get_or, inl, inr, length, map, refl, subst, sym, take, Option, Some, None}
use Rattle.std.specs.Prelude.{All, fold, nat_lt, set, slice_get}
use Rattle.std.specs.List.{Contains, slice_index_or}
use Rattle.std.proofs.lemmas.Bool.Decides.{nat_tests}
use Rattle.std.proofs.lemmas.List.{drop_all}
use Rattle.std.proofs.lemmas.List.Elements.{All-contains, All-head, All-tail}
use Rattle.std.proofs.lemmas.List.Folds.{list_any_none}
use Rattle.std.proofs.lemmas.Option.{slice_get_within}
use Rattle.sudo_policy.proofs.StateLemmas.{get_set_cases, get_set_same}
use Rattle.review_roots.specs.declared.candidate.Candidate.{Candidate}
use Rattle.review_roots.specs.declared.firsts.Firsts.{Firsts}
use Rattle.review_roots.specs.declared.host.HostSteps.{HostSteps}
use Rattle.review_roots.specs.declared.layer.Aimed.{Aimed}
use Rattle.review_roots.specs.declared.level.Level.{Level}
use Rattle.review_roots.specs.declared.search.Aim.{Aim}
use Rattle.review_roots.specs.declared.search.Found.{Found}
use Rattle.review_roots.specs.declared.search.Sought.{Sought}
use Rattle.review_roots.specs.declared.state.State.{State}
use Rattle.review_roots.specs.declared.toward.Toward.{Toward}
use Rattle.review_roots.specs.Blocks.{lists}
use Rattle.review_roots.specs.Body.Candidates.{both_at}
use Rattle.review_roots.specs.Body.Firsts.{AreNoted, IsBounded, IsNoted, StandInOrder, free_if, is_free, with_blocks, with_noted, with_user}
use Rattle.review_roots.specs.Body.Found.{IsAimed, IsCandidate, aims_at, any_toward, first_of, found_by, reaches}
use Rattle.review_roots.specs.Body.Raising.{block_raises, indices, passes_at}
use Rattle.review_roots.specs.Ranks.{is_at_least}
use Rattle.review_roots.specs.States.{level_for, step_given}
use Rattle.review_roots.proofs.IndexLemmas.{indices-filtered}
use Rattle.review_roots.proofs.LayerLemmas.{aims-are, map-at}
use Rattle.review_roots.proofs.LikeLemmas.{barred}
use Rattle.review_roots.proofs.ListSteps.{drop-next}
use Rattle.review_roots.proofs.MemberLemmas.{all-of}
use Rattle.review_grants.proofs.ItemLemmas.{from-filter, neither}
use Rattle.review_roots.proofs.SearchLemmas.{at-contains, contains-at, in-filter}

-- ---- One index

less-of : (a b : ℕ) → nat_lt a b ≡ true → a < b
less-of a b e = grind (arith, nat_tests)

most-of : (a b : ℕ) → nat_lt a b ≡ false → b ≤ a
most-of a b e = grind (arith, nat_tests)

-- what is not free is in the layer, and not behind the index
taken : (o : Option ℕ) (start index first : ℕ) → free_if o start index ≡ false → o ≡ Some first → (start ≤ first) × (first ≤ index)
taken None start index first free at = cc
taken (Some f) start index first free at =
    let same : f ≡ first = cc in
    let k = neither (nat_lt f start) (nat_lt index f) free in
    let from = most-of f start k.0 in
    let most = most-of index f k.1 in
    (omega (arith, from, same), omega (arith, most, same))

-- what is free is not
free-there : (o : Option ℕ) (start index first : ℕ) → free_if o start index ≡ true → o ≡ Some first → start ≤ first → first ≤ index
    → false ≡ true
free-there None start index first free at from most = cc
free-there (Some f) start index first free at from most = go (nat_lt f start) refl (nat_lt index f) refl free
  where
    same : f ≡ first
    same = cc

    go : (a : Bool) → nat_lt f start ≡ a → (b : Bool) → nat_lt index f ≡ b → (a || b) ≡ true → false ≡ true
    go true is b also any = let less = less-of f start is in absurd (omega (arith, less, from, same))
    go false is true also any = let less = less-of index f also in absurd (omega (arith, less, most, same))
    go false is false also any = any

module _ (start index : ℕ) (firsts : List ℕ) (key : ℕ) where
  pub noted-itself : start ≤ index → IsNoted (with_noted start index firsts key) start index key
  noted-itself from first at = go (nat_lt key (length firsts)) refl (is_free firsts start index key) refl at
    where
      go : (a : Bool) → nat_lt key (length firsts) ≡ a → (b : Bool) → is_free firsts start index key ≡ b →
          slice_get (cond (a && b) (set firsts key index) firsts) key ≡ Some first → (start ≤ first) × (first ≤ index)
      go true is true free at =
          let same : Some index ≡ Some first = sym (get_set_same firsts key index (less-of key (length firsts) is)) ∙ at in
          let one : index ≡ first = cc in
          (omega (arith, from, one), omega (arith, one))
      go true is false free at = taken (slice_get firsts key) start index first free at
      go false is b free at =
          let within = slice_get_within firsts key first at in
          let past = most-of key (length firsts) is in
          absurd (omega (arith, within, past))

  pub noted-still : (i k : ℕ) → i ≤ index → IsNoted firsts start i k → IsNoted (with_noted start index firsts key) start i k
  noted-still i k most noted first at = go (nat_lt key (length firsts)) refl (is_free firsts start index key) refl at
    where
      go : (a : Bool) → nat_lt key (length firsts) ≡ a → (b : Bool) → is_free firsts start index key ≡ b →
          slice_get (cond (a && b) (set firsts key index) firsts) k ≡ Some first → (start ≤ first) × (first ≤ i)
      go true is true free at = by (get_set_cases firsts key k index first (less-of key (length firsts) is) at)
        where
          there : (o : Option ℕ) → slice_get firsts key ≡ o → k ≡ key → (start ≤ first) × (first ≤ i)
          there None none same =
              absurd (let bad : false ≡ true = sym (ap (λ o. free_if o start index) none) ∙ free in cc)
          there (Some old) some same =
              let is_in = noted old (ap (slice_get firsts) same ∙ some) in
              let early : old ≤ index = (let l = is_in.1 in omega (arith, l, most)) in
              absurd (let bad = free-there (slice_get firsts key) start index old free some is_in.0 early in cc)

          by : ((k ≡ key) × (first ≡ index)) ⊎ ((k ≢ key) × (slice_get firsts k ≡ Some first)) → (start ≤ first) × (first ≤ i)
          by (inl same) = there (slice_get firsts key) refl same.0
          by (inr other) = noted first other.1
      go true is false free at = noted first at
      go false is b free at = noted first at

-- ---- An index at several keys

pub all-still : (start index : ℕ) (keys firsts : List ℕ) (i k : ℕ) → i ≤ index → IsNoted firsts start i k
    → IsNoted (fold (with_noted start index) firsts keys) start i k
all-still start index [] firsts i k most noted = noted
all-still start index (key ∷ keys) firsts i k most noted =
    all-still start index keys (with_noted start index firsts key) i k most (noted-still start index firsts key i k most noted)

all-at : (start index : ℕ) (keys firsts : List ℕ) (n k : ℕ) → start ≤ index → slice_get keys n ≡ Some k
    → IsNoted (fold (with_noted start index) firsts keys) start index k
all-at start index [] firsts n k from at = cc
all-at start index (key ∷ keys) firsts zero k from at =
    let same : key ≡ k = cc in
    all-still start index keys (with_noted start index firsts key) index k (omega arith)
    (subst (IsNoted (with_noted start index firsts key) start index) same (noted-itself start index firsts key from))
all-at start index (key ∷ keys) firsts (suc n) k from at = all-at start index keys (with_noted start index firsts key) n k from at

pub all-noted : (start index : ℕ) (keys firsts : List ℕ) (k : ℕ) → start ≤ index → Contains keys k
    → IsNoted (fold (with_noted start index) firsts keys) start index k
all-noted start index keys firsts k from inside = let r = contains-at keys k inside in all-at start index keys firsts r.0 k from r.1

-- ---- The aims of a layer

-- the aims behind the first one are those from the next index on
behind : (s : ℕ) (b : Aimed) (aims : List Aimed) → StandInOrder s (b ∷ aims) → StandInOrder (s + 1) aims
behind s b aims order k a at = order (suc k) a at ∙ (let e : s + suc k ≡ (s + 1) + k = omega arith in e)

module _ (start : ℕ) (w : List ℕ → Aimed → List ℕ) (Key : Aimed → ℕ → Type 0)
    (notes : (firsts : List ℕ) (b : Aimed) (k : ℕ) → start ≤ b.aim.index → Key b k → IsNoted (w firsts b) start b.aim.index k)
    (keeps : (firsts : List ℕ) (b : Aimed) (i k : ℕ) → i ≤ b.aim.index → IsNoted firsts start i k → IsNoted (w firsts b) start i k) where
  rest-still : (aims : List Aimed) (firsts : List ℕ) (s i k : ℕ) → i ≤ s → StandInOrder s aims → IsNoted firsts start i k
      → IsNoted (fold w firsts aims) start i k
  rest-still [] firsts s i k most order noted = noted
  rest-still (b ∷ aims) firsts s i k most order noted =
      let is = order zero b refl in
      rest-still aims (w firsts b) (s + 1) i k (omega (arith, most)) (behind s b aims order)
      (keeps firsts b i k (omega (arith, most, is)) noted)

  each-noted : (aims : List Aimed) (firsts : List ℕ) (s : ℕ) → start ≤ s → StandInOrder s aims → (n : ℕ) (a : Aimed)
      → slice_get aims n ≡ Some a → (k : ℕ) → Key a k → IsNoted (fold w firsts aims) start a.aim.index k
  each-noted [] firsts s from order n a at k key = cc
  each-noted (b ∷ aims) firsts s from order zero a at k key =
      let same : b ≡ a = cc in
      subst (λ (x : Aimed). Key x k → IsNoted (fold w (w firsts b) aims) start x.aim.index k) same
      (λ key.
      let is = order zero b refl in
      rest-still aims (w firsts b) (s + 1) b.aim.index k (omega (arith, is)) (behind s b aims order)
      (notes firsts b k (omega (arith, from, is)) key))
      key
  each-noted (b ∷ aims) firsts s from order (suc n) a at k key =
      each-noted aims (w firsts b) (s + 1) (omega (arith, from)) (behind s b aims order) n a at k key

pub aims-noted :
    (start : ℕ) (users blocks : List ℕ) (firsts : Firsts) (aims : List Aimed) →
    firsts.users.items ≡ fold (with_user start) users aims → firsts.blocks.items ≡ fold (with_blocks start) blocks aims →
    StandInOrder start aims → All (AreNoted firsts start) aims
aims-noted start users blocks firsts aims by_user by_block order = all-of (AreNoted firsts start) aims each
  where
    each : (a : Aimed) → Contains aims a → AreNoted firsts start a
    each a inside = at (contains-at aims a inside)
      where
        at : (n : ℕ) × (slice_get aims n ≡ Some a) → AreNoted firsts start a
        at (n, there) = record {
          user = subst (λ (xs : List ℕ). IsNoted xs start a.aim.index a.aim.state.user) (sym by_user)
              (each-noted start (with_user start) (λ b k. b.aim.state.user ≡ k)
              (λ fs b k from is. subst (IsNoted (with_user start fs b) start b.aim.index) is
              (noted-itself start b.aim.index fs b.aim.state.user from))
              (λ fs b i k. noted-still start b.aim.index fs b.aim.state.user i k)
              aims users start (omega arith) order n a there a.aim.state.user refl);
          blocks = λ k inside. subst (λ (xs : List ℕ). IsNoted xs start a.aim.index k) (sym by_block)
              (each-noted start (with_blocks start) (λ b k. Contains (any_toward b.toward).strong.items k)
              (λ fs b k from has. all-noted start b.aim.index (any_toward b.toward).strong.items fs k from has)
              (λ fs b i k. all-still start b.aim.index (any_toward b.toward).strong.items fs i k)
              aims blocks start (omega arith) order n a there k inside);
        }

-- the aims of found states stand in their order
pub in-order : (q : Sought) (l : Level) (n : ℕ) (found : List Found) (aims : List Aimed)
    → map (λ (a : Aimed). a.aim) aims ≡ aims_at q l n found → StandInOrder n aims
in-order q l n found aims are k a at =
    let there = ap (λ (xs : List Aim). slice_get xs k) (sym are) ∙ map-at (λ (a : Aimed). a.aim) aims k a at in
    let r = aims-are q l n (drop n found) k a.aim there in
    ap (λ (x : Aim). x.index) r.1.1

-- ---- Aims that a candidate does not reach

-- an item of the first ones
from-take : (n : ℕ) (xs : List Aimed) (k : ℕ) (x : Aimed) → slice_get (take n xs) k ≡ Some x → (k < n) × (slice_get xs k ≡ Some x)
from-take zero xs k x at = cc
from-take (suc n) [] k x at = cc
from-take (suc n) (y ∷ xs) zero x at = (omega arith, at)
from-take (suc n) (y ∷ xs) (suc k) x at = let r = from-take n xs k x at in let less = r.0 in (omega (arith, less), r.1)

module _ (h : HostSteps) (c : Candidate) (is : IsCandidate h c) (firsts : Firsts) (start first : ℕ)
    (user : (i : ℕ) → IsNoted firsts.users.items start i c.state.user → first ≤ i)
    (blocks : All (IsBounded h.on.items firsts.blocks.items start first) c.strong.items) where
  -- a block that raises and lists the candidate is one of those that raise
  raises-too : (k : ℕ) → Contains c.strong.items k → Contains (indices (block_raises h.least) h.blocks.now) k
  raises-too k inside =
      (from-filter (passes_at (lists h.checked.now c.person) h.blocks.now) (indices (block_raises h.least) h.blocks.now) k
      (subst (λ (xs : List ℕ). Contains xs k)
      (is.strong ∙ sym (indices-filtered (block_raises h.least) (lists h.checked.now c.person) h.blocks.now)) inside)).0

  unreached : (a : Aimed) → IsAimed h a → AreNoted firsts start a → a.aim.index < first → reaches h a.aim c ≡ false
  unreached a aimed noted before = go (c.state.user == a.aim.state.user) refl
    where
      t : Toward
      t = any_toward a.toward

      allowed-there : (k : ℕ) → Contains c.strong.items k → slice_index_or t.allowed.items k false ≡ true → Contains t.strong.items k
      allowed-there k inside allows =
          subst (λ (xs : List ℕ). Contains xs k) (sym aimed.strong)
          (in-filter (λ i. slice_index_or t.allowed.items i false) (indices (block_raises h.least) h.blocks.now) k (raises-too k inside)
          allows)

      apart-at : (k : ℕ) → Contains c.strong.items k → both_at h.on.items t.allowed.items k ≡ false
      apart-at k inside = by (slice_index_or h.on.items k false) refl (slice_index_or t.allowed.items k false) refl
        where
          by : (a1 : Bool) → slice_index_or h.on.items k false ≡ a1 → (a2 : Bool) → slice_index_or t.allowed.items k false ≡ a2
              → (a1 && a2) ≡ false
          by true on true allows =
              let most = All-contains (IsBounded h.on.items firsts.blocks.items start first) c.strong.items k blocks inside on a.aim.index
              (noted.blocks k (allowed-there k inside allows)) in
              absurd (omega (arith, most, before))
          by true on false allows = refl
          by false on b allows = refl

      go : (b : Bool) → (c.state.user == a.aim.state.user) ≡ b → reaches h a.aim c ≡ false
      go true same =
          let one : c.state.user ≡ a.aim.state.user = grind (arith, nat_tests) in
          let most = user a.aim.index (subst (IsNoted firsts.users.items start a.aim.index) (sym one) noted.user) in
          absurd (omega (arith, most, before))
      go false apart =
          ap (λ (s : State). is_at_least a.aim.level (level_for a.aim.counted
          (step_given h.checked.now h.directory.now h.host.now h.groups.now c.state s))) (sym aimed.toward.0)
          ∙ barred h c is t aimed.toward.1 (ap (λ (s : State). c.state.user == s.user) aimed.toward.0 ∙ apart)
          (list_any_none (both_at h.on.items t.allowed.items) c.strong.items
          (all-of (λ k. both_at h.on.items t.allowed.items k ≡ false) c.strong.items apart-at))
          a.aim.counted a.aim.level aimed.level

  pub far-before : (aims : List Aimed) → All (IsAimed h) aims → All (AreNoted firsts start) aims → StandInOrder start aims
      → (n : ℕ) → (n ≡ 0) ⊎ (start + n ≤ first) → All (λ a. reaches h a.aim c ≡ false) (take n aims)
  far-before aims aimed noted order n most = all-of (λ a. reaches h a.aim c ≡ false) (take n aims) each
    where
      each : (a : Aimed) → Contains (take n aims) a → reaches h a.aim c ≡ false
      each a inside = at (contains-at (take n aims) a inside)
        where
          at : (k : ℕ) × (slice_get (take n aims) k ≡ Some a) → reaches h a.aim c ≡ false
          at (k, there) =
              let r = from-take n aims k a there in
              let less = r.0 in
              let index = order k a r.1 in
              unreached a (All-contains (IsAimed h) aims a aimed (at-contains aims a k r.1))
              (All-contains (AreNoted firsts start) aims a noted (at-contains aims a k r.1))
              (near most less index)
            where
              near : (n ≡ 0) ⊎ (start + n ≤ first) → k < n → a.aim.index ≡ start + k → a.aim.index < first
              near (inl none) less index = absurd (omega (arith, none, less))
              near (inr most) less index = omega (arith, most, less, index)

-- where the first aims are not reached, the first one that is reached is among the others
pub first-dropped : (h : HostSteps) (c : Candidate) (n : ℕ) (aims : List Aimed) → All (λ a. reaches h a.aim c ≡ false) (take n aims)
    → first_of h (map (λ (a : Aimed). a.aim) aims) c ≡ first_of h (map (λ (a : Aimed). a.aim) (drop n aims)) c
first-dropped h c zero aims far = refl
first-dropped h c (suc n) [] far = refl
first-dropped h c (suc n) (a ∷ aims) far =
    ap (λ r. cond r (Some (found_by h a.aim c)) (first_of h (map (λ (b : Aimed). b.aim) aims) c))
    (All-head (λ (b : Aimed). reaches h b.aim c ≡ false) a (take n aims) far)
    ∙ first-dropped h c n aims (All-tail (λ (b : Aimed). reaches h b.aim c ≡ false) a (take n aims) far)

pub one-reached :
    (h : HostSteps) (c : Candidate) (aims : List Aimed) (k : ℕ) (a : Aimed) → k < length aims → a ≡ get_or aims k a →
    All (λ a. reaches h a.aim c ≡ false) (take k aims) → reaches h a.aim c ≡ true →
    Some (found_by h a.aim c) ≡ first_of h (map (λ (a : Aimed). a.aim) aims) c
one-reached h c aims k a inside this far reached =
    sym (first-dropped h c k aims far
    ∙ ap (λ (xs : List Aimed). first_of h (map (λ (b : Aimed). b.aim) xs) c)
    (drop-next aims k a inside ∙ ap (λ (b : Aimed). b ∷ drop (k + 1) aims) (sym this))
    ∙ ap (λ r. cond r (Some (found_by h a.aim c)) (first_of h (map (λ (b : Aimed). b.aim) (drop (k + 1) aims)) c)) reached)

pub none-reached :
    (h : HostSteps) (c : Candidate) (aims : List Aimed) (k : ℕ) → length aims ≤ k → All (λ a. reaches h a.aim c ≡ false) (take k aims) →
    None ≡ first_of h (map (λ (a : Aimed). a.aim) aims) c
none-reached h c aims k all far =
    sym (first-dropped h c k aims far ∙ ap (λ (xs : List Aimed). first_of h (map (λ (b : Aimed). b.aim) xs) c) (drop_all k aims all))
