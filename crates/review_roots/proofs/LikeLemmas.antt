-- Steps to states of one user that the same blocks allow: to another user they give the same.
use Rattle.std.proofs.Common.{◌<◌, ◌+◌, ◌⊎◌, ◌∷◌, ◌++◌, [], zero, suc, cond, drop, get_or, inl, inr, length, map, take}
use Rattle.std.proofs.Common.{◌≡◌, ◌∙◌, ◌==◌, ℕ, Bool, true, false, List, ap, arith, flat_map, refl, subst, sym, Option, Some, None}
use Rattle.std.specs.Prelude.{All, bytes_eq, option_map, slice_get}
use Rattle.std.specs.List.{list_any}
use Rattle.std.specs.Bool.{Decides}
use mathlib.Core.Bool.{beq}
use Rattle.std.specs.Cmp.Lexicographic.{pointwise}
use Rattle.std.proofs.lemmas.Option.{slice_get_within}
use Rattle.std.proofs.lemmas.Slice.Eq.{slice_eq-Decides}
use Rattle.std.proofs.lemmas.List.Elements.{All-contains, Contains-get_or}
use Rattle.sudo_match.specs.declared.people.Person.{Person}
use Rattle.sudo_verdict.specs.RunasForms.{is_same_user}
use Rattle.review_roots.specs.declared.candidate.Candidate.{Candidate}
use Rattle.review_roots.specs.declared.given.Counted.{Counted}
use Rattle.review_roots.specs.declared.host.HostSteps.{HostSteps}
use Rattle.review_roots.specs.declared.layer.Aimed.{Aimed}
use Rattle.review_roots.specs.declared.level.Level.{Level}
use Rattle.review_roots.specs.declared.search.Aim.{Aim}
use Rattle.review_roots.specs.declared.state.State.{State}
use Rattle.review_roots.specs.declared.toward.Toward.{Toward}
use Rattle.review_roots.specs.Asked.{nothing}
use Rattle.review_roots.specs.Blocks.{with_rows}
use Rattle.review_roots.specs.Body.Candidates.{both_at, part_at}
use Rattle.review_roots.specs.Body.Found.{AreLike, HasLike, IsAimed, IsCandidate, IsTowardOf, TellLike, any_toward}
use Rattle.review_roots.specs.Body.Found.{first_of, found_by, reaches}
use Rattle.review_roots.specs.Body.Towards.{IsToward}
use Rattle.review_roots.specs.Ranks.{is_at_least}
use Rattle.review_roots.specs.States.{group_at, level_for, step_given, with_added}
use Rattle.review_roots.specs.Ways.{step_on}
use Rattle.review_roots.proofs.AlikeLemmas.{name-kept}
use Rattle.review_roots.proofs.ListSteps.{drop-next}
use Rattle.review_roots.proofs.LoopLemmas.{there}
use Rattle.review_roots.proofs.TowardLemmas.{foreign-barred, foreign-given, step-from, step-none}
use Rattle.review_roots.proofs.WeakLemmas.{weak-level, weak-nothing}
use Rattle.review_roots.proofs.LayerLemmas.{get-append-split}
use Rattle.review_roots.proofs.SearchLemmas.{at-contains, contains-at, get-append}
use Rattle.review_roots.proofs.UserLemmas.{before, one-row}

module _ (h : HostSteps) (c : Candidate) (is : IsCandidate h c) where
  -- the candidate's user in the directory
  user-of : (o : Option Person) → slice_get h.directory.now.people c.state.user ≡ o →
      option_map (λ u. with_added u (group_at h.groups.now c.state.added)) o ≡ Some c.person →
      (u : Person) × ((slice_get h.directory.now.people c.state.user ≡ Some u) × (u.name ≡ c.person.name))
  user-of None at e = cc
  user-of (Some u) at e =
      let added : with_added u (group_at h.groups.now c.state.added) ≡ c.person = cc in
      (u, (at, sym (name-kept u (group_at h.groups.now c.state.added)) ∙ ap (λ (x : Person). x.name) added))

  -- a user at another index has another name
  other-name : (user : ℕ) (v : Person) → slice_get h.directory.now.people user ≡ Some v → (c.state.user == user) ≡ false
      → is_same_user v c.person ≡ false
  other-name user v at apart = go (is_same_user v c.person) refl
    where
      go : (b : Bool) → is_same_user v c.person ≡ b → is_same_user v c.person ≡ false
      go false e = e
      go true e =
          let u = user-of (slice_get h.directory.now.people c.state.user) refl is.person in
          let same = one-row h.directory.now.people h.directory.now.machines h.faultless c.state.user user u.0 v u.1.0 at
          (ap (bytes_eq v.name) u.1.1 ∙ e) in
          absurd (let bad : true ≡ false = sym (itself user) ∙ ap (λ i. i == user) (sym same.1) ∙ apart in cc)
        where
          itself : (i : ℕ) → (i == i) ≡ true
          itself i = grind arith

  -- where no block that raises allows it, the step to another user has not the least level
  pub barred :
      (t : Toward) → IsToward h.checked.now h.directory.now h.groups.now h.blocks.now t.state t →
      (c.state.user == t.state.user) ≡ false → list_any (both_at h.on.items t.allowed.items) c.strong.items ≡ false →
      (k : Counted) (l : Level) → is_at_least h.least l ≡ true →
      is_at_least l (level_for k (step_given h.checked.now h.directory.now h.host.now h.groups.now c.state t.state)) ≡ false
  barred t toward apart none k l above = go (slice_get h.directory.now.people t.state.user) refl
    where
      go : (o : Option Person) → slice_get h.directory.now.people t.state.user ≡ o →
          is_at_least l (level_for k (step_given h.checked.now h.directory.now h.host.now h.groups.now c.state t.state)) ≡ false
      go None at =
          ap (λ a. is_at_least l (level_for k a)) (sym (step-none h t.state c is at))
          ∙ weak-level h.least nothing h.listed (weak-nothing h.least h.listed) k l above
      go (Some v) at =
          ap (λ a. is_at_least l (level_for k a)) (sym (step-from h t.state c v is at))
          ∙ foreign-barred h c v (group_at h.groups.now t.state.added) t.allowed.items is (other-name t.state.user v at apart)
          (toward.allowed v at) none k l above

  -- what the step to a state gives that is another user's
  by-allowed : (s : State) (t : Toward) (v : Person) → IsTowardOf h s t → slice_get h.directory.now.people s.user ≡ Some v →
      is_same_user v c.person ≡ false →
      with_rows nothing (flat_map (part_at (λ i b. both_at h.on.items t.allowed.items i) h.blocks.now) c.listed.items) ≡ step_on h c.state s
  by-allowed s t v toward at away =
      foreign-given h c v (group_at h.groups.now s.added) t.allowed.items is away (to-s.allowed v at)
      (with_rows nothing (flat_map (part_at (λ i b. both_at h.on.items t.allowed.items i) h.blocks.now) c.listed.items)) refl
      ∙ step-from h s c v is at
    where
      to-s : IsToward h.checked.now h.directory.now h.groups.now h.blocks.now s t
      to-s = subst (λ s. IsToward h.checked.now h.directory.now h.groups.now h.blocks.now s t) toward.0 toward.1

  pub like-steps :
      (s t : State) (a b : Toward) → IsTowardOf h s a → IsTowardOf h t b → t.user ≡ s.user → b.allowed.items ≡ a.allowed.items →
      (c.state.user == s.user) ≡ false → step_on h c.state s ≡ step_on h c.state t
  like-steps s t a b to-s to-t same allowed apart = go (slice_get h.directory.now.people s.user) refl
    where
      go : (o : Option Person) → slice_get h.directory.now.people s.user ≡ o → step_on h c.state s ≡ step_on h c.state t
      go None at =
          sym (step-none h s c is at) ∙ step-none h t c is (ap (slice_get h.directory.now.people) same ∙ at)
      go (Some v) at =
          let away = other-name s.user v at apart in
          sym (by-allowed s a v to-s at away)
          ∙ ap (λ xs. with_rows nothing (flat_map (part_at (λ i b. both_at h.on.items xs i) h.blocks.now) c.listed.items)) (sym allowed)
          ∙ by-allowed t b v to-t (ap (slice_get h.directory.now.people) same ∙ at) away

  -- an aim like one that is not reached is not reached either
  like-unreached :
      (one a : Aimed) → IsAimed h one → IsAimed h a → AreLike one a.aim (any_toward a.toward) → (c.state.user == a.aim.state.user) ≡ false →
      reaches h one.aim c ≡ false → reaches h a.aim c ≡ false
  like-unreached one a one_aimed aimed like apart none =
      ap (λ l. is_at_least l (level_for a.aim.counted (step_on h c.state a.aim.state))) (sym like.level)
      ∙ ap (λ k. is_at_least one.aim.level (level_for k (step_on h c.state a.aim.state))) (sym like.counted)
      ∙ ap (λ g. is_at_least one.aim.level (level_for one.aim.counted g))
      (like-steps a.aim.state one.aim.state (any_toward a.toward) (any_toward one.toward) aimed.toward one_aimed.toward like.user
      like.allowed apart)
      ∙ none

  -- an aim that is passed over, or to which no step was found, is not reached
  pub passed-over :
      (aims : List Aimed) (k : ℕ) (a : Aimed) → k < length aims → a ≡ get_or aims k a → All (IsAimed h) aims → TellLike aims →
      All (λ b. reaches h b.aim c ≡ false) (take k aims) →
      ((a.is_like ≡ true) × ((c.state.user == a.aim.state.user) ≡ false)) ⊎ (reaches h a.aim c ≡ false) → reaches h a.aim c ≡ false
  passed-over aims k a within this aimed tell far (inr none) = none
  passed-over aims k a within this aimed tell far (inl (like, apart)) =
      go (tell k a (there aims k a within ∙ ap Some (sym this)) like)
    where
      go : (j : ℕ) × (one : Aimed) × (j < k) × (slice_get aims j ≡ Some one) × AreLike one a.aim (any_toward a.toward)
          → reaches h a.aim c ≡ false
      go (j, one, less, at, likes) =
          like-unreached one a (All-contains (IsAimed h) aims one aimed (at-contains aims one j at))
          (subst (IsAimed h) (sym this) (All-contains (IsAimed h) aims (get_or aims k a) aimed (Contains-get_or aims k a within)))
          likes apart
          (All-contains (λ b. reaches h b.aim c ≡ false) (take k aims) one far
          (at-contains (take k aims) one j (before aims j k one less at)))

  -- a candidate without a step to the aim at an index has its first step to a later aim
  pub first-later :
      (aims : List Aimed) (k : ℕ) (a : Aimed) → k < length aims → a ≡ get_or aims k a → reaches h a.aim c ≡ false →
      first_of h (map (λ (b : Aimed). b.aim) aims) c ≡ first_of h (map (λ (b : Aimed). b.aim) (drop k aims)) c →
      first_of h (map (λ (b : Aimed). b.aim) aims) c ≡ first_of h (map (λ (b : Aimed). b.aim) (drop (k + 1) aims)) c
  first-later aims k a within this none so_far =
      so_far
      ∙ ap (λ (xs : List Aimed). first_of h (map (λ (b : Aimed). b.aim) xs) c)
      (drop-next aims k a within ∙ ap (λ (b : Aimed). b ∷ drop (k + 1) aims) (sym this))
      ∙ ap (λ r. cond r (Some (found_by h a.aim c)) (first_of h (map (λ (b : Aimed). b.aim) (drop (k + 1) aims)) c)) none

-- equal aims have one that is like the aim, by equal blocks
pub like-told : (read aims : List Aimed) (aim : Aim) (t u : Toward) → read ≡ aims → t ≡ u → HasLike read aim t → HasLike aims aim u
like-told read aims aim t u same known like = subst (λ xs. HasLike xs aim u) same (subst (HasLike read aim) known like)

-- one aim more, which tells what it is like
pub tell-more :
    (aims : List Aimed) (a : Aimed) → TellLike aims → (a.is_like ≡ true → HasLike aims a.aim (any_toward a.toward)) →
    TellLike (aims ++ a ∷ [])
tell-more aims a tell last k b at like = go (get-append-split aims (a ∷ []) k b at)
  where
    Told : Type 0
    Told = (j : ℕ) × (one : Aimed) × (j < k) × (slice_get (aims ++ a ∷ []) j ≡ Some one) × AreLike one b.aim (any_toward b.toward)

    old : (j : ℕ) × (one : Aimed) × (j < k) × (slice_get aims j ≡ Some one) × AreLike one b.aim (any_toward b.toward) → Told
    old (j, one, less, there, likes) = (j, one, less, get-append aims (a ∷ []) j one there, likes)

    new : (i : ℕ) → k ≡ length aims + i → slice_get (a ∷ []) i ≡ Some b → Told
    new zero is there = found (last (ap (λ (x : Aimed). x.is_like) same ∙ like))
      where
        same : a ≡ b
        same = cc

        found : HasLike aims a.aim (any_toward a.toward) → Told
        found (one, (inside, likes)) = stands (contains-at aims one inside)
          where
            stands : (j : ℕ) × (slice_get aims j ≡ Some one) → Told
            stands (j, there) =
                let w = slice_get_within aims j one there in (
                  j,
                  one,
                  omega (arith, w, is),
                  get-append aims (a ∷ []) j one there,
                  subst (λ (x : Aimed). AreLike one x.aim (any_toward x.toward)) same likes,
                )
    new (suc i) is there = cc

    go : (slice_get aims k ≡ Some b) ⊎ ((i : ℕ) × ((k ≡ length aims + i) × (slice_get (a ∷ []) i ≡ Some b))) → Told
    go (inl there) = old (tell k b there like)
    go (inr (i, (is, there))) = new i is there

-- lists of answers that are the same by their items
pub same-answers : (xs ys : List Bool) (r : Bool) → r ≡ pointwise beq xs ys → r ≡ true → xs ≡ ys
same-answers xs ys r is = (slice_eq-Decides decides xs ys r is).0
  where
    decides : (a b : Bool) → Decides (beq a b) (a ≡ b)
    decides true true = (λ e. refl, λ e. refl)
    decides true false = (λ e. cc, λ e. cc)
    decides false true = (λ e. cc, λ e. cc)
    decides false false = (λ e. refl, λ e. refl)
