-- Lemmas on the positions of groups.
use Rattle.std.proofs.Common.{◌≡◌, ℕ, ◌+◌, ◌≤◌, ◌<◌, List, [], ◌∷◌, ◌++◌, map, take, length, refl, ap, sym, ◌∙◌, Some}
use Rattle.std.proofs.Common.{None, Option, arith, get_or, ◌⊎◌, inl, inr, append-nil, append_assoc}
use Rattle.std.specs.Prelude.{slice_get, option_map, option_and_then}
use Rattle.std.proofs.lemmas.Option.{slice_get-map, slice_get_cases}
use Rattle.std.proofs.lemmas.List.{map-append, take_all}
use Rattle.std.proofs.lemmas.Grind.{flat_map-append}
use Rattle.sudo_match.specs.declared.people.Person.{Person}
use Rattle.sudo_match.specs.declared.people.Group.{Group}
use Rattle.sudo_base.proofs.IndexLemmas.{take-some}
use Rattle.sudo_match.specs.declared.positions.GroupPosition.{GroupPosition}
use Rattle.sudo_match.specs.Body.Indexing.{group_there, ArePositions}
use Rattle.sudo_match.specs.KnownRows.{groups_of}

same-index : (people : List Person) (positions : List GroupPosition) (n : ℕ) → ArePositions people positions
    → option_map (group_there people) (slice_get positions n) ≡ option_map Some (slice_get (groups_of people) n)
same-index people positions n e =
    sym (slice_get-map (group_there people) positions n) ∙ ap (λ xs. slice_get xs n) e ∙ slice_get-map Some (groups_of people) n

-- the group at an index is the one that stands at its position
pub position-is :
    (people : List Person) (positions : List GroupPosition) (n : ℕ) (s : GroupPosition)
    → ArePositions people positions → slice_get positions n ≡ Some s →
    slice_get (groups_of people) n ≡ group_there people s
position-is people positions n s e at =
    go (slice_get (groups_of people) n) (sym (ap (option_map (group_there people)) at) ∙ same-index people positions n e)
  where
    go : (o : Option Group) → Some (group_there people s) ≡ option_map Some o → o ≡ group_there people s
    go None f = cc
    go (Some g) f = let same : group_there people s ≡ Some g = cc in sym same

pub position-past :
    (people : List Person) (positions : List GroupPosition) (n : ℕ) → ArePositions people positions
    → slice_get positions n ≡ None → slice_get (groups_of people) n ≡ None
position-past people positions n e at =
    go (slice_get (groups_of people) n) (sym (ap (option_map (group_there people)) at) ∙ same-index people positions n e)
  where
    go : (o : Option Group) → None ≡ option_map Some o → o ≡ None
    go None f = refl
    go (Some g) f = cc

-- ---- The positions, one after the other

groups_there : Option Person → List Group
groups_there None = []
groups_there (Some u) = u.groups

-- the groups of the user at an index
pub groups_at : List Person → ℕ → List Group
groups_at people user = groups_there (slice_get people user)

-- the positions so far are those of all groups of the users before, and of the first groups of the user at this index
abbrev pub SpotsTo : List Person → List GroupPosition → ℕ → ℕ → Type 0
SpotsTo people positions user at =
    map (group_there people) positions ≡ map Some (groups_of (take user people) ++ take at (groups_at people user))

pub positions-none : (people : List Person) (positions : List GroupPosition) → positions ≡ []
    → map (group_there people) positions ≡ map Some (groups_of (take 0 people))
positions-none people positions e = ap (map (group_there people)) e

pub positions-first :
    (people : List Person) (positions : List GroupPosition) (user : ℕ)
    → map (group_there people) positions ≡ map Some (groups_of (take user people)) →
    SpotsTo people positions user 0
positions-first people positions user e = e ∙ ap (map Some) (sym (append-nil (groups_of (take user people))))

pub positions-more :
    (people : List Person) (positions more : List GroupPosition) (user at : ℕ) (u : Person) (g : Group)
    → SpotsTo people positions user at → slice_get people user ≡ Some u →
    slice_get u.groups at ≡ Some g → more ≡ positions ++ record { user = user; at = at } ∷ [] → SpotsTo people more user (at + 1)
unfolding groups_at groups_there
positions-more people positions more user at u g e there here is =
    let position : GroupPosition = record { user = user; at = at } in
    let mine : groups_at people user ≡ u.groups = ap groups_there there in
    let stands : group_there people position ≡ Some g = ap (option_and_then (λ (v : Person). slice_get v.groups at)) there ∙ here in
    ap (map (group_there people)) is
    ∙ map-append (group_there people) positions (position ∷ [])
    ∙ ap (λ xs. xs ++ group_there people position ∷ []) e
    ∙ ap (λ o. map Some (groups_of (take user people) ++ take at (groups_at people user)) ++ o ∷ []) stands
    ∙ sym (map-append Some (groups_of (take user people) ++ take at (groups_at people user)) (g ∷ []))
    ∙ ap (map Some) (append_assoc (groups_of (take user people)) (take at (groups_at people user)) (g ∷ []))
    ∙ ap (λ xs. map Some (groups_of (take user people) ++ xs))
    (sym (take-some at (groups_at people user) g (ap (λ gs. slice_get gs at) mine ∙ here)))

pub positions-user :
    (people : List Person) (positions : List GroupPosition) (user at : ℕ) (u : Person)
    → SpotsTo people positions user at → slice_get people user ≡ Some u →
    length u.groups ≤ at → map (group_there people) positions ≡ map Some (groups_of (take (user + 1) people))
unfolding groups_at groups_there
positions-user people positions user at u e there done =
    let mine : groups_at people user ≡ u.groups = ap groups_there there in
    e
    ∙ ap (λ gs. map Some (groups_of (take user people) ++ take at gs)) mine
    ∙ ap (λ gs. map Some (groups_of (take user people) ++ gs)) (take_all at u.groups done)
    ∙ ap (λ gs. map Some (groups_of (take user people) ++ gs)) (sym (append-nil u.groups))
    ∙ ap (map Some) (sym (flat_map-append (λ (v : Person). v.groups) (take user people) (u ∷ [])))
    ∙ ap (λ us. map Some (groups_of us)) (sym (take-some user people u there))

pub positions-all :
    (people : List Person) (positions : List GroupPosition) (user : ℕ)
    → map (group_there people) positions ≡ map Some (groups_of (take user people)) →
    length people ≤ user → ArePositions people positions
positions-all people positions user e done = e ∙ ap (λ us. map Some (groups_of us)) (take_all user people done)

pub group-within : (groups : List Group) (n : ℕ) → n < length groups → (g : Group) × (slice_get groups n ≡ Some g)
group-within groups n h = go (slice_get_cases groups n).1
  where
    go : ((x : Group) × (n < length groups) × (slice_get groups n ≡ Some x) × (get_or groups n x ≡ x))
        ⊎ ((length groups ≤ n) × (slice_get groups n ≡ None)) → (g : Group) × (slice_get groups n ≡ Some g)
    go (inl e) = (e.0, e.2)
    go (inr e) = absurd (omega (arith, h, e.0))

-- past the last group
pub groups-past : (groups : List Group) (n : ℕ) → slice_get groups n ≡ None → length groups ≤ n
groups-past groups n h = go (slice_get_cases groups n).1
  where
    go : ((x : Group) × (n < length groups) × (slice_get groups n ≡ Some x) × (get_or groups n x ≡ x))
        ⊎ ((length groups ≤ n) × (slice_get groups n ≡ None)) → length groups ≤ n
    go (inl e) = absurd (let no : Some e.0 ≡ None = sym e.2 ∙ h in cc)
    go (inr e) = e.0
