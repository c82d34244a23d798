-- A block that does not name an added group lists a user with it as without it.
use Rattle.std.proofs.Common.{◌≡◌, ◌<◌, ◌+◌, ◌++◌, ◌∙◌, ℕ, zero, suc, Bool, true, false, cond, List, [], ◌∷◌, Vec, Global, ap, arith}
use Rattle.std.proofs.Common.{Option, Some, None, get_or, length, map, refl, sym, take}
use Rattle.std.specs.Prelude.{option_map, slice_get}
use Rattle.std.specs.List.{list_any, slice_index_or}
use Rattle.std.proofs.lemmas.List.{map-append}
use Rattle.std.proofs.lemmas.Option.{slice_get-map}
use Rattle.sudo_grammar.specs.declared.kind.Kind.TheVariants as kind
use Rattle.sudo_grammar.specs.declared.kind.Signed.{Signed}
use Rattle.sudo_grammar.specs.declared.policy.Policy.{Policy}
use Rattle.sudo_match.specs.declared.people.Group.{Group}
use Rattle.sudo_match.specs.declared.people.Person.{Person}
use Rattle.sudo_match.specs.KnownRows.{KnownRows}
use Rattle.sudo_verdict.specs.Values.{allows}
use Rattle.review_roots.specs.declared.base.Base.{Base}
use Rattle.review_roots.specs.declared.block.Block.{Block}
use Rattle.review_roots.specs.declared.state.State.{State}
use Rattle.review_roots.specs.Blocks.{lists}
use Rattle.review_roots.specs.Body.Naming.{AreRows, IsBase, names_in, row_at, row_in, row_of, trimmed, user_list}
use Rattle.review_roots.specs.Body.Raising.{passes as block_passes, passes_at}
use Rattle.review_roots.specs.KnownGroups.{list_names}
use Rattle.review_roots.specs.States.{group_at, person_of, with_added}
use Rattle.review_roots.proofs.AlikeLemmas.{added-value}
use Rattle.review_roots.proofs.IndexLemmas.{answer-at}
use Rattle.review_grants.proofs.ListSteps.{map-same, map-twice, take-more}
use Rattle.review_grants.proofs.ItemLemmas.{neither}

-- the rows of the lists of blocks are those of the blocks
pub rows-are :
    (p : Policy) (bs : List Block) (groups : List Group) (ls : List (Vec Signed Global)) (rows : List (Vec Bool Global)) →
    map (λ v. v.items) ls ≡ map (user_list p) bs →
    map (λ v. v.items) rows ≡ map (λ g. trimmed (map (λ v. list_names g v.items) ls)) groups → AreRows p bs groups rows
rows-are p bs groups ls rows written made =
    made ∙ map-same (λ g. trimmed (map (λ v. list_names g v.items) ls)) (row_of p bs) (λ g. ap trimmed (one g)) groups
  where
    one : (g : Group) → map (λ v. list_names g v.items) ls ≡ map (names_in p g) bs
    one g =
        sym (map-twice (list_names g) (λ (v : Vec Signed Global). v.items) ls) ∙ ap (map (list_names g)) written
        ∙ map-twice (list_names g) (user_list p) bs

-- one row more
pub rows-more :
    {X : Type 0} (f : X → List Bool) (xs : List X) (i : ℕ) (x : X) (rows : List (Vec Bool Global)) (row : Vec Bool Global)
    (new : List (Vec Bool Global)) → i < length xs → x ≡ get_or xs i x → row.items ≡ f x → map (λ v. v.items) rows ≡ map f (take i xs) →
    new ≡ rows ++ row ∷ [] → map (λ v. v.items) new ≡ map f (take (i + 1) xs)
rows-more f xs i x rows row new within at is so_far more =
    ap (map (λ (v : Vec Bool Global). v.items)) more ∙ map-append (λ (v : Vec Bool Global). v.items) rows (row ∷ [])
    ∙ ap (λ (ys : List (List Bool)). ys ++ row.items ∷ []) so_far
    ∙ ap (λ (y : List Bool). map f (take i xs) ++ y ∷ []) is
    ∙ sym (ap (map f) (take-more xs i x within at) ∙ map-append f (take i xs) (x ∷ []))

-- a list without true has true nowhere
nowhere : (xs : List Bool) (k : ℕ) → list_any (λ b. b) xs ≡ false → slice_index_or xs k false ≡ false
nowhere [] k e = refl
nowhere (x ∷ xs) zero e = (neither x (list_any (λ b. b) xs) e).0
nowhere (x ∷ xs) (suc k) e = nowhere xs k (neither x (list_any (λ b. b) xs) e).1

trimmed-at : (xs : List Bool) (k : ℕ) → slice_index_or (trimmed xs) k false ≡ slice_index_or xs k false
trimmed-at xs k = go (list_any (λ b. b) xs) refl
  where
    go : (b : Bool) → list_any (λ b. b) xs ≡ b → slice_index_or (cond b xs []) k false ≡ slice_index_or xs k false
    go true is = refl
    go false is = sym (nowhere xs k is)

-- there is a block at each index below the length; the answer at it is right
pub beside-right :
    (l : Block → Bool) (bs : List Block) (passes row : List Bool) →
    ((i : ℕ) (b : Block) → slice_get bs i ≡ Some b → slice_index_or row i false ≡ false → slice_index_or passes i false ≡ l b) →
    (i : ℕ) → i < length bs →
    (b : Block) × ((b ≡ get_or bs i b) × (cond (slice_index_or row i false) (passes_at l bs i) (slice_index_or passes i false) ≡ l b))
beside-right l bs passes row told i within =
    let at = there-at bs i within in
    (at.0, (at.1.1, go at.0 at.1.0 (slice_index_or row i false) refl))
  where
    there-at : (bs : List Block) (i : ℕ) → i < length bs → (b : Block) × ((slice_get bs i ≡ Some b) × (b ≡ get_or bs i b))
    there-at [] i within = absurd (omega (arith, within))
    there-at (b ∷ bs) zero within = (b, (refl, refl))
    there-at (b ∷ bs) (suc i) within = there-at bs i (omega (arith, within))

    go : (b : Block) → slice_get bs i ≡ Some b → (c : Bool) → slice_index_or row i false ≡ c
        → cond c (passes_at l bs i) (slice_index_or passes i false) ≡ l b
    go b at true is = ap (block_passes l) at
    go b at false is = told i b at is

-- a state with an added group: the row of the group, and the blocks that list the user without it
module _
    (p : Policy) (d : KnownRows) (bs : List Block) (groups : List Group) (s : State) (i : ℕ) (added : s.added ≡ Some i)
    (rows : List (Vec Bool Global)) (named : AreRows p bs groups rows) (row : Vec Bool Global) (there : slice_get rows i ≡ Some row)
    (base : Base) (is : IsBase p d bs base) (own : base.user ≡ s.user) (person : Person) (who : person_of d groups s ≡ Some person)
  where
    at-group : option_map (row_of p bs) (slice_get groups i) ≡ Some row.items
    at-group =
        sym (slice_get-map (row_of p bs) groups i) ∙ ap (λ xs. slice_get xs i) (sym named)
        ∙ slice_get-map (λ (v : Vec Bool Global). v.items) rows i ∙ ap (option_map (λ (v : Vec Bool Global). v.items)) there

    who-is : option_map (λ u. with_added u (slice_get groups i)) (slice_get d.people s.user) ≡ Some person
    who-is = sym (ap (λ a. option_map (λ u. with_added u (group_at groups a)) (slice_get d.people s.user)) added) ∙ who

    pub beside : (k : ℕ) (b : Block) → slice_get bs k ≡ Some b → slice_index_or row.items k false ≡ false
        → slice_index_or base.passes.items k false ≡ lists p person b
    beside k b at none = go (slice_get groups i) refl (slice_get d.people s.user) refl
      where
        go : (o : Option Group) → slice_get groups i ≡ o → (v : Option Person) → slice_get d.people s.user ≡ v
            → slice_index_or base.passes.items k false ≡ lists p person b
        go None here v known =
            absurd (let bad : None ≡ Some row.items = sym (ap (option_map (row_of p bs)) here) ∙ at-group in cc)
        go (Some g) here None known =
            absurd (let bad : None ≡ Some person =
            sym (ap (option_map (λ u. with_added u (slice_get groups i))) known) ∙ who-is in cc)
        go (Some g) here (Some u) known =
            let row_is : Some (row_of p bs g) ≡ Some row.items = sym (ap (option_map (row_of p bs)) here) ∙ at-group in
            let same_row : row_of p bs g ≡ row.items = cc in
            let person_is : Some (with_added u (Some g)) ≡ Some person =
            ap (λ o. Some (with_added u o)) (sym here)
            ∙ sym (ap (option_map (λ u. with_added u (slice_get groups i))) known) ∙ who-is in
            let same_person : with_added u (Some g) ≡ person = cc in
            let unnamed : names_in p g b ≡ false =
            sym (answer-at (names_in p g) bs k b at) ∙ sym (trimmed-at (map (names_in p g) bs) k)
            ∙ ap (λ xs. slice_index_or xs k false) same_row ∙ none in
            ap (λ xs. slice_index_or xs k false) (is.passes u (ap (slice_get d.people) own ∙ known))
            ∙ answer-at (lists p u) bs k b at
            ∙ sym (ap allows (added-value kind.User p b.users.now u g unnamed))
            ∙ ap (λ v. lists p v b) same_person

-- the same of any state of the user
module _
    (p : Policy) (d : KnownRows) (bs : List Block) (groups : List Group) (s : State) (base : Base) (is : IsBase p d bs base)
    (own : base.user ≡ s.user) (person : Person) (who : person_of d groups s ≡ Some person)
  where
    without : group_at groups s.added ≡ None → (k : ℕ) (b : Block) → slice_get bs k ≡ Some b
        → slice_index_or base.passes.items k false ≡ lists p person b
    without none k b at = go (slice_get d.people s.user) refl
      where
        go : (v : Option Person) → slice_get d.people s.user ≡ v → slice_index_or base.passes.items k false ≡ lists p person b
        go None known =
            absurd (let bad : None ≡ Some person =
            sym (ap (option_map (λ u. with_added u (group_at groups s.added))) known) ∙ who in cc)
        go (Some u) known =
            let person_is : Some u ≡ Some person =
            ap (λ o. Some (with_added u o)) (sym none)
            ∙ sym (ap (option_map (λ u. with_added u (group_at groups s.added))) known) ∙ who in
            let same : u ≡ person = cc in
            ap (λ xs. slice_index_or xs k false) (is.passes u (ap (slice_get d.people) own ∙ known))
            ∙ answer-at (lists p u) bs k b at ∙ ap (λ v. lists p v b) same

    pub beside-any : (rows : List (Vec Bool Global)) → AreRows p bs groups rows → (k : ℕ) (b : Block) → slice_get bs k ≡ Some b
        → slice_index_or (row_at rows s.added) k false ≡ false → slice_index_or base.passes.items k false ≡ lists p person b
    beside-any rows named k b at none = go s.added refl
      where
        no-group : (o : Option Group) → option_map (row_of p bs) o ≡ None → o ≡ None
        no-group None absent = refl
        no-group (Some g) absent = absurd (let bad : Some (row_of p bs g) ≡ None = absent in cc)

        by-row : (i : ℕ) → s.added ≡ Some i → (o : Option (Vec Bool Global)) → slice_get rows i ≡ o
            → slice_index_or base.passes.items k false ≡ lists p person b
        by-row i added (Some row) there =
            beside p d bs groups s i added rows named row there base is own person who k b at
            (sym (ap (λ xs. slice_index_or xs k false) (ap (row_at rows) added ∙ ap row_in there)) ∙ none)
        by-row i added None there =
            without (ap (group_at groups) added ∙ no-group (slice_get groups i)
            (sym (slice_get-map (row_of p bs) groups i) ∙ ap (λ xs. slice_get xs i) (sym named)
            ∙ slice_get-map (λ (v : Vec Bool Global). v.items) rows i ∙ ap (option_map (λ (v : Vec Bool Global). v.items)) there))
            k b at

        go : (a : Option ℕ) → s.added ≡ a → slice_index_or base.passes.items k false ≡ lists p person b
        go None added = without (ap (group_at groups) added) k b at
        go (Some i) added = by-row i added (slice_get rows i) refl
