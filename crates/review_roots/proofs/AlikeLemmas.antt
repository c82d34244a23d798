-- What blocks give a user on the way to another one is the same with either of two groups that no list of theirs names, where the user
-- that has them, or is asked for with them, has both or neither.
use Rattle.std.proofs.Common.{◌≡◌, ◌∙◌, ℕ, Bool, true, false, not, cond, ◌&&◌, ◌||◌, ◌==◌, List, [], ◌∷◌, ap, refl, sym}
use Rattle.std.proofs.Common.{Option, Some, None, inl, inr}
use Rattle.std.proofs.Common.{option_copied}
use Rattle.std.specs.Prelude.{bytes_eq, codes, is_some, option_map, unwrap_or}
use Rattle.std.specs.Option.{option_or}
use Rattle.std.specs.List.{Contains}
use Rattle.std.proofs.lemmas.List.Folds.{list_any-append}
use Rattle.sudo_grammar.specs.declared.kind.Atom.{Atom}
use Rattle.sudo_grammar.specs.declared.kind.Atom.TheVariants as atom
use Rattle.sudo_grammar.specs.declared.kind.Kind.{Kind}
use Rattle.sudo_grammar.specs.declared.kind.Kind.TheVariants as kind
use Rattle.sudo_grammar.specs.declared.kind.Member.{Member}
use Rattle.sudo_grammar.specs.declared.kind.Signed.{Signed}
use Rattle.sudo_grammar.specs.declared.policy.Policy.{Policy}
use Rattle.sudo_grammar.specs.declared.policy.Runas.{Runas}
use Rattle.sudo_match.specs.declared.people.Group.{Group}
use Rattle.sudo_match.specs.declared.people.Machine.{Machine}
use Rattle.sudo_match.specs.declared.people.Person.{Person}
use Rattle.sudo_match.specs.KnownRows.{KnownRows}
use Rattle.sudo_match.specs.Matching.{group_fits, user_fits}
use Rattle.sudo_policy.specs.Written.{written_form}
use Rattle.sudo_verdict.specs.Last.{last_that}
use Rattle.sudo_verdict.specs.Questions.{question_as}
use Rattle.sudo_verdict.specs.RunasForms.{form_allows, group_allowed, has_asked, has_group, is_same_user, runas_allows, target_value}
use Rattle.sudo_verdict.specs.Values.{allows, is_all, user_allowed, value}
use Rattle.review_roots.specs.declared.block.Block.{Block}
use Rattle.review_roots.specs.Asked.{better, nothing}
use Rattle.review_roots.specs.Blocks.{block_rows, is_for, standing_rows, with_rows}
use Rattle.review_roots.specs.Body.Deciding.{alone_by, asked_by, towards_by}
use Rattle.review_roots.specs.Body.Kept.{IsAlike}
use Rattle.review_roots.specs.Body.Unnamed.{AreGroupIds, AreIds, IsAbsent, block_groups, fits_by_name, is_unnamed, lists_group}
use Rattle.review_roots.specs.Body.Unnamed.{runas_groups}
use Rattle.review_roots.specs.Body.Unnamed.{runas_list, runas_users}
use Rattle.review_roots.specs.KnownGroups.{list_names, names_group}
use Rattle.review_roots.specs.States.{with_added}
use Rattle.review_grants.proofs.ItemLemmas.{neither, or-false}
use Rattle.review_roots.proofs.GroupLemmas.{same-last}
use Rattle.review_roots.proofs.MemberLemmas.{flat-same}

-- ---- A list of groups that does not name a group says of it what it says by ALL

all-fits : (a : Atom) (g : Group) → fits_by_name g a ≡ false → group_fits a g ≡ is_all a
unfolding group_fits
all-fits atom.All g e = refl
all-fits (atom.Name n) g e = e
all-fits (atom.Group n) g e = e
all-fits (atom.Uid i) g e = e
all-fits (atom.Gid i) g e = e
all-fits _ g e = refl

all-last : (ws : List Signed) (g : Group) → lists_group g ws ≡ false
    → last_that (λ w. group_fits w.atom g) ws ≡ last_that (λ w. is_all w.atom) ws
all-last [] g e = refl
all-last (w ∷ ws) g e =
    let both = neither (fits_by_name g w.atom) (lists_group g ws) e in
    ap (λ o. option_or o (cond (group_fits w.atom g) (Some w) None)) (all-last ws g both.1)
    ∙ ap (λ b. option_or (last_that (λ w. is_all w.atom) ws) (cond b (Some w) None)) (all-fits w.atom g both.0)

-- the value of a list of groups
abbrev pub group_value : Policy → List Member → Group → Option Bool
group_value p members g = value kind.Runas p members (λ a. group_fits a g)

-- a list of groups that names neither says the same of both
group-value-same :
    (p : Policy) (members : List Member) (g h : Group) → lists_group g (written_form kind.Runas p members) ≡ false →
    lists_group h (written_form kind.Runas p members) ≡ false → group_value p members g ≡ group_value p members h
unfolding value
group-value-same p members g h first second =
    ap (option_map (λ (w : Signed). not w.negated))
    (all-last (written_form kind.Runas p members) g first ∙ sym (all-last (written_form kind.Runas p members) h second))

-- ---- A list of users that does not name a group says the same of a user with it

pub added-value :
    (k : Kind) (p : Policy) (members : List Member) (u : Person) (g : Group) → list_names g (written_form k p members) ≡ false →
    value k p members (λ a. user_fits a (with_added u (Some g))) ≡ value k p members (λ a. user_fits a u)
unfolding value
added-value k p members u g none =
    ap (option_map (λ (w : Signed). not w.negated)) (same-last (written_form k p members) u g none)

-- the lists of users that a block has name neither
module _ (p : Policy) (x : Block) (g : Group) (absent : IsAbsent p g x.users.now (option_copied x.runas)) where
  apart : (list_names g (written_form kind.User p x.users.now) ≡ false) × (list_names g (runas_users p (option_copied x.runas)) ≡ false)
  apart =
      neither (list_names g (written_form kind.User p x.users.now)) (list_names g (runas_users p (option_copied x.runas)))
      (sym (list_any-append (λ (w : Signed). names_group g w.atom) (written_form kind.User p x.users.now)
      (runas_users p (option_copied x.runas)))
      ∙ absent.0)

  pub added-allowed : (u : Person) → user_allowed p x.users.now (with_added u (Some g)) ≡ user_allowed p x.users.now u
  added-allowed u = ap allows (added-value kind.User p x.users.now u g apart.0)

  pub added-target : (r : Runas) (users : List Member) (u : Person) → option_copied x.runas ≡ Some r → r.users ≡ Some users
      → target_value p users (with_added u (Some g)) ≡ target_value p users u
  added-target r users u is has =
      added-value kind.Runas p users u g (ap (λ o. list_names g (runas_list p o)) (sym has)
      ∙ ap (λ o. list_names g (runas_users p o)) (sym is) ∙ apart.1)

-- nor does its list of groups
absent-groups :
    (p : Policy) (x : Block) (g : Group) → lists_group g (block_groups p x) ≡ false → (r : Runas) (members : List Member) →
    option_copied x.runas ≡ Some r → r.groups ≡ Some members → lists_group g (written_form kind.Runas p members) ≡ false
absent-groups p x g absent r members is has =
    ap (λ o. lists_group g (runas_list p o)) (sym has) ∙ ap (λ o. lists_group g (runas_groups p o)) (sym is) ∙ absent

-- ---- A user with an added group

pub name-kept : (u : Person) (a : Option Group) → (with_added u a).name ≡ u.name
name-kept u None = refl
name-kept u (Some g) = refl

pub has-more : (u : Person) (g h : Group) → has_group (with_added u (Some g)) h ≡ (has_group u h || (g.gid == h.gid))
has-more u g h =
    list_any-append (λ (x : Group). x.gid == h.gid) u.groups (g ∷ [])
    ∙ ap (λ b. has_group u h || b) (or-false (g.gid == h.gid))

-- ---- The same question with another group

is-some-same : (u : Person) (ids : List ℕ) (b c : Option Group) → IsAlike ids u b c → is_some b ≡ is_some c
is-some-same u ids b c (inl e) = ap is_some e
is-some-same u ids b c (inr two) = ap is_some two.is_one ∙ sym (ap is_some two.is_other)

pub asked-same : (u : Person) (ids : List ℕ) (b c : Option Group) → IsAlike ids u b c → has_asked u b ≡ has_asked u c
asked-same u ids b c (inl e) = ap (has_asked u) e
asked-same u ids b c (inr two) = ap (has_asked u) two.is_one ∙ two.has ∙ sym (ap (has_asked u) two.is_other)

-- the list of groups allows both to users that have both or neither
groups-allow :
    (p : Policy) (members : List Member) (u v : Person) (b c : Option Group) → is_some b ≡ is_some c →
    ((g h : Group) → b ≡ Some g → c ≡ Some h → group_value p members g ≡ group_value p members h) → has_asked u b ≡ has_asked v c
    → group_allowed p members u b ≡ group_allowed p members v c
groups-allow p members u v None None some same has = refl
groups-allow p members u v None (Some h) some same has = absurd (let bad : false ≡ true = some in cc)
groups-allow p members u v (Some g) None some same has = absurd (let bad : true ≡ false = some in cc)
groups-allow p members u v (Some g) (Some h) some same has =
    ap (λ o. unwrap_or o (has_group u g)) (same g h refl refl) ∙ ap (unwrap_or (group_value p members h)) has

-- the group, if any, is among these
abbrev pub IsWithin : List Group → Option Group → Type 0
IsWithin groups o = (g : Group) → o ≡ Some g → Contains groups g

-- the groups that the IDs of the blocks leave out; a user, with two added groups that are alike to it; another one, asked for with two
-- groups that are alike to that one; and the user with the one has the first that is asked for if and only if the user with the
-- other has the second
module _
    (p : Policy) (d : KnownRows) (bs : List Block) (m : Machine) (groups : List Group) (ids goals : List ℕ)
    (unnamed : AreIds p bs groups ids) (far : AreGroupIds p bs groups goals) (u v : Person) (a a' b b' : Option Group)
    (from : IsAlike ids u a a') (to : IsAlike goals v b b')
    (of_a : IsWithin groups a) (of_a' : IsWithin groups a') (of_b : IsWithin groups b) (of_b' : IsWithin groups b')
    (own : is_same_user v u ≡ true → has_asked (with_added u a) b ≡ has_asked (with_added u a') b')
  where
    abbrev one : Person
    one = with_added u a

    abbrev other : Person
    other = with_added u a'

    -- ---- Lists of a block

    is-absent : (x : Block) → Contains bs x → (g : Group) → Contains groups g → is_unnamed ids g ≡ true
        → IsAbsent p g x.users.now (option_copied x.runas)
    is-absent x inside g there none = unnamed g there none x inside

    listed-same : (x : Block) → Contains bs x → user_allowed p x.users.now one ≡ user_allowed p x.users.now other
    listed-same x inside = go from
      where
        go : IsAlike ids u a a' → user_allowed p x.users.now one ≡ user_allowed p x.users.now other
        go (inl e) = ap (λ o. user_allowed p x.users.now (with_added u o)) e
        go (inr two) =
            ap (λ o. user_allowed p x.users.now (with_added u o)) two.is_one
            ∙ added-allowed p x two.one (is-absent x inside two.one (of_a two.one two.is_one) two.one_unnamed) u
            ∙ sym (ap (λ o. user_allowed p x.users.now (with_added u o)) two.is_other
            ∙ added-allowed p x two.other
            (is-absent x inside two.other (of_a' two.other two.is_other) two.other_unnamed) u)

    target-same : (x : Block) → Contains bs x → (r : Runas) (users : List Member) → option_copied x.runas ≡ Some r → r.users ≡ Some users
        → target_value p users one ≡ target_value p users other
    target-same x inside r users is has = go from
      where
        go : IsAlike ids u a a' → target_value p users one ≡ target_value p users other
        go (inl e) = ap (λ o. target_value p users (with_added u o)) e
        go (inr two) =
            ap (λ o. target_value p users (with_added u o)) two.is_one
            ∙ added-target p x two.one (is-absent x inside two.one (of_a two.one two.is_one) two.one_unnamed) r users u is has
            ∙ sym (ap (λ o. target_value p users (with_added u o)) two.is_other
            ∙ added-target p x two.other
            (is-absent x inside two.other (of_a' two.other two.is_other) two.other_unnamed) r users u is has)

    value-same : (x : Block) → Contains bs x → (r : Runas) (members : List Member) → option_copied x.runas ≡ Some r
        → r.groups ≡ Some members → (g h : Group) → b ≡ Some g → b' ≡ Some h → group_value p members g ≡ group_value p members h
    value-same x inside r members is has g h is_g is_h = go to
      where
        go : IsAlike goals v b b' → group_value p members g ≡ group_value p members h
        go (inl e) = let same : g ≡ h = cc in ap (group_value p members) same
        go (inr two) =
            let first : two.one ≡ g = let k : Some two.one ≡ Some g = sym two.is_one ∙ is_g in cc in
            let second : two.other ≡ h = let k : Some two.other ≡ Some h = sym two.is_other ∙ is_h in cc in
            ap (group_value p members) (sym first)
            ∙ group-value-same p members two.one two.other
            (absent-groups p x two.one (far two.one (of_b two.one two.is_one) two.one_unnamed x inside) r members is has)
            (absent-groups p x two.other (far two.other (of_b' two.other two.is_other) two.other_unnamed x inside) r members is has)
            ∙ ap (group_value p members) second

    some-same : is_some b ≡ is_some b'
    some-same = is-some-same v goals b b' to

    has-same : has_asked v b ≡ has_asked v b'
    has-same = asked-same v goals b b' to

    user-same : is_same_user v one ≡ is_same_user v other
    user-same = ap (bytes_eq v.name) (name-kept u a ∙ sym (name-kept u a'))

    is-user : is_same_user v one ≡ is_same_user v u
    is-user = ap (bytes_eq v.name) (name-kept u a)

    -- ---- Asking for the other user by name

    own-groups : (x : Block) → Contains bs x → (r : Runas) (members : List Member) → option_copied x.runas ≡ Some r
        → r.groups ≡ Some members
        → (is_same_user v one && group_allowed p members one b) ≡ (is_same_user v other && group_allowed p members other b')
    own-groups x inside r members is has = go (is_same_user v one) refl
      where
        go : (c : Bool) → is_same_user v one ≡ c
            → (is_same_user v one && group_allowed p members one b) ≡ (is_same_user v other && group_allowed p members other b')
        go true e =
            ap (λ c. c && group_allowed p members one b) user-same
            ∙ ap (λ c. is_same_user v other && c)
            (groups-allow p members one other b b' some-same (value-same x inside r members is has) (own (sym is-user ∙ e)))
        go false e =
            ap (λ c. c && group_allowed p members one b) e
            ∙ sym (ap (λ c. c && group_allowed p members other b') (sym user-same ∙ e))

    own-asked : (is_same_user v one && has_asked one b) ≡ (is_same_user v other && has_asked other b')
    own-asked = go (is_same_user v one) refl
      where
        go : (c : Bool) → is_same_user v one ≡ c → (is_same_user v one && has_asked one b) ≡ (is_same_user v other && has_asked other b')
        go true e = ap (λ c. c && has_asked one b) user-same ∙ ap (λ c. is_same_user v other && c) (own (sym is-user ∙ e))
        go false e = ap (λ c. c && has_asked one b) e ∙ sym (ap (λ c. c && has_asked other b') (sym user-same ∙ e))

    pair-allows : (x : Block) → Contains bs x → (r : Runas) (users members : List Member) → option_copied x.runas ≡ Some r
        → r.groups ≡ Some members
        → (unwrap_or (target_value p users v) (is_some b && is_same_user v one) && group_allowed p members v b)
        ≡ (unwrap_or (target_value p users v) (is_some b' && is_same_user v other) && group_allowed p members v b')
    pair-allows x inside r users members is has =
        ap (λ c. unwrap_or (target_value p users v) (c && is_same_user v one) && group_allowed p members v b) some-same
        ∙ ap (λ c. unwrap_or (target_value p users v) (is_some b' && c) && group_allowed p members v b) user-same
        ∙ ap (λ c. unwrap_or (target_value p users v) (is_some b' && is_same_user v other) && c)
        (groups-allow p members v v b b' some-same (value-same x inside r members is has) has-same)

    named-allows : (x : Block) → Contains bs x
        → runas_allows p (question_as d one m (Some v) b) (option_copied x.runas)
        ≡ runas_allows p (question_as d other m (Some v) b') (option_copied x.runas)
    unfolding runas_allows form_allows
    named-allows x inside = go (option_copied x.runas) refl
      where
        forms : (r : Runas) → option_copied x.runas ≡ Some r → (users members : Option (List Member)) → r.users ≡ users → r.groups ≡ members
            → form_allows p (question_as d one m (Some v) b) users members ≡ form_allows p (question_as d other m (Some v) b') users members
        forms r is (Some users) (Some members) e f = pair-allows x inside r users members is f
        forms r is (Some users) None e f = ap (λ c. allows (target_value p users v) && c) has-same
        forms r is None (Some members) e f = own-groups x inside r members is f
        forms r is None None e f = own-asked

        go : (o : Option Runas) → option_copied x.runas ≡ o
            → runas_allows p (question_as d one m (Some v) b) o ≡ runas_allows p (question_as d other m (Some v) b') o
        go None is = ap (λ c. bytes_eq v.name (codes "root") && c) has-same
        go (Some r) is = forms r is r.users r.groups refl refl

    -- ---- Asking for a group alone

    module _ (same : is_same_user v u ≡ true) (g h : Group) (is_g : b ≡ Some g) (is_h : b' ≡ Some h) where
      owned : has_group one g ≡ has_group other h
      owned = ap (has_asked one) (sym is_g) ∙ own same ∙ ap (has_asked other) is_h

      self-same : is_same_user one one ≡ is_same_user other other
      self-same =
          ap (λ n. bytes_eq n (with_added u a).name) (name-kept u a ∙ sym (name-kept u a'))
          ∙ ap (bytes_eq (with_added u a').name) (name-kept u a ∙ sym (name-kept u a'))

      values : (x : Block) → Contains bs x → (r : Runas) (members : List Member) → option_copied x.runas ≡ Some r → r.groups ≡ Some members
          → group_allowed p members one (Some g) ≡ group_allowed p members other (Some h)
      values x inside r members is has =
          ap (λ o. unwrap_or o (has_group one g)) (value-same x inside r members is has g h is_g is_h)
          ∙ ap (unwrap_or (group_value p members h)) owned

      alone-allows : (x : Block) → Contains bs x
          → runas_allows p (question_as d one m None (Some g)) (option_copied x.runas)
          ≡ runas_allows p (question_as d other m None (Some h)) (option_copied x.runas)
      unfolding runas_allows form_allows
      alone-allows x inside = go (option_copied x.runas) refl
        where
          forms : (r : Runas) → option_copied x.runas ≡ Some r → (users members : Option (List Member)) → r.users ≡ users
              → r.groups ≡ members
              → form_allows p (question_as d one m None (Some g)) users members
              ≡ form_allows p (question_as d other m None (Some h)) users members
          forms r is (Some users) (Some members) e f =
              ap (λ o. unwrap_or o (is_same_user one one) && group_allowed p members one (Some g)) (target-same x inside r users is e)
              ∙ ap (λ c. unwrap_or (target_value p users other) c && group_allowed p members one (Some g)) self-same
              ∙ ap (λ c. unwrap_or (target_value p users other) (is_same_user other other) && c) (values x inside r members is f)
          forms r is (Some users) None e f =
              ap (λ o. allows o && has_group one g) (target-same x inside r users is e)
              ∙ ap (λ c. allows (target_value p users other) && c) owned
          forms r is None (Some members) e f = values x inside r members is f
          forms r is None None e f = owned

          go : (o : Option Runas) → option_copied x.runas ≡ o
              → runas_allows p (question_as d one m None (Some g)) o ≡ runas_allows p (question_as d other m None (Some h)) o
          go None is =
              ap (λ n. bytes_eq n (codes "root") && has_group one g) (name-kept u a ∙ sym (name-kept u a'))
              ∙ ap (λ c. bytes_eq (with_added u a').name (codes "root") && c) owned
          go (Some r) is = forms r is r.users r.groups refl refl

    -- ---- The blocks that stand, and what they give

    rows-same :
        (t t' : Option Person) (g g' : Option Group) (x : Block) →
        user_allowed p x.users.now one ≡ user_allowed p x.users.now other →
        runas_allows p (question_as d one m t g) (option_copied x.runas)
        ≡ runas_allows p (question_as d other m t' g') (option_copied x.runas) →
        standing_rows p (question_as d one m t g) x ≡ standing_rows p (question_as d other m t' g') x
    rows-same t t' g g' x listed allowed =
        ap (λ c. cond (c && (is_for p m x && runas_allows p (question_as d one m t g) (option_copied x.runas))) (block_rows x) []) listed
        ∙ ap (λ c. cond (user_allowed p x.users.now other && (is_for p m x && c)) (block_rows x) []) allowed

    given-same :
        (t t' : Option Person) (g g' : Option Group) →
        ((x : Block) → Contains bs x
        → runas_allows p (question_as d one m t g) (option_copied x.runas)
        ≡ runas_allows p (question_as d other m t' g') (option_copied x.runas)) →
        asked_by p d bs one m t g ≡ asked_by p d bs other m t' g'
    given-same t t' g g' same =
        ap (with_rows nothing)
        (flat-same (standing_rows p (question_as d one m t g)) (standing_rows p (question_as d other m t' g')) bs
        (λ x inside. rows-same t t' g g' x (listed-same x inside) (same x inside)))

    alone-same : alone_by p d bs m one v b ≡ alone_by p d bs m other v b'
    alone-same = go (is_same_user v one) refl b b' refl refl
      where
        go : (c : Bool) → is_same_user v one ≡ c → (o o' : Option Group) → b ≡ o → b' ≡ o'
            → alone_by p d bs m one v o ≡ alone_by p d bs m other v o'
        go false e o o' is is' =
            ap (λ c. cond (c && is_some o) (asked_by p d bs one m None o) nothing) e
            ∙ sym (ap (λ c. cond (c && is_some o') (asked_by p d bs other m None o') nothing) (sym user-same ∙ e))
        go true e None None is is' =
            ap (λ c. cond (c && false) (asked_by p d bs one m None None) nothing) e
            ∙ sym (ap (λ c. cond (c && false) (asked_by p d bs other m None None) nothing) (sym user-same ∙ e))
        go true e (Some g) None is is' =
            absurd (let bad : true ≡ false = sym (ap is_some is) ∙ some-same ∙ ap is_some is' in cc)
        go true e None (Some h) is is' =
            absurd (let bad : false ≡ true = sym (ap is_some is) ∙ some-same ∙ ap is_some is' in cc)
        go true e (Some g) (Some h) is is' =
            ap (λ c. cond (c && true) (asked_by p d bs one m None (Some g)) nothing) e
            ∙ given-same None None (Some g) (Some h) (alone-allows (sym is-user ∙ e) g h is is')
            ∙ sym (ap (λ c. cond (c && true) (asked_by p d bs other m None (Some h)) nothing) (sym user-same ∙ e))

    -- what these blocks give the user on the way to the other is the same
    pub towards-same : towards_by p d bs m one v b ≡ towards_by p d bs m other v b'
    towards-same =
        ap (λ x. better x (alone_by p d bs m one v b)) (given-same (Some v) (Some v) b b' named-allows)
        ∙ ap (better (asked_by p d bs other m (Some v) b')) alone-same
