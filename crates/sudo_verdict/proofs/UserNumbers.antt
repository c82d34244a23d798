-- Numbers that a user lacks: no atom with one of them matches the user.
use Rattle.std.proofs.Common.{◌≡◌, ℕ, Bool, true, false, not, ◌||◌, List, [], ◌∷◌, None, length, refl, sym, ◌∙◌, ap}
use Rattle.std.specs.Prelude.{◌==◌, bytes_eq}
use Rattle.std.specs.List.{list_any, list_all}
use Rattle.std.proofs.lemmas.Bool.{and_parts, eqb-true, and_from}
use Rattle.std.proofs.lemmas.Slice.Eq.{bytes_eq-Decides}
use Rattle.sudo_grammar.specs.declared.kind.Atom.{Atom}
use Rattle.sudo_grammar.specs.declared.kind.Atom.TheVariants as atom
use Rattle.sudo_match.specs.declared.people.Person.{Person}
use Rattle.sudo_match.specs.declared.people.Group.{Group}
use Rattle.sudo_match.specs.Matching.{user_fits}
use Rattle.sudo_policy.specs.Definitions.{alias_named}
use Rattle.sudo_verdict.specs.Numbers.{user_number, group_number, uid_number, gid_number, lacks_group, lacks_user}
use Rattle.sudo_verdict.specs.Body.Numbers.{atom_number}

pub never : (b : Bool) → b ≡ true → not b ≡ true → ⊥
never true e f = cc
never false e f = cc

-- the numbers that each user has, and those of the groups
lacks-parts :
    (has : ℕ → Bool) (u : Person) → lacks_user has u ≡ true →
    (not (has 0) ≡ true) × ((not (has (user_number u.name)) ≡ true) × ((not (has (uid_number u.uid)) ≡ true)
    × (list_all (lacks_group has) u.groups ≡ true)))
unfolding lacks_user
lacks-parts has u e =
    let a = and_parts (not (has 0)) _ e in
    let b = and_parts (not (has (user_number u.name))) _ a.1 in
    let c = and_parts (not (has (uid_number u.uid))) (list_all (lacks_group has) u.groups) b.1 in
    (a.0, (b.0, (c.0, c.1)))

-- no group of the user has a name, or an ID, that the user lacks

named-none :
    (has : ℕ → Bool) (name : List ℕ) (gs : List Group) → list_all (lacks_group has) gs ≡ true →
    has (group_number name) ≡ true → list_any (λ (g : Group). bytes_eq g.name name) gs ≡ false
named-none has name [] e there = refl
named-none has name (g ∷ gs) e there =
    let here = and_parts (lacks_group has g) (list_all (lacks_group has) gs) e in
    let two = and_parts (not (has (group_number g.name))) (not (has (gid_number g.gid))) here.0 in
    test (bytes_eq g.name name) refl two.0 (named-none has name gs here.1 there)
  where
    test : (b : Bool) → bytes_eq g.name name ≡ b → not (has (group_number g.name)) ≡ true
        → list_any (λ (x : Group). bytes_eq x.name name) gs ≡ false
        → (b || list_any (λ (x : Group). bytes_eq x.name name) gs) ≡ false
    test true f missed rest =
        let same : g.name ≡ name = (bytes_eq-Decides g.name name).0 f in
        absurd (never (has (group_number g.name)) (ap (λ n. has (group_number n)) same ∙ there) missed)
    test false f missed rest = rest

id_none :
    (has : ℕ → Bool) (gid : ℕ) (gs : List Group) → list_all (lacks_group has) gs ≡ true →
    has (gid_number gid) ≡ true → list_any (λ (g : Group). g.gid == gid) gs ≡ false
id_none has gid [] e there = refl
id_none has gid (g ∷ gs) e there =
    let here = and_parts (lacks_group has g) (list_all (lacks_group has) gs) e in
    let two = and_parts (not (has (group_number g.name))) (not (has (gid_number g.gid))) here.0 in
    test (g.gid == gid) refl two.1 (id_none has gid gs here.1 there)
  where
    test : (b : Bool) → (g.gid == gid) ≡ b → not (has (gid_number g.gid)) ≡ true → list_any (λ (x : Group). x.gid == gid) gs ≡ false
        → (b || list_any (λ (x : Group). x.gid == gid) gs) ≡ false
    test true f missed rest =
        let same : g.gid ≡ gid = eqb-true g.gid gid f in
        absurd (never (has (gid_number g.gid)) (ap (λ n. has (gid_number n)) same ∙ there) missed)
    test false f missed rest = rest

named-other :
    (has : ℕ → Bool) (name other : List ℕ) → not (has (user_number other)) ≡ true → has (user_number name) ≡ true →
    bytes_eq name other ≡ false
named-other has name other missed there = test (bytes_eq name other) refl
  where
    test : (b : Bool) → bytes_eq name other ≡ b → b ≡ false
    test false f = refl
    test true f =
        let same : name ≡ other = (bytes_eq-Decides name other).0 f in
        absurd (never (has (user_number other)) (ap (λ n. has (user_number n)) (sym same) ∙ there) missed)

id_other :
    (has : ℕ → Bool) (uid other : ℕ) → not (has (uid_number other)) ≡ true → has (uid_number uid) ≡ true →
    (uid == other) ≡ false
id_other has uid other missed there = test (uid == other) refl
  where
    test : (b : Bool) → (uid == other) ≡ b → b ≡ false
    test false f = refl
    test true f =
        let same : uid ≡ other = eqb-true uid other f in
        absurd (never (has (uid_number other)) (ap (λ n. has (uid_number n)) (sym same) ∙ there) missed)

-- no atom with a number that the user lacks is an alias, or fits the user
pub lacked-user_atom : (has : ℕ → Bool) (u : Person) (a : Atom) → lacks_user has u ≡ true → has (atom_number a) ≡ true →
    (alias_named a ≡ None) × (user_fits a u ≡ false)
unfolding atom_number user_fits
lacked-user_atom has u (atom.Name name) e there = (refl, named-other has name u.name (lacks-parts has u e).1.0 there)
lacked-user_atom has u (atom.Uid uid) e there = (refl, id_other has uid u.uid (lacks-parts has u e).1.1.0 there)
lacked-user_atom has u (atom.Group name) e there = (refl, named-none has name u.groups (lacks-parts has u e).1.1.1 there)
lacked-user_atom has u (atom.Gid gid) e there = (refl, id_none has gid u.groups (lacks-parts has u e).1.1.1 there)
lacked-user_atom has u (atom.Command path args) e there = (refl, refl)
lacked-user_atom has u _ e there = absurd (never (has 0) there (lacks-parts has u e).0)

pub lacks-group : (has : ℕ → Bool) (left rest : List Group) (g : Group) → left ≡ g ∷ rest
    → has (group_number g.name) ≡ false → has (gid_number g.gid) ≡ false →
    list_all (lacks_group has) rest ≡ true → list_all (lacks_group has) left ≡ true
lacks-group has left rest g is e f h =
    ap (list_all (lacks_group has)) is
    ∙ and_from (lacks_group has g) (list_all (lacks_group has) rest) (and_from (not (has (group_number g.name)))
    (not (has (gid_number g.gid))) (ap not e) (ap not f)) h

pub lacks-no_groups : (has : ℕ → Bool) (left : List Group) → length left ≡ 0 → list_all (lacks_group has) left ≡ true
lacks-no_groups has [] e = refl
lacks-no_groups has (g ∷ gs) e = cc

pub lacks-user : (has : ℕ → Bool) (u : Person) → has 0 ≡ false → has (user_number u.name) ≡ false → has (uid_number u.uid) ≡ false →
    list_all (lacks_group has) u.groups ≡ true → lacks_user has u ≡ true
unfolding lacks_user
lacks-user has u e f g h =
    and_from (not (has 0)) _ (ap not e)
    (and_from (not (has (user_number u.name))) _ (ap not f) (and_from (not (has (uid_number u.uid)))
    (list_all (lacks_group has) u.groups) (ap not g) h))

-- ---- What lacks more numbers lacks fewer

pub fewer : (a b : Bool) → (a ≡ true → b ≡ true) → not b ≡ true → not a ≡ true
fewer true b h e = absurd (never b (h refl) e)
fewer false b h e = refl

module _ (has more : ℕ → Bool) (all : (n : ℕ) → has n ≡ true → more n ≡ true) where
  groups-fewer : (gs : List Group) → list_all (lacks_group more) gs ≡ true → list_all (lacks_group has) gs ≡ true
  groups-fewer [] e = refl
  groups-fewer (g ∷ gs) e =
      let here = and_parts (lacks_group more g) (list_all (lacks_group more) gs) e in
      let two = and_parts (not (more (group_number g.name))) (not (more (gid_number g.gid))) here.0 in
      and_from (lacks_group has g) (list_all (lacks_group has) gs)
      (and_from (not (has (group_number g.name))) (not (has (gid_number g.gid)))
      (fewer (has (group_number g.name)) (more (group_number g.name)) (all (group_number g.name)) two.0)
      (fewer (has (gid_number g.gid)) (more (gid_number g.gid)) (all (gid_number g.gid)) two.1))
      (groups-fewer gs here.1)

  pub user-fewer : (u : Person) → lacks_user more u ≡ true → lacks_user has u ≡ true
  unfolding lacks_user
  user-fewer u e =
      let parts = lacks-parts more u e in
      and_from (not (has 0)) _ (fewer (has 0) (more 0) (all 0) parts.0)
      (and_from (not (has (user_number u.name))) _ (fewer (has (user_number u.name)) (more (user_number u.name))
      (all (user_number u.name)) parts.1.0)
      (and_from (not (has (uid_number u.uid))) (list_all (lacks_group has) u.groups)
      (fewer (has (uid_number u.uid)) (more (uid_number u.uid)) (all (uid_number u.uid)) parts.1.1.0)
      (groups-fewer u.groups parts.1.1.1)))

-- a number that each user has
pub user-has : (has : ℕ → Bool) (u : Person) → lacks_user has u ≡ true → has 0 ≡ true → ⊥
user-has has u e there = never (has 0) there (lacks-parts has u e).0
