-- A name that is looked up is known.
use Rattle.std.proofs.Common.{◌≡◌, ℕ, Bool, true, false, cond, ◌||◌, List, [], ◌∷◌, Some, refl, ◌∙◌, ap}
use Rattle.std.specs.Prelude.{find, is_some, bytes_eq}
use Rattle.std.specs.List.{list_any}
use Rattle.sudo_base.proofs.IndexLemmas.{bytes_eq-swap}
use Rattle.sudo_grammar.specs.declared.kind.Atom.TheVariants as atoms
use Rattle.sudo_match.specs.declared.people.Group.{Group}
use Rattle.sudo_match.specs.declared.people.Person.{Person}
use Rattle.sudo_match.specs.KnownRows.{KnownRows, user_named, group_named, groups_of}
use Rattle.sudo_match.specs.Matching.{user_fits, group_fits}
use Rattle.review_subjects.specs.Unknown.{fits_own_group}
use Rattle.review_subjects.proofs.Known.{any_flat}

find_any : {X : Type 0} (f : X → Bool) (xs : List X) → is_some (find f xs) ≡ list_any f xs
find_any f [] = refl
find_any f (x ∷ xs) = go (f x) (find_any f xs)
  where
    go : (b : Bool) → is_some (find f xs) ≡ list_any f xs → is_some (cond b (Some x) (find f xs)) ≡ (b || list_any f xs)
    go true e = refl
    go false e = e

any_same : {X : Type 0} (f g : X → Bool) → ((x : X) → f x ≡ g x) → (xs : List X) → list_any f xs ≡ list_any g xs
any_same f g e [] = refl
any_same f g e (x ∷ xs) = ap (λ b. b || list_any f xs) (e x) ∙ ap (λ b. g x || b) (any_same f g e xs)

pub name_is_known : (d : KnownRows) (name : List ℕ) → is_some (user_named d name) ≡ list_any (user_fits (atoms.Name name)) d.people
unfolding user_named user_fits
name_is_known d name =
    find_any (λ (u : Person). bytes_eq u.name name) d.people
    ∙ any_same (λ (u : Person). bytes_eq u.name name) (λ (u : Person). bytes_eq name u.name) (λ u. bytes_eq-swap u.name name) d.people

known_group : (d : KnownRows) (name : List ℕ) → is_some (group_named d name)
    ≡ list_any (λ (u : Person). list_any (λ (g : Group). bytes_eq g.name name) u.groups) d.people
unfolding group_named
known_group d name =
    find_any (λ (g : Group). bytes_eq g.name name) (groups_of d.people)
    ∙ any_flat (λ (g : Group). bytes_eq g.name name) (λ (u : Person). u.groups) d.people

pub group_has_users : (d : KnownRows) (name : List ℕ) → is_some (group_named d name) ≡ list_any (user_fits (atoms.Group name)) d.people
unfolding user_fits
group_has_users d name = known_group d name

swapped : (name : List ℕ) (u : Person) → list_any (λ (g : Group). bytes_eq g.name name) u.groups
    ≡ list_any (λ (g : Group). bytes_eq name g.name) u.groups
swapped name u =
    any_same (λ (g : Group). bytes_eq g.name name) (λ (g : Group). bytes_eq name g.name) (λ g. bytes_eq-swap g.name name) u.groups

pub group_is_known : (d : KnownRows) (name : List ℕ) → is_some (group_named d name) ≡ list_any (fits_own_group (atoms.Group name)) d.people
unfolding group_fits
group_is_known d name =
    known_group d name
    ∙ any_same (λ (u : Person). list_any (λ (g : Group). bytes_eq g.name name) u.groups)
    (λ (u : Person). list_any (λ (g : Group). bytes_eq name g.name) u.groups) (swapped name) d.people

pub plain_group_is_known : (d : KnownRows) (name : List ℕ)
    → is_some (group_named d name) ≡ list_any (fits_own_group (atoms.Name name)) d.people
unfolding group_fits
plain_group_is_known d name =
    known_group d name
    ∙ any_same (λ (u : Person). list_any (λ (g : Group). bytes_eq g.name name) u.groups)
    (λ (u : Person). list_any (λ (g : Group). bytes_eq name g.name) u.groups) (swapped name) d.people
