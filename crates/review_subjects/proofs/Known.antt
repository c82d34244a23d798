-- The users, the host and the group of a request whose names are known.
use Rattle.std.proofs.Common.{◌≡◌, ℕ, Bool, true, false, cond, ◌||◌, List, [], ◌∷◌, Option, Some, None, Ok, refl, sym, ◌∙◌, ap, subst}
use Rattle.std.specs.Prelude.{find, flat_map, option_map, codes}
use Rattle.std.specs.List.{list_any}
use Rattle.std.proofs.lemmas.Bool.{false≢true}
use Rattle.std.proofs.lemmas.List.Folds.{list_any-append}
use Rattle.sudo_match.specs.declared.people.Person.{Person}
use Rattle.sudo_match.specs.declared.people.Group.{Group}
use Rattle.sudo_match.specs.declared.people.Machine.{Machine}
use Rattle.sudo_match.specs.declared.request.Request.{Request}
use Rattle.sudo_match.specs.KnownRows.{KnownRows, user_named, host_named, group_named, groups_of}
use Rattle.sudo_verdict.specs.Questions.{Question, question_of, looked_up, target_of, with_group, with_target, with_host, with_user}

-- what no item of the list is, x is not
abbrev pub IsOf : {X : Type 0} → X → List X → Type 0
IsOf {X} x xs = (f : X → Bool) → list_any f xs ≡ false → f x ≡ false

pub or_parts : (a b : Bool) → (a || b) ≡ false → (a ≡ false) × (b ≡ false)
or_parts false false h = (refl, refl)
or_parts true b h = absurd (false≢true (sym h))
or_parts false true h = absurd (false≢true (sym h))

pub found_is_of : {X : Type 0} (test : X → Bool) (xs : List X) (x : X) → find test xs ≡ Some x → IsOf x xs
found_is_of test [] x h f none = cc
found_is_of test (y ∷ ys) x h f none =
    let k = or_parts (f y) (list_any f ys) none in
    go (test y) k.0 (λ e. found_is_of test ys x e f k.1) h
  where
    go : (b : Bool) → f y ≡ false → (find test ys ≡ Some x → f x ≡ false) → cond b (Some y) (find test ys) ≡ Some x → f x ≡ false
    go true here rest e = let same : y ≡ x = cc in subst (λ z. f z ≡ false) same here
    go false here rest e = rest e

pub any_flat : {X Y : Type 0} (f : Y → Bool) (g : X → List Y) (xs : List X)
    → list_any f (flat_map g xs) ≡ list_any (λ x. list_any f (g x)) xs
any_flat f g [] = refl
any_flat f g (x ∷ xs) = list_any-append f (g x) (flat_map g xs) ∙ ap (λ b. list_any f (g x) || b) (any_flat f g xs)

-- the user, the host, the target and the group of a question are known
pub record Knows (d : KnownRows) (q : Question) : Type 0 where
  pub user : IsOf q.user d.people
  pub host : IsOf q.host d.machines
  pub target : (t : Person) → q.target ≡ Some t → IsOf t d.people
  pub group : (g : Group) → q.group ≡ Some g → IsOf g (groups_of d.people)

-- ---- Names that are looked up

looked : {X : Type 0} (named : List ℕ → Option X) (name : Option (List ℕ)) (o : Option X) (x : X)
    → looked_up named name ≡ Some o → o ≡ Some x → (n : List ℕ) × (named n ≡ Some x)
looked named None o x h e = cc
looked named (Some n) o x h e = (n, go (named n) h)
  where
    go : (r : Option _) → option_map (λ y. Some y) r ≡ Some o → r ≡ Some x
    go None k = cc
    go (Some y) k = cc

user_is_of : (d : KnownRows) (n : List ℕ) (u : Person) → user_named d n ≡ Some u → IsOf u d.people
unfolding user_named
user_is_of d n u h = found_is_of _ d.people u h

host_is_of : (d : KnownRows) (n : List ℕ) (m : Machine) → host_named d n ≡ Some m → IsOf m d.machines
unfolding host_named
host_is_of d n m h = found_is_of _ d.machines m h

group_is_of : (d : KnownRows) (n : List ℕ) (g : Group) → group_named d n ≡ Some g → IsOf g (groups_of d.people)
unfolding group_named
group_is_of d n g h = found_is_of _ (groups_of d.people) g h

target_is_of : (d : KnownRows) (u : Person) (t : Option Person) (g : Option Group) → IsOf u d.people
    → ((x : Person) → t ≡ Some x → IsOf x d.people) → (x : Person) → target_of d u t g ≡ Some x → IsOf x d.people
target_is_of d u (Some y) g user asked x h = asked x h
target_is_of d u None (Some g) user asked x h = let same : u ≡ x = cc in subst (λ z. IsOf z d.people) same user
target_is_of d u None None user asked x h = user_is_of d (codes "root") x h

group_step : (d : KnownRows) (r : Request) (u : Person) (m : Machine) (t : Option Person) (o : Option (Option Group)) (q : Question)
    → looked_up (group_named d) r.runas_group ≡ o → IsOf u d.people → IsOf m d.machines
    → ((x : Person) → t ≡ Some x → IsOf x d.people) → with_group d r u m t o ≡ Ok q → Knows d q
group_step d r u m t None q is user host asked h = cc
group_step d r u m t (Some g) q is user host asked h =
    let made : Question = record {
      user = u;
      host = m;
      asked = t;
      group = g;
      target = target_of d u t g;
      command = r.command;
      arguments = r.arguments;
    } in
    let same : made ≡ q = cc in
    subst (Knows d) same (record {
      user = user;
      host = host;
      target = target_is_of d u t g user asked;
      group = λ x e. let k = looked (group_named d) r.runas_group g x is e in group_is_of d k.0 x k.1;
    })

target_step : (d : KnownRows) (r : Request) (u : Person) (m : Machine) (o : Option (Option Person)) (q : Question)
    → looked_up (user_named d) r.runas_user ≡ o → IsOf u d.people → IsOf m d.machines
    → with_target d r u m o ≡ Ok q → Knows d q
target_step d r u m None q is user host h = cc
target_step d r u m (Some t) q is user host h =
    group_step d r u m t (looked_up (group_named d) r.runas_group) q refl user host
    (λ x e. let k = looked (user_named d) r.runas_user t x is e in user_is_of d k.0 x k.1) h

host_step : (d : KnownRows) (r : Request) (u : Person) (o : Option Machine) (q : Question)
    → host_named d r.host ≡ o → IsOf u d.people → with_host d r u o ≡ Ok q → Knows d q
host_step d r u None q is user h = cc
host_step d r u (Some m) q is user h =
    target_step d r u m (looked_up (user_named d) r.runas_user) q refl user (host_is_of d r.host m is) h

user_step : (d : KnownRows) (r : Request) (o : Option Person) (q : Question)
    → user_named d r.user ≡ o → with_user d r o ≡ Ok q → Knows d q
user_step d r None q is h = cc
user_step d r (Some u) q is h = host_step d r u (host_named d r.host) q refl (user_is_of d r.user u is) h

pub question_knows : (d : KnownRows) (r : Request) (q : Question) → question_of d r ≡ Ok q → Knows d q
unfolding question_of
question_knows d r q h = user_step d r (user_named d r.user) q refl h
