-- What is known of the blocks that allow a user as they do without an added group.
use Rattle.std.proofs.Common.{◌≡◌, ◌∙◌, ℕ, Bool, List, [], ◌∷◌, Option, Some, None, ap, false, refl, subst, sym}
use Rattle.std.specs.Prelude.{All, bytes_eq, slice_get}
use Rattle.std.proofs.lemmas.List.Elements.{All-weaker}
use Rattle.sudo_grammar.specs.declared.policy.Policy.{Policy}
use Rattle.sudo_match.specs.declared.people.Group.{Group}
use Rattle.sudo_match.specs.declared.people.Machine.{Machine}
use Rattle.sudo_match.specs.declared.people.Person.{Person}
use Rattle.sudo_match.specs.KnownRows.{KnownRows}
use Rattle.sudo_verdict.specs.RunasForms.{is_same_user}
use Rattle.review_roots.specs.declared.block.Block.{Block}
use Rattle.review_roots.specs.declared.host.HostSteps.{HostSteps}
use Rattle.review_roots.specs.declared.layer.Aimed.{Aimed}
use Rattle.review_roots.specs.declared.state.State.{State}
use Rattle.review_roots.specs.declared.toward.Toward.{Toward}
use Rattle.review_roots.specs.Body.Found.{IsAimed, IsTowardOf, any_toward}
use Rattle.review_roots.specs.Body.Towards.{AgreeAlone, AllowAlone, AllowOf}

-- a user of another name
another : (v : Person) → (u : Person) × (is_same_user v u ≡ false)
another v = go v.name refl
  where
    named : List ℕ → Person
    named n = record { name = n; uid = 0; groups = [] }

    go : (n : List ℕ) → v.name ≡ n → (u : Person) × (is_same_user v u ≡ false)
    go [] is = (named (0 ∷ []), ap (λ n. bytes_eq n (0 ∷ [])) is)
    go (x ∷ xs) is = (named [], ap (λ n. bytes_eq n []) is)

-- two lists of the blocks that allow a user and a group are the same
lists-agree :
    (p : Policy) (d : KnownRows) (bs : List Block) (o : Option Person) (g : Option Group) (m : Machine) (xs ys : List Bool) →
    AllowOf p d bs o g xs → AllowOf p d bs o g ys → xs ≡ ys
lists-agree p d bs o g m xs ys one other = go o refl
  where
    go : (q : Option Person) → o ≡ q → xs ≡ ys
    go None is = one.1 is ∙ sym (other.1 is)
    go (Some v) is = let u = another v in one.0 v is u.0 m u.1 ∙ sym (other.0 v is u.0 m u.1)

agree-alone :
    (h : HostSteps) (s t : State) (a b : Toward) → IsTowardOf h s a → IsTowardOf h t b → s.user ≡ t.user → AgreeAlone a b
agree-alone h s t a b to-s to-t same = λ one other.
    lists-agree h.checked.now h.directory.now h.blocks.now (slice_get h.directory.now.people t.user) None h.host.now a.allowed.items
    b.allowed.items
    (subst (λ i. AllowAlone h.checked.now h.directory.now h.blocks.now i a.allowed.items)
    (ap (λ (s : State). s.user) to-s.0 ∙ same) (to-s.1.alone one))
    (subst (λ i. AllowAlone h.checked.now h.directory.now h.blocks.now i b.allowed.items)
    (ap (λ (s : State). s.user) to-t.0) (to-t.1.alone other))

-- the same of each aim
pub agree-all :
    (h : HostSteps) (aims : List Aimed) (s : State) (t u : Toward) (xs : List Aimed) → IsTowardOf h s u → t ≡ u → xs ≡ aims →
    All (IsAimed h) aims → All (λ a. a.aim.state.user ≡ s.user → AgreeAlone (any_toward a.toward) t) xs
agree-all h aims s t u xs to same are aimed =
    subst (All (λ (a : Aimed). a.aim.state.user ≡ s.user → AgreeAlone (any_toward a.toward) t)) (sym are)
    (All-weaker (IsAimed h) (λ (a : Aimed). a.aim.state.user ≡ s.user → AgreeAlone (any_toward a.toward) t)
    (λ a is user. agree-alone h a.aim.state s (any_toward a.toward) t is.toward (subst (IsTowardOf h s) (sym same) to) user) aims aimed)
