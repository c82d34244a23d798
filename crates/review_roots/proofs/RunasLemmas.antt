-- Runas with lists that are alike allow the same.
use Rattle.std.proofs.Common.{◌≡◌, ◌∙◌, Bool, ◌&&◌, List, Option, Some, None, ap, refl}
use Rattle.std.specs.Prelude.{is_some, not, option_map, unwrap_or}
use Rattle.sudo_grammar.specs.declared.kind.Atom.{Atom}
use Rattle.sudo_grammar.specs.declared.kind.Kind.{Kind}
use Rattle.sudo_grammar.specs.declared.kind.Kind.TheVariants as kind
use Rattle.sudo_grammar.specs.declared.kind.Member.{Member}
use Rattle.sudo_grammar.specs.declared.kind.Signed.{Signed}
use Rattle.sudo_grammar.specs.declared.policy.Policy.{Policy}
use Rattle.sudo_grammar.specs.declared.policy.Runas.{Runas}
use Rattle.sudo_match.specs.Matching.{group_fits, user_fits}
use Rattle.sudo_match.specs.declared.people.Group.{Group}
use Rattle.sudo_match.specs.declared.people.Person.{Person}
use Rattle.sudo_verdict.specs.Last.{last_that}
use Rattle.sudo_verdict.specs.Questions.{Question}
use Rattle.sudo_verdict.specs.RunasForms.{form_allows, group_allowed, has_asked, has_group, is_own, is_same_user, runas_allows}
use Rattle.sudo_verdict.specs.RunasForms.{target_value, users_allow, users_and_groups_allow}
use Rattle.sudo_verdict.specs.Values.{allows, value}
use Rattle.review_roots.specs.Body.Alike.{AllowAlike, AreAlike, AreAlikeOrNone}

value-alike : (k : Kind) (p : Policy) (ms ns : List Member) (fits : Atom → Bool) → AreAlike ms ns → value k p ms fits ≡ value k p ns fits
unfolding value
value-alike k p ms ns fits alike =
    ap (λ (ws : List Signed). option_map (λ s. not s.negated) (last_that (λ s. fits s.atom) ws)) (alike k p)

group-alike : (p : Policy) (gs hs : List Member) (u : Person) (g : Option Group) → AreAlike gs hs
    → group_allowed p gs u g ≡ group_allowed p hs u g
group-alike p gs hs u None alike = refl
group-alike p gs hs u (Some g) alike =
    ap (λ v. unwrap_or v (has_group u g)) (value-alike kind.Runas p gs hs (λ a. group_fits a g) alike)

target-alike : (p : Policy) (us vs : List Member) (t : Person) → AreAlike us vs → target_value p us t ≡ target_value p vs t
target-alike p us vs t alike = value-alike kind.Runas p us vs (λ a. user_fits a t) alike

module _ (p : Policy) (q : Question) where
  users-alike : (us vs : List Member) (o : Option Person) → AreAlike us vs → users_allow p q us o ≡ users_allow p q vs o
  users-alike us vs None alike = refl
  users-alike us vs (Some t) alike = ap (λ v. allows v && has_asked t q.group) (target-alike p us vs t alike)

  both-alike : (us vs gs hs : List Member) (o : Option Person) → AreAlike us vs → AreAlike gs hs
      → users_and_groups_allow p q us gs o ≡ users_and_groups_allow p q vs hs o
  both-alike us vs gs hs None users groups = refl
  both-alike us vs gs hs (Some t) users groups =
      ap (λ v. unwrap_or v (is_some q.group && is_same_user t q.user) && group_allowed p gs t q.group) (target-alike p us vs t users)
      ∙ ap (λ b. unwrap_or (target_value p vs t) (is_some q.group && is_same_user t q.user) && b) (group-alike p gs hs t q.group groups)

  form-alike : (us vs gs hs : Option (List Member)) → AreAlikeOrNone us vs → AreAlikeOrNone gs hs
      → form_allows p q us gs ≡ form_allows p q vs hs
  unfolding form_allows
  form-alike (Some us) (Some vs) (Some gs) (Some hs) users groups = both-alike us vs gs hs q.target users groups
  form-alike (Some us) (Some vs) None None users groups = users-alike us vs q.target users
  form-alike None None (Some gs) (Some hs) users groups =
      ap (λ b. is_own q.user q.asked && b) (group-alike p gs hs q.user q.group groups)
  form-alike None None None None users groups = refl
  form-alike (Some us) None gs hs users groups = absurd users
  form-alike None (Some vs) gs hs users groups = absurd users
  form-alike (Some us) (Some vs) (Some gs) None users groups = absurd groups
  form-alike (Some us) (Some vs) None (Some hs) users groups = absurd groups
  form-alike None None (Some gs) None users groups = absurd groups
  form-alike None None None (Some hs) users groups = absurd groups

pub runas-alike : (r s : Runas) → AreAlikeOrNone r.users s.users → AreAlikeOrNone r.groups s.groups → AllowAlike (Some r) (Some s)
unfolding runas_allows
runas-alike r s users groups p q = form-alike p q r.users s.users r.groups s.groups users groups
