-- The runas of a row does not read the command, and ALL matches every command. The last row for the target that fits decides.
use Rattle.std.proofs.Common.{◌≡◌, ◌∙◌, ℕ, Bool, true, ◌&&◌, List, Option, Some, None, ap, refl}
use Rattle.sudo_grammar.specs.declared.kind.Atom.{Atom}
use Rattle.sudo_grammar.specs.declared.kind.Atom.TheVariants as atom
use Rattle.sudo_grammar.specs.declared.kind.Member.{Member}
use Rattle.sudo_grammar.specs.declared.policy.Policy.{Policy}
use Rattle.sudo_grammar.specs.declared.policy.Runas.{Runas}
use Rattle.sudo_match.specs.declared.people.Person.{Person}
use Rattle.sudo_match.specs.Matching.{command_fits}
use Rattle.sudo_verdict.specs.Last.{last_that}
use Rattle.sudo_verdict.specs.Values.{is_all}
use Rattle.sudo_verdict.specs.RunasForms.{root_allowed, users_allow, users_and_groups_allow, form_allows, runas_allows}
use Rattle.sudo_verdict.specs.Questions.{Question}
use Rattle.sudo_verdict.specs.Grants.{Grant}
use Rattle.sudo_verdict.specs.Verdicts.{verdict_if_any, verdict_on}
use Rattle.review_grants.specs.Rows.{rows, row_applies}
use Rattle.review_grants.specs.Targets.{target_rows, with_command, VerdictIsWhere}
use Rattle.review_grants.proofs.RowLemmas.{last_that-filter, last_row}

root_same : (q : Question) (c x : List ℕ) (t : Option Person) → root_allowed (with_command q c x) t ≡ root_allowed q t
root_same q c x None = refl
root_same q c x (Some t) = refl

users_same : (p : Policy) (q : Question) (c x : List ℕ) (us : List Member) (t : Option Person) → users_allow p (with_command q c x) us t
    ≡ users_allow p q us t
users_same p q c x us None = refl
users_same p q c x us (Some t) = refl

both_same :
    (p : Policy) (q : Question) (c x : List ℕ) (us gs : List Member) (t : Option Person) →
    users_and_groups_allow p (with_command q c x) us gs t ≡ users_and_groups_allow p q us gs t
both_same p q c x us gs None = refl
both_same p q c x us gs (Some t) = refl

form_same :
    (p : Policy) (q : Question) (c x : List ℕ) (a b : Option (List Member)) → form_allows p (with_command q c x) a b ≡ form_allows p q a b
unfolding form_allows
form_same p q c x (Some us) (Some gs) = both_same p q c x us gs q.target
form_same p q c x (Some us) None = users_same p q c x us q.target
form_same p q c x None (Some gs) = refl
form_same p q c x None None = refl

pub runas_same : (p : Policy) (q : Question) (c x : List ℕ) (r : Option Runas) → runas_allows p (with_command q c x) r ≡ runas_allows p q r
unfolding runas_allows
runas_same p q c x None = root_same q c x q.target
runas_same p q c x (Some r) = form_same p q c x r.users r.groups

pub all_matches : (c x : List ℕ) (a : Atom) → is_all a ≡ true → command_fits a c x ≡ true
unfolding command_fits
all_matches c x atom.All e = refl
all_matches c x _ e = cc

abbrev pub fitting : List ℕ → List ℕ → Grant → Bool
fitting c x g = command_fits g.atom c x

pub target_decides :
    (p : Policy) (q : Question) (c x : List ℕ) → verdict_on p (with_command q c x)
    ≡ verdict_if_any (last_that (fitting c x) (target_rows p q))
target_decides p q c x =
    last_row p (with_command q c x)
    ∙ ap verdict_if_any
    (last_that-filter (row_applies p (with_command q c x)) (λ g. runas_allows p q g.runas) (fitting c x)
    (λ g. ap (λ b. b && command_fits g.atom c x) (runas_same p q c x g.runas))
    (rows p q.user q.host))

pub verdict_is_where : VerdictIsWhere
unfolding verdict_on
verdict_is_where p q = (record { only = λ g does. does; unnoted = λ g none does. does }, refl)
