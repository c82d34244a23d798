-- No grant of a rule that reaches nobody applies to a request whose names are known.
use Rattle.std.proofs.Common.{◌≡◌, ◌<◌, ◌≤◌, ◌⊎◌, inl, inr, length, ℕ, zero, suc, ◌+◌, Bool, true, false, ◌&&◌, ◌||◌, ◌==◌}
use Rattle.std.proofs.Common.{List, [], ◌∷◌, map, take, Option, Some, None, refl, sym, ◌∙◌, ap, arith}
use Rattle.std.specs.Prelude.{flat_map, unwrap_or, is_some}
use Rattle.std.specs.Option.{option_or}
use Rattle.std.specs.List.{list_any, enumerate_from}
use Rattle.std.proofs.lemmas.Bool.{false≢true}
use Rattle.std.proofs.lemmas.List.Folds.{list_any-append}
use Rattle.sudo_text.specs.declared.line.Place.{Place}
use Rattle.sudo_grammar.specs.declared.kind.Kind.TheVariants as kinds
use Rattle.sudo_grammar.specs.declared.kind.Member.{Member}
use Rattle.sudo_grammar.specs.declared.kind.Signed.{Signed}
use Rattle.sudo_grammar.specs.declared.policy.CommandSpec.{CommandSpec}
use Rattle.sudo_grammar.specs.declared.policy.Policy.{Policy}
use Rattle.sudo_grammar.specs.declared.policy.Runas.{Runas}
use Rattle.sudo_grammar.specs.declared.policy.Section.{Section}
use Rattle.sudo_match.specs.declared.people.Group.{Group}
use Rattle.sudo_match.specs.declared.people.Person.{Person}
use Rattle.sudo_match.specs.KnownRows.{KnownRows, directory_fault, groups_of}
use Rattle.sudo_match.specs.Matching.{command_fits}
use Rattle.sudo_policy.specs.Written.{written_form}
use Rattle.sudo_verdict.specs.Last.{last_set}
use Rattle.sudo_verdict.specs.Tagged.{runas_before, runas_at}
use Rattle.sudo_verdict.specs.Values.{allows, user_allowed, host_allowed}
use Rattle.sudo_verdict.specs.Questions.{Question}
use Rattle.sudo_verdict.specs.RunasForms.{runas_allows, form_allows, users_allow, users_and_groups_allow, group_allowed}
use Rattle.sudo_verdict.specs.RunasForms.{has_group, has_asked, is_same_user}
use Rattle.sudo_verdict.specs.Grants.{grant_of, place_grants, section_grants, applies}
use Rattle.sudo_verdict.proofs.Lasts.{option_or-assoc}
use Rattle.review_subjects.specs.Reach.{user_value, group_value, allows_user, allows_group, spares_own_group, pair_reaches}
use Rattle.review_subjects.specs.Reach.{runas_reaches, own_reaches, commands_reach, section_reaches, rule_reaches, form_reaches}
use Rattle.review_subjects.specs.Idle.{IdleRulesNeverApply}
use Rattle.review_subjects.proofs.Known.{IsOf, Knows, question_knows, or_parts, any_flat}
use Rattle.review_subjects.proofs.Groups.{one_group}

-- ---- A runas

module _ (p : Policy) (d : KnownRows) (none : directory_fault d.people d.machines ≡ None) (q : Question) (knows : Knows d q) where
  -- a group of a known user is known
  own_is_of : (t : Person) → IsOf t d.people → (h : Group) → IsOf h t.groups → IsOf h (groups_of d.people)
  own_is_of t of_t h of_h f free =
      of_h f (of_t (λ u. list_any f u.groups) (sym (any_flat f (λ (u : Person). u.groups) d.people) ∙ free))

  -- of a user whose own groups all have the value minus, no group has the ID of one with another value
  has_none : (groups : List Member) (t : Person) → IsOf t d.people → (g : Group) → IsOf g (groups_of d.people)
      → unwrap_or (group_value p groups g) true ≡ true → spares_own_group p groups t ≡ false → has_group t g ≡ false
  has_none groups t of_t g of_g spared free = go t.groups (λ h of_h. own_is_of t of_t h of_h) free
    where
      one : (h : Group) → IsOf h (groups_of d.people) → unwrap_or (group_value p groups h) true ≡ false
          → (b : Bool) → (h.gid == g.gid) ≡ b → b ≡ false
      one h of_h denied true e =
          let same : h ≡ g = one_group d.people d.machines none g h of_g of_h e in
          absurd (false≢true (sym denied ∙ ap (λ x. unwrap_or (group_value p groups x) true) same ∙ spared))
      one h of_h denied false e = refl

      go : (hs : List Group) → ((h : Group) → IsOf h hs → IsOf h (groups_of d.people))
          → list_any (λ h. unwrap_or (group_value p groups h) true) hs ≡ false → list_any (λ h. h.gid == g.gid) hs ≡ false
      go [] known k = refl
      go (h ∷ hs) known k =
          let parts = or_parts (unwrap_or (group_value p groups h) true) (list_any (λ x. unwrap_or (group_value p groups x) true) hs) k in
          let of_h : IsOf h (groups_of d.people) = known h (λ f free. (or_parts (f h) (list_any f hs) free).0) in
          let here : (h.gid == g.gid) ≡ false = one h of_h parts.0 (h.gid == g.gid) refl in
          let more : list_any (λ x. x.gid == g.gid) hs ≡ false =
          go hs (λ x of_x. known x (λ f free. of_x f (or_parts (f h) (list_any f hs) free).1)) parts.1 in
          ap (λ b. b || list_any (λ (x : Group). x.gid == g.gid) hs) here ∙ more

  -- `(users)`
  users_refuse : (users : List Member) (o : Option Person) → q.target ≡ o → allows_user p users d.people ≡ false
      → users_allow p q users o ≡ false
  users_refuse users None is free = refl
  users_refuse users (Some t) is free =
      let here : allows (user_value p users t) ≡ false = knows.target t is (λ u. allows (user_value p users u)) free in
      ap (λ b. b && has_asked t q.group) here

  -- a list of groups that allows no known group, and denies the own groups of a user
  group_refused : (groups : List Member) (t : Person) → IsOf t d.people → (o : Option Group) → q.group ≡ o
      → allows_group p groups d.people ≡ false → spares_own_group p groups t ≡ false
      → ((is_some o && is_same_user t q.user) && group_allowed p groups t o) ≡ false
  group_refused groups t of_t None is free spared = refl
  group_refused groups t of_t (Some g) is free spared =
      let of_g = knows.group g is in
      let plus : allows (group_value p groups g) ≡ false =
      of_g (λ x. allows (group_value p groups x))
      (any_flat (λ x. allows (group_value p groups x)) (λ (u : Person). u.groups) d.people ∙ free) in
      last (is_same_user t q.user) (go (group_value p groups g) plus (λ e. has_none groups t of_t g of_g e spared))
    where
      go : (v : Option Bool) → allows v ≡ false → (unwrap_or v true ≡ true → has_group t g ≡ false) → unwrap_or v (has_group t g) ≡ false
      go None plus h = h refl
      go (Some b) plus h = plus

      last : (b : Bool) {c : Bool} → c ≡ false → (b && c) ≡ false
      last true e = e
      last false e = refl

  -- `(users:groups)`
  pair_refuses : (users groups : List Member) (o : Option Person) → q.target ≡ o
      → list_any (pair_reaches p users groups (allows_group p groups d.people)) d.people ≡ false
      → users_and_groups_allow p q users groups o ≡ false
  pair_refuses users groups None is free = refl
  pair_refuses users groups (Some t) is free =
      let of_t = knows.target t is in
      go (user_value p users t) (of_t (pair_reaches p users groups (allows_group p groups d.people)) free)
    where
      go : (v : Option Bool) → unwrap_or v (allows_group p groups d.people || spares_own_group p groups t) ≡ false
          → (unwrap_or v (is_some q.group && is_same_user t q.user) && group_allowed p groups t q.group) ≡ false
      go None h =
          let parts = or_parts (allows_group p groups d.people) (spares_own_group p groups t) h in
          group_refused groups t (knows.target t is) q.group refl parts.0 parts.1
      go (Some b) h = ap (λ c. c && group_allowed p groups t q.group) h

  pub runas_refuses : (r : Runas) → runas_reaches p d.people r ≡ false → runas_allows p q (Some r) ≡ false
  unfolding runas_allows form_allows
  runas_refuses r h = go r.users r.groups h
    where
      go : (users groups : Option (List Member)) → form_reaches p d.people users groups ≡ false → form_allows p q users groups ≡ false
      go None groups h = absurd (false≢true (sym h))
      go (Some users) None h = users_refuse users q.target refl h
      go (Some users) (Some groups) h = pair_refuses users groups q.target refl h

  -- ---- The commands of a section

  -- what is named at the first commands, or else before, refuses
  named_refuses : (cs : List CommandSpec) (i : ℕ) (before : Option Runas) → runas_allows p q before ≡ false
      → list_any (λ (c : CommandSpec). own_reaches p d.people false c.runas) cs ≡ false
      → runas_allows p q (option_or (last_set (map (λ (c : CommandSpec). c.runas) (take i cs))) before) ≡ false
  named_refuses [] zero before refused h = refused
  named_refuses [] (suc i) before refused h = refused
  named_refuses (c ∷ cs) zero before refused h = refused
  named_refuses (c ∷ cs) (suc i) before refused h =
      let parts = or_parts (own_reaches p d.people false c.runas)
      (list_any (λ (x : CommandSpec). own_reaches p d.people false x.runas) cs) h in
      ap (runas_allows p q) (option_or-assoc (last_set (map (λ (x : CommandSpec). x.runas) (take i cs))) c.runas before)
      ∙ named_refuses cs i (option_or c.runas before) (go c.runas parts.0) parts.1
    where
      go : (o : Option Runas) → own_reaches p d.people false o ≡ false → runas_allows p q (option_or o before) ≡ false
      go None k = refused
      go (Some r) k = runas_refuses r k

  first_refuses : (o : Option Runas) → own_reaches p d.people true o ≡ false → runas_allows p q o ≡ false
  first_refuses None k = absurd (false≢true (sym k))
  first_refuses (Some r) k = runas_refuses r k

  -- no command of the section can be run
  at_refuses : (cs : List CommandSpec) (i : ℕ) → commands_reach p d.people cs ≡ false → i < length cs
      → runas_allows p q (runas_at cs i) ≡ false
  unfolding runas_at runas_before
  at_refuses [] i h within = absurd (omega (arith, within))
  at_refuses (c ∷ cs) i h within =
      let parts = or_parts (own_reaches p d.people true c.runas)
      (list_any (λ (x : CommandSpec). own_reaches p d.people false x.runas) cs) h in
      let e : i + 1 ≡ suc i = omega arith in
      ap (λ n. runas_allows p q (last_set (map (λ (x : CommandSpec). x.runas) (take n (c ∷ cs))))) e
      ∙ named_refuses cs i c.runas (first_refuses c.runas parts.0) parts.1

  -- ---- Grants

  -- the list of users, that of hosts, or the runas of a grant does not allow
  abbrev Fails : List Member → Section → ℕ → Type 0
  Fails users s i =
      (user_allowed p users q.user ≡ false) ⊎ (host_allowed p s.hosts q.host ≡ false) ⊎ (runas_allows p q (runas_at s.commands i) ≡ false)

  grant_fails : (place : Place) (users : List Member) (s : Section) (i : ℕ) (w : Signed) → Fails users s i
      → applies p q (grant_of place users s i w) ≡ false
  unfolding applies
  grant_fails place users s i w f =
      go (user_allowed p users q.user) (host_allowed p s.hosts q.host) (runas_allows p q (runas_at s.commands i)) f
    where
      go : (a b c : Bool) → (a ≡ false) ⊎ (b ≡ false) ⊎ (c ≡ false) → (((a && b) && c) && command_fits w.atom q.command q.arguments) ≡ false
      go false b c h = refl
      go true false c h = refl
      go true true false h = refl
      go true true true (inl h) = absurd (false≢true (sym h))
      go true true true (inr (inl h)) = absurd (false≢true (sym h))
      go true true true (inr (inr h)) = absurd (false≢true (sym h))

  atoms_fail : (place : Place) (users : List Member) (s : Section) (i : ℕ) (ws : List Signed) → Fails users s i
      → list_any (applies p q) (map (grant_of place users s i) ws) ≡ false
  atoms_fail place users s i [] f = refl
  atoms_fail place users s i (w ∷ ws) f =
      ap (λ b. b || list_any (applies p q) (map (grant_of place users s i) ws)) (grant_fails place users s i w f)
      ∙ atoms_fail place users s i ws f

  commands_fail : (place : Place) (users : List Member) (s : Section) (a : ℕ) (cs : List CommandSpec)
      → ((i : ℕ) → a ≤ i → i < a + length cs → Fails users s i)
      → list_any (applies p q) (flat_map (place_grants p place users s) (enumerate_from a cs)) ≡ false
  unfolding place_grants
  commands_fail place users s a [] f = refl
  commands_fail place users s a (c ∷ cs) f =
      list_any-append (applies p q) (place_grants p place users s (a, c))
      (flat_map (place_grants p place users s) (enumerate_from (a + 1) cs))
      ∙ ap (λ b. b || list_any (applies p q) (flat_map (place_grants p place users s) (enumerate_from (a + 1) cs)))
      (atoms_fail place users s a (written_form kinds.Cmnd p (c.command ∷ [])) (f a (omega arith) (omega arith)))
      ∙ commands_fail place users s (a + 1) cs (λ i from to. f i (omega (arith, from)) (omega (arith, to)))

  and_fails : (a b : Bool) → (a && b) ≡ false → (a ≡ false) ⊎ (b ≡ false)
  and_fails false b h = inl refl
  and_fails true b h = inr h

  -- a section that reaches nobody, or any section where the list of users does not allow
  section_fails : (users : List Member) (s : Section) → (user_allowed p users q.user ≡ false) ⊎ (section_reaches p d s ≡ false)
      → (i : ℕ) → i < length s.commands → Fails users s i
  section_fails users s (inl h) i within = inl h
  section_fails users s (inr h) i within =
      go (and_fails (list_any (host_allowed p s.hosts) d.machines) (commands_reach p d.people s.commands) h)
    where
      go : (list_any (host_allowed p s.hosts) d.machines ≡ false) ⊎ (commands_reach p d.people s.commands ≡ false) → Fails users s i
      go (inl k) = inr (inl (knows.host (host_allowed p s.hosts) k))
      go (inr k) = inr (inr (at_refuses s.commands i k within))

  sections_fail : (place : Place) (users : List Member) (ss : List Section)
      → (user_allowed p users q.user ≡ false) ⊎ (list_any (section_reaches p d) ss ≡ false)
      → list_any (applies p q) (flat_map (section_grants p place users) ss) ≡ false
  unfolding section_grants
  sections_fail place users [] f = refl
  sections_fail place users (s ∷ ss) f =
      list_any-append (applies p q) (section_grants p place users s) (flat_map (section_grants p place users) ss)
      ∙ ap (λ b. b || list_any (applies p q) (flat_map (section_grants p place users) ss))
      (commands_fail place users s 0 s.commands (λ i from to. section_fails users s (first f) i (omega (arith, to))))
      ∙ sections_fail place users ss (rest f)
    where
      first : (user_allowed p users q.user ≡ false) ⊎ (list_any (section_reaches p d) (s ∷ ss) ≡ false)
          → (user_allowed p users q.user ≡ false) ⊎ (section_reaches p d s ≡ false)
      first (inl h) = inl h
      first (inr h) = inr (or_parts (section_reaches p d s) (list_any (section_reaches p d) ss) h).0

      rest : (user_allowed p users q.user ≡ false) ⊎ (list_any (section_reaches p d) (s ∷ ss) ≡ false)
          → (user_allowed p users q.user ≡ false) ⊎ (list_any (section_reaches p d) ss ≡ false)
      rest (inl h) = inl h
      rest (inr h) = inr (or_parts (section_reaches p d s) (list_any (section_reaches p d) ss) h).1

  rule_fails : (place : Place) (users : List Member) (ss : List Section) → rule_reaches p d users ss ≡ false
      → list_any (applies p q) (flat_map (section_grants p place users) ss) ≡ false
  rule_fails place users ss h = go (and_fails (list_any (user_allowed p users) d.people) (list_any (section_reaches p d) ss) h)
    where
      go : (list_any (user_allowed p users) d.people ≡ false) ⊎ (list_any (section_reaches p d) ss ≡ false)
          → list_any (applies p q) (flat_map (section_grants p place users) ss) ≡ false
      go (inl k) = sections_fail place users ss (inl (knows.user (user_allowed p users) k))
      go (inr k) = sections_fail place users ss (inr k)

pub idle_rules : IdleRulesNeverApply
idle_rules p d place users sections none idle r q is = rule_fails p d none q (question_knows d r q is) place users sections idle
