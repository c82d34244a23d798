-- Lists written out by equations.
use Rattle.std.proofs.Common.{◌≡◌, ℕ, zero, suc, Bool, true, false, cond, List, [], ◌∷◌}
use Rattle.std.proofs.Common.{◌++◌, map, flat_map, find, Option, Some, None, refl, sym, ◌∙◌, ap, subst, inl, inr, Contains}
use Rattle.std.proofs.Common.{option_and_then}
use Rattle.std.proofs.lemmas.List.Elements.{Contains-append_cases, Contains-append_left, Contains-append_right}
use Rattle.sudo_grammar.specs.declared.kind.Atom.{Atom}
use Rattle.sudo_grammar.specs.declared.kind.Atom.TheVariants as atoms
use Rattle.sudo_grammar.specs.declared.kind.Kind.{Kind}
use Rattle.sudo_grammar.specs.declared.kind.Member.{Member}
use Rattle.sudo_grammar.specs.declared.kind.Signed.{Signed}
use Rattle.sudo_grammar.specs.declared.policy.EntryBody.{EntryBody}
use Rattle.sudo_grammar.specs.declared.policy.EntryBody.TheVariants.{Aliases, Defaults, Include, Rule}
use Rattle.sudo_grammar.specs.declared.policy.Policy.{Policy}
use Rattle.sudo_laws.specs.WrittenOut.{WritesOut}
use Rattle.sudo_policy.proofs.FollowingLemmas.{option_join-parts, option_map-some}
use Rattle.sudo_policy.proofs.Laws.{alias_written, alone_stands, resolves_cons, written_append, written_none}
use Rattle.sudo_policy.proofs.LinkLemmas.{in_flat, in_map}
use Rattle.sudo_policy.proofs.MarkingLemmas.{is_one, none_in, one_in}
use Rattle.sudo_policy.proofs.SoundLemmas.{are_written, list_holds}
use Rattle.sudo_policy.proofs.SurveyLemmas.{defines-same}
use Rattle.sudo_policy.specs.Definitions.{AliasDefinition, MemberList, alias_named, defines, definition_in, definitions, definitions_of}
use Rattle.sudo_policy.specs.Definitions.{definitions_of_body, in_force, list_in, lists, lists_of, lists_of_body}
use Rattle.sudo_policy.specs.Following.{definition_of_member, list_reading, member_reading, reading_within}
use Rattle.sudo_policy.specs.Resolving.{IsSound, resolves}
use Rattle.sudo_policy.specs.Written.{alone_written, is_negated, negated_if, writing, written_form}
use Rattle.sudo_text.specs.declared.line.Place.{Place}

-- ---- Members of the lists of a policy

member_resolves : (kind : Kind) (p : Policy) (ms : List Member) (m : Member) → resolves kind p ms ≡ true → Contains ms m
    → resolves kind p (m ∷ []) ≡ true
member_resolves kind p [] m h among = absurd (none_in m among)
member_resolves kind p (x ∷ ms) m h among =
    let parts = resolves_cons kind p x ms h in
    elim (Contains-append_cases (x ∷ []) ms m among) [
      | inl first ↦ subst (λ z. resolves kind p (z ∷ []) ≡ true) (one_in x m first) parts.0
      | inr rest ↦ member_resolves kind p ms m parts.1 rest
    ]

-- a member of a list of a policy that is sound
pub alias_is_written : (p : Policy) → IsSound p → (l : MemberList) (m : Member) (name : List ℕ) (ds : List Member)
    → Contains (lists p) l → Contains l.members m → m.atom ≡ atoms.Alias name → in_force l.kind p name ≡ Some ds
    → written_form l.kind p (m ∷ []) ≡ map (negated_if (is_negated m)) (written_form l.kind p ds)
alias_is_written p sound l m name ds among member is found =
    alias_written l.kind p m name ds is found (member_resolves l.kind p l.members m (list_holds p l sound among) member)

pub equations_hold : (p : Policy) → IsSound p → WritesOut p (λ kind list. written_form kind p list)
equations_hold p sound = record {
  nothing = λ kind. written_none kind p;
  both = λ kind first second. written_append kind p first second;
  atom = λ kind m alone. alone_stands kind p m alone;
  alias = alias_is_written p sound;
}

-- ---- The definition in force is a list of the policy

pub map_in : {X Y : Type 0} (f : X → Y) (xs : List X) (x : X) → Contains xs x → Contains (map f xs) (f x)
map_in f [] x h = absurd (none_in x h)
map_in f (y ∷ ys) x h = elim (Contains-append_cases (y ∷ []) ys x h) [
  | inl first ↦ Contains-append_left (f y ∷ []) (map f ys) (f x)
      (subst (λ z. Contains (f z ∷ []) (f x)) (sym (one_in y x first)) (is_one (f x)))
  | inr rest ↦ Contains-append_right (f y ∷ []) (map f ys) (f x) (map_in f ys x rest)
]

pub flat_in : {X Y : Type 0} (f : X → List Y) (xs : List X) (x : X) (y : Y) → Contains xs x → Contains (f x) y → Contains (flat_map f xs) y
flat_in f [] x y h k = absurd (none_in x h)
flat_in f (z ∷ zs) x y h k = elim (Contains-append_cases (z ∷ []) zs x h) [
  | inl first ↦ Contains-append_left (f z) (flat_map f zs) y (subst (λ w. Contains (f w) y) (sym (one_in z x first)) k)
  | inr rest ↦ Contains-append_right (f z) (flat_map f zs) y (flat_in f zs x y rest k)
]

pub find_among : {X : Type 0} (f : X → Bool) (xs : List X) (x : X) → find f xs ≡ Some x → Contains xs x × (f x ≡ true)
find_among f [] x h = cc
find_among f (y ∷ ys) x h = by (f y) refl h (find_among f ys x)
  where
    by : (b : Bool) → f y ≡ b → cond b (Some y) (find f ys) ≡ Some x
        → (find f ys ≡ Some x → Contains ys x × (f x ≡ true)) → Contains (y ∷ ys) x × (f x ≡ true)
    by true here h later =
        let same : y ≡ x = cc in (
          Contains-append_left (y ∷ []) ys x (subst (λ z. Contains (y ∷ []) z) same (is_one y)),
          subst (λ z. f z ≡ true) same here,
        )
    by false here h later = let k = later h in (Contains-append_right (y ∷ []) ys x k.0, k.1)

-- a list of the policy that has a kind and these members
pub record Listed (p : Policy) (kind : Kind) (ms : List Member) : Type 0 where
  pub list : MemberList
  pub among : Contains (lists p) list
  pub kind_is : list.kind ≡ kind
  pub members_are : list.members ≡ ms

body_lists : (place : Place) (body : EntryBody) (d : AliasDefinition) → Contains (definitions_of_body place body) d
    → (l : MemberList) × Contains (lists_of_body place body) l × (l.kind ≡ d.kind) × (l.members ≡ d.members)
body_lists place (Aliases kind ds) d h =
    let k = in_map (definition_in kind place) ds d h in (
      list_in kind place k.0,
      map_in (list_in kind place) ds k.0 k.1,
      ap (λ (e : AliasDefinition). e.kind) k.2,
      ap (λ (e : AliasDefinition). e.members) k.2,
    )
body_lists place (Defaults binding parameters) d h = absurd (none_in d h)
body_lists place (Rule users sections) d h = absurd (none_in d h)
body_lists place (Include folder hash path) d h = absurd (none_in d h)

definition_listed : (p : Policy) (d : AliasDefinition) → Contains (definitions p) d → Listed p d.kind d.members
definition_listed p d h =
    let e = in_flat definitions_of p.entries d h in
    let l = body_lists e.0.place e.0.body d e.2 in
    record { list = l.0; among = flat_in lists_of p.entries e.0 l.0 e.1 l.1; kind_is = l.2; members_are = l.3 }

in_force_listed : (kind : Kind) (p : Policy) (name : List ℕ) (ms : List Member) → in_force kind p name ≡ Some ms → Listed p kind ms
in_force_listed kind p name ms is =
    let d = option_map-some (λ (d : AliasDefinition). d.members) (find (defines kind name) (definitions p)) ms is in
    let f = find_among (defines kind name) (definitions p) d.0 d.1 in
    let l = definition_listed p d.0 f.0 in
    record {
      list = l.list;
      among = l.among;
      kind_is = l.kind_is ∙ sym (defines-same kind name d.0 f.1).0;
      members_are = l.members_are ∙ sym d.2;
    }

-- ---- No other function has the equations

alias_is : (a : Atom) (name : List ℕ) → alias_named a ≡ Some name → a ≡ atoms.Alias name
alias_is (atoms.Alias n) name h = cc
alias_is _ name h = cc

module _ (p : Policy) (write : Kind → List Member → List Signed) (h : WritesOut p write) where
  -- each member is one of a list of the policy
  abbrev AreListed : Kind → List Member → Type 0
  AreListed kind ms = (m : Member) → Contains ms m → (l : MemberList) × Contains (lists p) l × (l.kind ≡ kind) × Contains l.members m

  listed_whole : (kind : Kind) (ms : List Member) → Listed p kind ms → AreListed kind ms
  listed_whole kind ms l m member = (l.list, l.among, l.kind_is, subst (λ xs. Contains xs m) (sym l.members_are) member)

  written_alias : (kind : Kind) (m : Member) (name : List ℕ) (ds : List Member)
      → (l : MemberList) × Contains (lists p) l × (l.kind ≡ kind) × Contains l.members m
      → m.atom ≡ atoms.Alias name → in_force kind p name ≡ Some ds
      → write kind (m ∷ []) ≡ map (negated_if (is_negated m)) (write kind ds)
  written_alias kind m name ds (l, among, kind_is, member) is found =
      subst (λ k. write k (m ∷ []) ≡ map (negated_if (is_negated m)) (write k ds)) kind_is
      (h.alias l m name ds among member is (subst (λ k. in_force k p name ≡ Some ds) (sym kind_is) found))

  abbrev Agrees : Kind → (List Member → Option (List Signed)) → Type 0
  Agrees kind inner = (ms : List Member) (ws : List Signed) → AreListed kind ms → inner ms ≡ Some ws → write kind ms ≡ ws

  -- one member
  module _ (kind : Kind) (inner : List Member → Option (List Signed)) (agrees : Agrees kind inner) (m : Member) (ws : List Signed)
      (listed : (l : MemberList) × Contains (lists p) l × (l.kind ≡ kind) × Contains l.members m) where
    named_writes : (name : List ℕ) → alias_named m.atom ≡ Some name → (o : Option (List Member)) → in_force kind p name ≡ o
        → member_reading writing inner m o ≡ Some ws → write kind (m ∷ []) ≡ ws
    named_writes name named None found is =
        let none : None ≡ Some ws = sym (ap (alone_written m) named) ∙ is in cc
    named_writes name named (Some ds) found is =
        let k = option_map-some (map (negated_if (is_negated m))) (inner ds) ws is in
        written_alias kind m name ds listed (alias_is m.atom name named) found
        ∙ ap (map (negated_if (is_negated m)))
        (agrees ds k.0 (listed_whole kind ds (in_force_listed kind p name ds found)) k.1)
        ∙ sym k.2

    member_writes : (o : Option (List ℕ)) → alias_named m.atom ≡ o
        → member_reading writing inner m (option_and_then (in_force kind p) o) ≡ Some ws → write kind (m ∷ []) ≡ ws
    member_writes None named is =
        let one : Some (record { negated = is_negated m; atom = m.atom } ∷ []) ≡ Some ws =
        sym (ap (alone_written m) named) ∙ is in
        h.atom kind m named ∙ some_is one
      where
        some_is : {A : Type 0} {a b : A} → Some a ≡ Some b → a ≡ b
        some_is e = cc
    member_writes (Some name) named is = named_writes name named (in_force kind p name) refl is

  list_writes : (kind : Kind) (inner : List Member → Option (List Signed)) → Agrees kind inner → (ms : List Member) (ws : List Signed)
      → AreListed kind ms → list_reading writing kind p inner ms ≡ Some ws → write kind ms ≡ ws
  list_writes kind inner agrees [] ws listed is = h.nothing kind ∙ some_is is
    where
      some_is : {A : Type 0} {a b : A} → Some a ≡ Some b → a ≡ b
      some_is e = cc
  list_writes kind inner agrees (m ∷ ms) ws listed is =
      let k = option_join-parts ◌++◌ (member_reading writing inner m (definition_of_member kind p m))
      (list_reading writing kind p inner ms) ws is in
      h.both kind (m ∷ []) ms
      ∙ ap (λ x. x ++ write kind ms)
      (member_writes kind inner agrees m k.first (listed m (Contains-append_left (m ∷ []) ms m (is_one m))) (alias_named m.atom)
      refl k.first_is)
      ∙ ap (λ x. k.first ++ x)
      (list_writes kind inner agrees ms k.second (λ n among. listed n (Contains-append_right (m ∷ []) ms n among)) k.second_is)
      ∙ sym k.whole

  all_write : (n : ℕ) (kind : Kind) → Agrees kind (reading_within writing kind p n)
  unfolding reading_within
  all_write zero kind = λ ms ws listed is. list_writes kind (λ _. None) (λ ds us l e. cc) ms ws listed is
  all_write (suc n) kind = λ ms ws listed is. list_writes kind (reading_within writing kind p n) (all_write n kind) ms ws listed is

  pub no_other : IsSound p → (l : MemberList) → Contains (lists p) l → write l.kind l.members ≡ written_form l.kind p l.members
  no_other sound l among =
      let w = are_written p sound l among in
      all_write w.steps l.kind l.members (written_form l.kind p l.members)
      (λ m member. (l, among, refl, member)) w.reads
