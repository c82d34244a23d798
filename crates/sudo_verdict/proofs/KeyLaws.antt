-- The keys of definitions are those of their members, and what keys pass over.
use Rattle.std.proofs.Common.{◌≡◌, ℕ, zero, suc, ◌+◌, ◌≤◌, Bool, true, false, cond, ◌||◌, List, [], ◌∷◌, ◌++◌, Option}
use Rattle.std.proofs.Common.{Some, None, length, take, refl, sym, ◌∙◌, ap, arith}
use Rattle.std.specs.Prelude.{slice_get, option_and_then, unwrap_or, ◌==◌, bytes_eq}
use Rattle.std.specs.Option.{option_map}
use Rattle.std.specs.List.{list_any, list_all}
use Rattle.std.proofs.lemmas.Bool.{or_parts, and_parts, and_from, eq-eqb}
use Rattle.std.proofs.lemmas.List.{length_push}
use Rattle.std.proofs.lemmas.Slice.Eq.{bytes_eq-Decides}
use Rattle.sudo_text.specs.declared.token.Ch.{Ch}
use Rattle.sudo_grammar.specs.declared.kind.Atom.{Atom}
use Rattle.sudo_grammar.specs.declared.kind.Atom.TheVariants as atom
use Rattle.sudo_grammar.specs.declared.kind.Kind.{Kind}
use Rattle.sudo_grammar.specs.declared.kind.Member.{Member}
use Rattle.sudo_grammar.specs.declared.policy.Definition.{Definition}
use Rattle.sudo_grammar.specs.declared.policy.Entry.{Entry}
use Rattle.sudo_grammar.specs.declared.policy.EntryBody.{EntryBody}
use Rattle.sudo_grammar.specs.declared.policy.EntryBody.TheVariants as body
use Rattle.sudo_grammar.specs.declared.policy.Policy.{Policy}
use Rattle.sudo_grammar.specs.declared.policy.Section.{Section}
use Rattle.sudo_policy.specs.declared.index.Position.{Position}
use Rattle.sudo_verdict.specs.declared.index.key.Key.{Key}
use Rattle.sudo_verdict.specs.declared.index.key.EntryKeys.{EntryKeys}
use Rattle.sudo_policy.specs.Definitions.{alias_named}
use Rattle.sudo_match.specs.declared.people.Group.{Group}
use Rattle.sudo_match.specs.declared.people.Person.{Person}
use Rattle.sudo_match.specs.declared.people.Machine.{Machine}
use Rattle.sudo_match.specs.Beginnings.{is_special}
use Rattle.sudo_match.specs.Body.Beginnings.{is_named_otherwise}
use Rattle.sudo_match.specs.Class.{lower}
use Rattle.sudo_match.specs.Matching.{user_fits, host_fits, command_fits}
use Rattle.sudo_match.proofs.BeginningLemmas.{host-differs}
use Rattle.sudo_verdict.specs.Keys.{Pairwise, HaveKeys, HaveDefinitionKeys, HaveRuleKeys, HaveBodyKeys, AreKeys}
use Rattle.sudo_verdict.specs.Keys.{name_number, user_id, name_mark, command_number, literal_byte}
use Rattle.sudo_verdict.specs.Body.Known.{keys_at}
use Rattle.sudo_verdict.specs.Numbers.{user_number, group_mark, path_number, lacks_command}
use Rattle.sudo_verdict.specs.Body.Numbers.{atom_number}
use Rattle.sudo_verdict.specs.Body.NumberSets.{has_mark, has_marks}
use Rattle.sudo_verdict.proofs.NumberSets.{lacked-atom}

-- ---- Lists that are related item by item

pub none_related : {X Y : Type 0} (R : X → Y → Type 0) (ys : List Y) → Pairwise R [] ys
none_related R ys zero x y e f = cc
none_related R ys (suc i) x y e f = cc

pub one_more :
    {X Y : Type 0} (R : X → Y → Type 0) (xs : List X) (ys : List Y) (x : X) (y : Y) → Pairwise R xs ys
    → slice_get ys (length xs) ≡ Some y → R x y →
    Pairwise R (xs ++ x ∷ []) ys
one_more R [] ys x y h there r zero a b e f =
    let first : a ≡ x = cc in
    let second : b ≡ y = cc in
    rw (first, second) r
one_more R [] ys x y h there r (suc i) a b e f = cc
one_more R (z ∷ xs) ys x y h there r zero a b e f = h zero a b e f
one_more R (z ∷ xs) [] x y h there r (suc i) a b e f = cc
one_more R (z ∷ xs) (w ∷ ys) x y h there r (suc i) a b e f =
    one_more R xs ys x y (λ k c d g k_there. h (suc k) c d g k_there) there r i a b e f

-- the same for a list that a loop extends
pub more_related :
    {X Y : Type 0} (R : X → Y → Type 0) (xs more : List X) (ys : List Y) (x : X) (y : Y) (n : ℕ) → more ≡ xs ++ x ∷ [] → length xs ≡ n →
    Pairwise R xs ys → slice_get ys n ≡ Some y → R x y → Pairwise R more ys
more_related R xs more ys x y n pushed count h there r = rw pushed (one_more R xs ys x y h (ap (slice_get ys) count ∙ there) r)

pub more_count : {X : Type 0} (xs more : List X) (x : X) (n : ℕ) → more ≡ xs ++ x ∷ [] → length xs ≡ n → length more ≡ n + 1
more_count xs more x n pushed count = ap length pushed ∙ length_push xs x ∙ ap (λ k. k + 1) count

-- ---- The keys of a definition

pub have_at :
    (p : Policy) (kind : Kind) (position : Position) (e : Entry) (rows : List EntryKeys) (definitions : List Definition) (d : Definition) →
    AreKeys p rows → slice_get p.entries position.entry ≡ Some e → e.body ≡ body.Aliases kind definitions →
    slice_get definitions position.definition ≡ Some d → HaveKeys p kind (keys_at rows position) d.members
have_at p kind position e rows definitions d are entry aliases there = go (slice_get rows position.entry) refl
  where
    in_row : (ks : EntryKeys) → HaveDefinitionKeys p kind ks.definitions definitions → (o : Option (List Key))
        → slice_get ks.definitions position.definition ≡ o →
        HaveKeys p kind (unwrap_or o []) d.members
    in_row ks have None e = none_related _ d.members
    in_row ks have (Some keys) e = have position.definition keys d e there

    go : (o : Option EntryKeys) → slice_get rows position.entry ≡ o →
        HaveKeys p kind (unwrap_or (option_and_then (λ (ks : EntryKeys). slice_get ks.definitions position.definition) o) []) d.members
    go None f = none_related _ d.members
    go (Some ks) f = in_row ks ((are position.entry ks e f entry).0 kind definitions aliases)
        (slice_get ks.definitions position.definition) refl

pub rule_body :
    (p : Policy) (ks : EntryKeys) (b : EntryBody) (users : List Member) (sections : List Section) → b ≡ body.Rule users sections →
    HaveRuleKeys p ks.users ks.sections users sections → HaveBodyKeys p ks b
rule_body p ks b users sections is have = (
  λ kind definitions e. let no : body.Rule users sections ≡ body.Aliases kind definitions = sym is ∙ e in cc,
  λ others more e.
      let same : body.Rule others more ≡ body.Rule users sections = sym e ∙ is in
      let first : others ≡ users = cc in
      let second : more ≡ sections = cc in
      rw (first, second) have,
)

pub are_keys :
    (p : Policy) (rows : List EntryKeys) (entries : List Entry) → entries ≡ p.entries →
    Pairwise (λ ks (e : Entry). HaveBodyKeys p ks e.body) rows entries → AreKeys p rows
are_keys p rows entries same h i ks e f g = h i ks e f (ap (λ l. slice_get l i) same ∙ g)

-- ---- Atoms that keys pass over

-- a command that lacks the number of an atom
pub passes_command :
    (has : ℕ → Bool) (command arguments : List ℕ) (a : Atom) (number : ℕ) → lacks_command has command ≡ true → has number ≡ true →
    command_number a ≡ Some number → (alias_named a ≡ None) × (command_fits a command arguments ≡ false)
unfolding atom_number
passes_command has command arguments (atom.Command path args) number lacks there e =
    let same : path_number path ≡ number = cc in
    lacked-atom has command arguments (atom.Command path args) lacks (ap has same ∙ there)
passes_command has command arguments _ number lacks there e = cc

-- a user whose name has another number
pub passes_name :
    (u : Person) (a : Atom) (number : ℕ) → (number == user_number u.name) ≡ false → name_number a ≡ Some number →
    (alias_named a ≡ None) × (user_fits a u ≡ false)
unfolding user_fits
passes_name u (atom.Name name) number other e = (refl, go (bytes_eq name u.name) refl)
  where
    go : (b : Bool) → bytes_eq name u.name ≡ b → bytes_eq name u.name ≡ false
    go false f = f
    go true f =
        let same : name ≡ u.name = (bytes_eq-Decides name u.name).0 f in
        let number_is : user_number name ≡ number = cc in
        let equal : (number == user_number u.name) ≡ true = eq-eqb number (user_number u.name) (sym number_is ∙ ap user_number same) in
        let no : true ≡ false = sym equal ∙ other in cc
passes_name u _ number other e = cc

inner_only : (outer inner : Bool) → outer ≡ false → inner ≡ true → cond outer false inner ≡ true
inner_only true inner e f = cc
inner_only false inner e f = f

-- a user of another ID
pub passes_uid :
    (u : Person) (a : Atom) (uid : ℕ) → (uid == u.uid) ≡ false → user_id a ≡ Some uid → (alias_named a ≡ None) × (user_fits a u ≡ false)
unfolding user_fits
passes_uid u (atom.Uid own) uid other e =
    let same : own ≡ uid = cc in
    (refl, ap (λ n. n == u.uid) same ∙ other)
passes_uid u _ uid other e = cc

-- a set that grows keeps the marks of groups
marks_kept :
    (old new : List ℕ) (gs : List Group) → ((other : ℕ) → has_mark old other ≡ true → has_mark new other ≡ true) → has_marks old gs ≡ true →
    has_marks new gs ≡ true
unfolding has_marks
marks_kept old new [] keeps e = refl
marks_kept old new (g ∷ gs) keeps e =
    let parts = and_parts (has_mark old (group_mark g.name)) (list_all (λ (x : Group). has_mark old (group_mark x.name)) gs) e in
    and_from (has_mark new (group_mark g.name)) (list_all (λ (x : Group). has_mark new (group_mark x.name)) gs)
    (keeps (group_mark g.name) parts.0) (marks_kept old new gs keeps parts.1)

marks_next :
    (old new : List ℕ) (gs : List Group) (i : ℕ) (g : Group) → slice_get gs i ≡ Some g →
    ((other : ℕ) → has_mark old other ≡ true → has_mark new other ≡ true) → has_mark new (group_mark g.name) ≡ true →
    has_marks old (take i gs) ≡ true → has_marks new (take (suc i) gs) ≡ true
unfolding has_marks
marks_next old new [] i g there keeps here e = cc
marks_next old new (x ∷ xs) zero g there keeps here e =
    let same : x ≡ g = cc in
    and_from (has_mark new (group_mark x.name)) true (ap (λ (y : Group). has_mark new (group_mark y.name)) same ∙ here) refl
marks_next old new (x ∷ xs) (suc i) g there keeps here e =
    let parts = and_parts (has_mark old (group_mark x.name)) (list_all (λ (y : Group). has_mark old (group_mark y.name)) (take i xs)) e in
    and_from (has_mark new (group_mark x.name)) (list_all (λ (y : Group). has_mark new (group_mark y.name)) (take (suc i) xs))
    (keeps (group_mark x.name) parts.0) (marks_next old new xs i g there keeps here parts.1)

pub marks_more :
    (old new : List ℕ) (gs : List Group) (i : ℕ) (g : Group) → slice_get gs i ≡ Some g →
    ((other : ℕ) → has_mark old other ≡ true → has_mark new other ≡ true) → has_mark new (group_mark g.name) ≡ true →
    has_marks old (take i gs) ≡ true → has_marks new (take (i + 1) gs) ≡ true
marks_more old new gs i g there keeps here e =
    let one : suc i ≡ i + 1 = omega arith in
    ap (λ n. has_marks new (take n gs)) (sym one) ∙ marks_next old new gs i g there keeps here e

pub no_marks : (words : List ℕ) → has_marks words [] ≡ true
unfolding has_marks
no_marks words = refl

-- a user none of whose groups has the mark
none_marked :
    (marks : List ℕ) (name : List ℕ) (gs : List Group) → has_marks marks gs ≡ true → has_mark marks (group_mark name) ≡ false →
    list_any (λ (g : Group). bytes_eq g.name name) gs ≡ false
unfolding has_marks
none_marked marks name [] e other = refl
none_marked marks name (g ∷ gs) e other =
    let parts = and_parts (has_mark marks (group_mark g.name)) (list_all (λ (x : Group). has_mark marks (group_mark x.name)) gs) e in
    go (bytes_eq g.name name) refl parts.0 (none_marked marks name gs parts.1 other)
  where
    go : (b : Bool) → bytes_eq g.name name ≡ b → has_mark marks (group_mark g.name) ≡ true
        → list_any (λ (x : Group). bytes_eq x.name name) gs ≡ false →
        (b || list_any (λ (x : Group). bytes_eq x.name name) gs) ≡ false
    go false f here rest = rest
    go true f here rest =
        let same : g.name ≡ name = (bytes_eq-Decides g.name name).0 f in
        let no : true ≡ false = sym here ∙ ap (λ n. has_mark marks (group_mark n)) same ∙ other in
        cc

pub passes_group :
    (u : Person) (a : Atom) (mark : ℕ) (marks : List ℕ) → has_marks marks u.groups ≡ true
    → has_mark marks mark ≡ false → name_mark a ≡ Some mark →
    (alias_named a ≡ None) × (user_fits a u ≡ false)
unfolding user_fits
passes_group u (atom.Group name) mark marks e other h =
    let same : group_mark name ≡ mark = cc in
    (refl, none_marked marks name u.groups e (ap (has_mark marks) same ∙ other))
passes_group u _ mark marks e other h = cc

-- the characters and the name differ at an index, before any special character and any dot
differs_at :
    (chars : List Ch) (name : List ℕ) (index : ℕ) (c : Ch) (b : ℕ) → slice_get chars index ≡ Some c → slice_get name index ≡ Some b →
    list_any is_special (take (suc index) chars) ≡ false → list_any (λ x. x == 46) (take (suc index) name) ≡ false →
    (lower b == lower c.byte) ≡ false → is_named_otherwise chars name ≡ true
unfolding is_named_otherwise
differs_at [] name index c b e f g h d = cc
differs_at (c0 ∷ cs) [] index c b e f g h d = cc
differs_at (c0 ∷ cs) (b0 ∷ bs) zero c b e f g h d =
    let first : c0 ≡ c = cc in
    let second : b0 ≡ b = cc in
    let plain = or_parts (is_special c0) false g in
    let dot = or_parts (b0 == 46) false h in
    let other : (lower b0 == lower c0.byte) ≡ false = rw (first, second) d in
    inner_only (is_special c0 || b0 == 46) (cond (lower b0 == lower c0.byte) (is_named_otherwise cs bs) true)
    (ap (λ x. x || b0 == 46) plain.0 ∙ dot.0)
    (ap (λ x. cond x (is_named_otherwise cs bs) true) other)
differs_at (c0 ∷ cs) (b0 ∷ bs) (suc i) c b e f g h d =
    let plain = or_parts (is_special c0) (list_any is_special (take (suc i) cs)) g in
    let dot = or_parts (b0 == 46) (list_any (λ x. x == 46) (take (suc i) bs)) h in
    inner_only (is_special c0 || b0 == 46) (cond (lower b0 == lower c0.byte) (is_named_otherwise cs bs) true)
    (ap (λ x. x || b0 == 46) plain.0 ∙ dot.0)
    (go (lower b0 == lower c0.byte) (differs_at cs bs i c b e f plain.1 dot.1 d))
  where
    go : (x : Bool) → is_named_otherwise cs bs ≡ true → cond x (is_named_otherwise cs bs) true ≡ true
    go true again = again
    go false again = refl

-- a host whose name has another byte in the place of a literal one
pub passes_literal :
    (m : Machine) (a : Atom) (index byte b : ℕ) → slice_get m.name index ≡ Some b
    → list_any (λ x. x == 46) (take (suc index) m.name) ≡ false →
    (lower b == byte) ≡ false → literal_byte a index ≡ Some byte → (alias_named a ≡ None) × (host_fits a m ≡ false)
unfolding host_fits
passes_literal m (atom.Host chars quoted) index byte b there dot other e =
    (refl, go (list_any is_special (take (index + 1) chars)) refl (slice_get chars index) refl e)
  where
    one : index + 1 ≡ suc index
    one = omega arith

    go : (x : Bool) → list_any is_special (take (index + 1) chars) ≡ x → (o : Option Ch) → slice_get chars index ≡ o →
        cond x None (option_map (λ (c : Ch). lower c.byte) o) ≡ Some byte → host_fits (atom.Host chars quoted) m ≡ false
    go true f o g h = cc
    go false f None g h = cc
    go false f (Some c) g h =
        let same : lower c.byte ≡ byte = cc in
        host-differs chars quoted m.name (differs_at chars m.name index c b g there
        (ap (λ n. list_any is_special (take n chars)) (sym one) ∙ f) dot (ap (λ x. lower b == x) same ∙ other))
passes_literal m _ index byte b there dot other e = cc

-- fewer bytes have no dot either
pub none_before :
    (name : List ℕ) (n m : ℕ) → n ≤ m → list_any (λ x. x == 46) (take m name) ≡ false → list_any (λ x. x == 46) (take n name) ≡ false
none_before name zero m h e = refl
none_before [] (suc n) m h e = refl
none_before (b ∷ bs) (suc n) zero h e = absurd (omega (arith, h))
none_before (b ∷ bs) (suc n) (suc m) h e =
    let parts = or_parts (b == 46) (list_any (λ x. x == 46) (take m bs)) e in
    rw (parts.0, none_before bs n m (omega (arith, h)) parts.1) refl
