-- The blocks that decide for a user name no group that has none of the IDs for it.
use Rattle.std.proofs.Common.{◌≡◌, ℕ, zero, suc, Bool, true, false, cond, List, [], ◌∷◌, ◌&&◌, ◌∙◌, ap, drop, option_copied, refl, take}
use Rattle.std.specs.List.{Contains, list_all}
use Rattle.std.proofs.lemmas.Bool.{and_parts}
use Rattle.std.proofs.lemmas.List.Elements.{Contains-append_right}
use Rattle.sudo_grammar.specs.declared.policy.Policy.{Policy}
use Rattle.sudo_match.specs.declared.people.Group.{Group}
use Rattle.sudo_match.specs.declared.people.Person.{Person}
use Rattle.review_roots.specs.declared.block.Block.{Block}
use Rattle.review_roots.specs.declared.cut.Cut.{Cut}
use Rattle.review_roots.specs.declared.level.Level.{Level}
use Rattle.review_roots.specs.Body.Deciding.{AreCutIds, deciding, deciding_for, from_raising, is_called, is_settled}
use Rattle.review_roots.specs.Body.Kept.{AreUnnamed, ids_by}
use Rattle.review_roots.specs.Body.Raising.{block_raises}
use Rattle.review_roots.specs.Body.Unnamed.{IsAbsent, block_groups, is_unnamed, lists_group}

-- ---- Blocks among all

in-rest : (b : Block) (bs : List Block) (x : Block) → Contains bs x → Contains (b ∷ bs) x
in-rest b bs x inside = Contains-append_right (b ∷ []) bs x inside

in-raising : (least : Level) (bs : List Block) (x : Block) → Contains (from_raising least bs) x → Contains bs x
in-raising least [] x inside = inside
in-raising least (b ∷ bs) x inside = go (block_raises least b) inside (in-raising least bs x)
  where
    go : (c : Bool) → Contains (cond c (b ∷ bs) (from_raising least bs)) x → (Contains (from_raising least bs) x → Contains bs x)
        → Contains (b ∷ bs) x
    go true at rest = at
    go false at rest = in-rest b bs x (rest at)

in-deciding : (least : Level) (bs : List Block) (x : Block) → Contains (deciding least bs) x → Contains bs x
in-deciding least bs x inside = go (list_all (is_settled least) bs) inside
  where
    go : (c : Bool) → Contains (cond c (from_raising least bs) bs) x → Contains bs x
    go true at = in-raising least bs x at
    go false at = at

in-drop : (n : ℕ) (bs : List Block) (x : Block) → Contains (drop n bs) x → Contains bs x
in-drop zero bs x inside = inside
in-drop (suc n) [] x inside = inside
in-drop (suc n) (b ∷ bs) x inside = in-rest b bs x (in-drop n bs x inside)

pub drop-all : (t : Block → Bool) (n : ℕ) (bs : List Block) → list_all t bs ≡ true → list_all t (drop n bs) ≡ true
drop-all t zero bs all = all
drop-all t (suc n) [] all = all
drop-all t (suc n) (b ∷ bs) all = drop-all t n bs (and_parts (t b) (list_all t bs) all).1

pub take-all : (t : Block → Bool) (n : ℕ) (bs : List Block) → list_all t bs ≡ true → list_all t (take n bs) ≡ true
take-all t zero bs all = refl
take-all t (suc n) [] all = refl
take-all t (suc n) (b ∷ bs) all =
    let both = and_parts (t b) (list_all t bs) all in
    ap (λ c. c && list_all t (take n bs)) both.0 ∙ take-all t n bs both.1

-- ---- The IDs of a cut

module _ (p : Policy) (least : Level) (bs : List Block) (groups : List Group) (c : Cut) (are : AreCutIds p least bs groups c) where
  abbrev called : Person → Bool
  called u = is_called (option_copied c.name) u

  abbrev deciders : Person → List Block
  deciders = deciding_for least (option_copied c.name) c.start bs

  in-deciders : (u : Person) (x : Block) → Contains (deciders u) x → Contains bs x
  in-deciders u x inside = go (called u) inside
    where
      go : (k : Bool) → Contains (cond k (deciding least bs) (drop c.start bs)) x → Contains bs x
      go true at = in-deciding least bs x at
      go false at = in-drop c.start bs x at

  no-group : (g : Group) → Contains groups g → (v : Person) → is_unnamed (ids_by c v) g ≡ true → (x : Block) → Contains bs x
      → lists_group g (block_groups p x) ≡ false
  no-group g inside v none x at = go (called v) none
    where
      go : (k : Bool) → is_unnamed (cond k c.own_ids.items c.ids.items) g ≡ true → lists_group g (block_groups p x) ≡ false
      go true apart = are.own_groups g inside apart x at
      go false apart = are.other_groups g inside apart x at

  no-list : (g : Group) → Contains groups g → (u : Person) → is_unnamed (ids_by c u) g ≡ true → (x : Block) → Contains (deciders u) x
      → IsAbsent p g x.users.now (option_copied x.runas)
  no-list g inside u none x at = go (called u) none at
    where
      go : (k : Bool) → is_unnamed (cond k c.own_ids.items c.ids.items) g ≡ true
          → Contains (cond k (deciding least bs) (drop c.start bs)) x → IsAbsent p g x.users.now (option_copied x.runas)
      go true apart there = (are.own_users g inside apart x there, are.own_groups g inside apart x (in-deciding least bs x there))
      go false apart there = (are.other_users g inside apart x there, are.other_groups g inside apart x (in-drop c.start bs x there))

  pub cut-unnamed : AreUnnamed p deciders groups (ids_by c)
  cut-unnamed = record {
    own = λ u g inside none x at. no-list g inside u none x at;
    others = λ u v g inside none x at. no-group g inside v none x (in-deciders u x at);
  }
