-- Groups that no list of some blocks names are unnamed.
use Rattle.std.proofs.Common.{◌≡◌, ◌∙◌, Bool, true, false, ◌==◌, List, flat_map, refl, sym}
use Rattle.std.specs.Prelude.{filter}
use Rattle.std.specs.List.{Contains, list_any}
use Rattle.std.proofs.lemmas.Bool.{eq-eqb, not-true}
use Rattle.sudo_grammar.specs.declared.policy.Policy.{Policy}
use Rattle.sudo_match.specs.declared.people.Group.{Group}
use Rattle.sudo_grammar.specs.declared.kind.Signed.{Signed}
use Rattle.review_roots.specs.declared.block.Block.{Block}
use Rattle.review_roots.specs.Body.Unnamed.{AreGroupIds, AreUserIds, block_groups, block_users, fits_by_name, is_named}
use Rattle.review_roots.specs.Body.Unnamed.{is_unnamed, named_ids}
use Rattle.review_roots.specs.KnownGroups.{names_group}
use Rattle.review_grants.proofs.ItemLemmas.{neither}
use Rattle.review_roots.proofs.MemberLemmas.{none-in, none-there}
use Rattle.review_roots.proofs.SearchLemmas.{in-filter, to-map}

-- lists of users of some blocks, and lists of groups of all
module _ (p : Policy) (bs all : List Block) (groups : List Group) where
  abbrev users : List Signed
  users = flat_map (block_users p) bs

  abbrev lists : List Signed
  lists = flat_map (block_groups p) all

  abbrev named : Group → Bool
  named g = is_named users lists g

  -- a group with the ID of no named one is not named
  not-named : (g : Group) → Contains groups g → is_unnamed (named_ids users lists groups) g ≡ true → named g ≡ false
  not-named g inside none = go (named g) refl
    where
      go : (b : Bool) → named g ≡ b → named g ≡ false
      go false is = is
      go true is =
          let there : Contains (named_ids users lists groups) g.gid =
          to-map (λ (h : Group). h.gid) (filter named groups) g (in-filter named groups g inside is) in
          let other : (g.gid == g.gid) ≡ false =
          none-there (λ i. i == g.gid) (named_ids users lists groups) g.gid
          (not-true (list_any (λ i. i == g.gid) (named_ids users lists groups)) none) there in
          absurd (let bad : true ≡ false = sym (eq-eqb g.gid g.gid refl) ∙ other in cc)

  parts : (g : Group) → named g ≡ false
      → (list_any (λ (w : Signed). names_group g w.atom) users ≡ false) × (list_any (λ (w : Signed). fits_by_name g w.atom) lists ≡ false)
  parts g none =
      neither (list_any (λ (w : Signed). names_group g w.atom) users) (list_any (λ (w : Signed). fits_by_name g w.atom) lists) none

  pub user-ids : AreUserIds p bs groups (named_ids (flat_map (block_users p) bs) (flat_map (block_groups p) all) groups)
  user-ids g inside none b there =
      none-in (λ (w : Signed). names_group g w.atom) (block_users p) bs b (parts g (not-named g inside none)).0 there

  pub group-ids : AreGroupIds p all groups (named_ids (flat_map (block_users p) bs) (flat_map (block_groups p) all) groups)
  group-ids g inside none b there =
      none-in (λ (w : Signed). fits_by_name g w.atom) (block_groups p) all b (parts g (not-named g inside none)).1 there
