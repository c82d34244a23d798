-- The blocks of a policy are its grants.
use Rattle.std.proofs.Common.{◌≡◌, ◌<◌, ◌≤◌, ◌+◌, ◌∙◌, ℕ, true, false, ◌&&◌, List, [], ◌∷◌, ◌++◌, ap, append_assoc}
use Rattle.std.proofs.Common.{arith, refl, take, flat_map, get_or, length, map, sym, subst, Vec, Global, option_copied}
use Rattle.std.specs.List.{enumerate_from, list_all}
use Rattle.std.proofs.lemmas.List.{map-append, take_all}
use Rattle.std.proofs.lemmas.List.FromFn.{length-enumerate_from}
use Rattle.std.proofs.lemmas.Bool.{and_parts}
use Rattle.sudo_text.specs.declared.line.Place.{Place}
use Rattle.sudo_grammar.specs.declared.kind.Kind.TheVariants as kind
use Rattle.sudo_grammar.specs.declared.kind.Member.{Member}
use Rattle.sudo_grammar.specs.declared.kind.Signed.{Signed}
use Rattle.sudo_grammar.specs.declared.policy.CommandSpec.{CommandSpec}
use Rattle.sudo_grammar.specs.declared.policy.Entry.{Entry}
use Rattle.sudo_grammar.specs.declared.policy.Policy.{Policy}
use Rattle.sudo_grammar.specs.declared.policy.Section.{Section}
use Rattle.sudo_policy.specs.Written.{negated_if, written_form}
use Rattle.sudo_policy.specs.Resolving.{resolves, runas_resolves}
use Rattle.sudo_policy.specs.Body.Resolving.{command_resolves}
use Rattle.sudo_verdict.specs.Tagged.{runas_at, tags_at}
use Rattle.sudo_verdict.specs.Grants.{Grant, grants, grant_of, place_grants, section_grants, entry_grants}
use Rattle.sudo_verdict.proofs.SearchLaw.{runas_before-resolves}
use Rattle.review_compare.specs.declared.block.Block.{Block}
use Rattle.review_compare.specs.declared.block.BlockRow.{BlockRow}
use Rattle.review_compare.specs.declared.block.Head.{Head}
use Rattle.review_compare.specs.declared.block.InForce.{InForce}
use Rattle.review_compare.specs.Blocks.{AreGrants, block_resolves, block_wides}
use Rattle.review_compare.specs.Cells.{Wide, wide_of}
use Rattle.review_compare.specs.Body.Heads.{IsInForce, row_answered, signed_answered, answered_wide, signed_wide, head_resolves}
use Rattle.review_grants.proofs.ListSteps.{take-more, take-enumerated, flat-one, all-push, all-taken, all-there, map-same, map-twice}

-- ---- The block of a command

-- a list that is written out without a sign before it
pub as-they-are : (ws : List Signed) → map (negated_if false) ws ≡ ws
as-they-are [] = refl
as-they-are (w ∷ ws) = ap (λ xs. w ∷ xs) (as-they-are ws)

-- one block more, with the rows of a command
pub block-pushed :
    (h : Head) (f : InForce) (rows : Vec BlockRow Global) (ws : List Signed) (old new : List Block) →
    new ≡ old ++ record { place = h.place; users = h.users; hosts = h.hosts; runas = f.runas; rows = rows } ∷ [] →
    map row_answered rows.items ≡ map (signed_answered f.tags) ws →
    flat_map block_wides new ≡ flat_map block_wides old ++ map (signed_wide h f) ws
block-pushed h f rows ws old new is written =
    let b : Block = record { place = h.place; users = h.users; hosts = h.hosts; runas = f.runas; rows = rows } in
    ap (flat_map block_wides) is ∙ flat-one block_wides old b
    ∙ ap (λ (rs : List Wide). flat_map block_wides old ++ rs)
    (sym (map-twice (answered_wide h f) row_answered rows.items)
    ∙ ap (map (answered_wide h f)) written ∙ map-twice (answered_wide h f) (signed_answered f.tags) ws)

pub block-resolved :
    (p : Policy) (h : Head) (f : InForce) (rows : Vec BlockRow Global) (old new : List Block) →
    new ≡ old ++ record { place = h.place; users = h.users; hosts = h.hosts; runas = f.runas; rows = rows } ∷ [] →
    head_resolves p h f ≡ true → list_all (block_resolves p) old ≡ true → list_all (block_resolves p) new ≡ true
block-resolved p h f rows old new is head all =
    ap (list_all (block_resolves p)) is
    ∙ all-push (block_resolves p) old (record { place = h.place; users = h.users; hosts = h.hosts; runas = f.runas; rows = rows }) all head

-- ---- The blocks of a section

-- the rows of a command in force are those of its grants
pub command-rows :
    (p : Policy) (h : Head) (f : InForce) (s : Section) (i : ℕ) (c : CommandSpec) → h.hosts.now ≡ s.hosts →
    IsInForce (take (i + 1) s.commands) f →
    map (signed_wide h f) (written_form kind.Cmnd p (c.command ∷ [])) ≡ map wide_of (place_grants p h.place h.users.now s (i, c))
unfolding place_grants runas_at tags_at
command-rows p h f s i c there at =
    map-same (signed_wide h f) (λ w. wide_of (grant_of h.place h.users.now s i w)) same (written_form kind.Cmnd p (c.command ∷ []))
    ∙ sym (map-twice wide_of (grant_of h.place h.users.now s i) (written_form kind.Cmnd p (c.command ∷ [])))
  where
    same : (w : Signed) → signed_wide h f w ≡ wide_of (grant_of h.place h.users.now s i w)
    same w = rw (there, at.0, at.1) refl

-- one command more
pub section-more :
    (p : Policy) (h : Head) (f : InForce) (s : Section) (i : ℕ) (c : CommandSpec) (first old new : List Wide) → i < length s.commands →
    c ≡ get_or s.commands i c → h.hosts.now ≡ s.hosts → IsInForce (take (i + 1) s.commands) f →
    old ≡ first ++ map wide_of (flat_map (place_grants p h.place h.users.now s) (take i (enumerate_from 0 s.commands))) →
    new ≡ old ++ map (signed_wide h f) (written_form kind.Cmnd p (c.command ∷ [])) →
    new ≡ first ++ map wide_of (flat_map (place_grants p h.place h.users.now s) (take (i + 1) (enumerate_from 0 s.commands)))
section-more p h f s i c first old new within is there at so_far more =
    let F : ℕ × CommandSpec → List Grant = place_grants p h.place h.users.now s in
    let E : List (ℕ × CommandSpec) = enumerate_from 0 s.commands in
    more ∙ ap (λ (rs : List Wide). rs ++ map (signed_wide h f) (written_form kind.Cmnd p (c.command ∷ []))) so_far
    ∙ ap (λ (rs : List Wide). (first ++ map wide_of (flat_map F (take i E))) ++ rs) (command-rows p h f s i c there at)
    ∙ append_assoc first (map wide_of (flat_map F (take i E))) (map wide_of (F (i, c)))
    ∙ ap (λ (rs : List Wide). first ++ rs) (sym (map-append wide_of (flat_map F (take i E)) (F (i, c))))
    ∙ ap (λ (gs : List Grant). first ++ map wide_of gs) (sym (flat-one F (take i E) (i, c)))
    ∙ ap (λ (xs : List (ℕ × CommandSpec)). first ++ map wide_of (flat_map F xs)) (sym (take-enumerated s.commands i c within is))

-- all commands
pub section-all :
    (p : Policy) (place : Place) (users : List Member) (s : Section) (i : ℕ) (first new : List Wide) → length s.commands ≤ i →
    new ≡ first ++ map wide_of (flat_map (place_grants p place users s) (take i (enumerate_from 0 s.commands))) →
    new ≡ first ++ map wide_of (section_grants p place users s)
unfolding section_grants
section-all p place users s i first new all so_far =
    so_far ∙ ap (λ (xs : List (ℕ × CommandSpec)). first ++ map wide_of (flat_map (place_grants p place users s) xs))
    (take_all i (enumerate_from 0 s.commands) (omega (arith, all, length-enumerate_from 0 s.commands)))

-- what is in force at one command more
pub in-force-more :
    (cs : List CommandSpec) (i : ℕ) (c : CommandSpec) (f g : InForce) → i < length cs → c ≡ get_or cs i c → IsInForce (take i cs) f →
    ((before : List CommandSpec) → IsInForce before f → IsInForce (before ++ c ∷ []) g) → IsInForce (take (i + 1) cs) g
in-force-more cs i c f g within is old more = subst (λ xs. IsInForce xs g) (sym (take-more cs i c within is)) (more (take i cs) old)

-- the runas in force at a command resolves, and so does the command
pub in-force-resolves :
    (p : Policy) (h : Head) (f : InForce) (cs : List CommandSpec) (i : ℕ) → IsInForce (take (i + 1) cs) f
    → list_all (command_resolves p) cs ≡ true →
    (resolves kind.User p h.users.now && resolves kind.Host p h.hosts.now) ≡ true → head_resolves p h f ≡ true
in-force-resolves p h f cs i at all lists =
    ap (λ b. b && runas_resolves p (option_copied f.runas)) lists
    ∙ ap (runas_resolves p) at.0 ∙ runas_before-resolves p (take (i + 1) cs) (all-taken (command_resolves p) (i + 1) cs all)

pub command-resolved :
    (p : Policy) (cs : List CommandSpec) (i : ℕ) (c : CommandSpec) → i < length cs → c ≡ get_or cs i c → list_all (command_resolves p) cs
    ≡ true →
    resolves kind.Cmnd p (c.command ∷ []) ≡ true
command-resolved p cs i c within is all =
    (and_parts (resolves kind.Cmnd p (c.command ∷ [])) (runas_resolves p c.runas) (all-there (command_resolves p) cs i c within is all)).0

-- ---- Sections and entries

-- one item more of a list of which each one has grants
pub grants-more :
    {X : Type 0} (f : X → List Grant) (xs : List X) (i : ℕ) (x : X) (first old new : List Wide) → i < length xs → x ≡ get_or xs i x →
    old ≡ first ++ map wide_of (flat_map f (take i xs)) → new ≡ old ++ map wide_of (f x) →
    new ≡ first ++ map wide_of (flat_map f (take (i + 1) xs))
grants-more f xs i x first old new within is so_far more =
    let A : List Grant = flat_map f (take i xs) in
    more ∙ ap (λ (rs : List Wide). rs ++ map wide_of (f x)) so_far
    ∙ append_assoc first (map wide_of A) (map wide_of (f x))
    ∙ ap (λ (rs : List Wide). first ++ rs) (sym (map-append wide_of A (f x)))
    ∙ ap (λ (gs : List Grant). first ++ map wide_of gs) (sym (flat-one f (take i xs) x))
    ∙ ap (λ (ys : List _). first ++ map wide_of (flat_map f ys)) (sym (take-more xs i x within is))

-- all entries
pub entries-all :
    (p : Policy) (blocks : List Block) (i : ℕ) → length p.entries ≤ i →
    flat_map block_wides blocks ≡ map wide_of (flat_map (entry_grants p) (take i p.entries)) → AreGrants p blocks
unfolding grants
entries-all p blocks i all so_far =
    so_far ∙ ap (λ (es : List Entry). map wide_of (flat_map (entry_grants p) es)) (take_all i p.entries all)
