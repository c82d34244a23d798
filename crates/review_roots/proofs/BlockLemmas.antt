-- The blocks of a policy are its rows.
use Rattle.std.proofs.Common.{◌≡◌, ◌<◌, ◌≤◌, ◌+◌, ◌∙◌, ℕ, true, ◌&&◌, ◌||◌, List, [], ◌∷◌, ◌++◌, ap, append_assoc}
use Rattle.std.proofs.Common.{arith, take, flat_map, get_or, length, map, sym, subst, Vec, Global, Option, option_copied}
use Rattle.std.specs.Prelude.{is_some}
use Rattle.std.specs.List.{enumerate_from, list_all}
use Rattle.std.proofs.lemmas.List.{map-append, take_all}
use Rattle.std.proofs.lemmas.List.FromFn.{length-enumerate_from}
use Rattle.std.proofs.lemmas.Bool.{and_parts}
use Rattle.sudo_grammar.specs.declared.kind.Kind.TheVariants as kind
use Rattle.sudo_grammar.specs.declared.kind.Member.{Member}
use Rattle.sudo_grammar.specs.declared.kind.Signed.{Signed}
use Rattle.sudo_grammar.specs.declared.policy.CommandSpec.{CommandSpec}
use Rattle.sudo_grammar.specs.declared.policy.Entry.{Entry}
use Rattle.sudo_grammar.specs.declared.policy.Policy.{Policy}
use Rattle.sudo_grammar.specs.declared.policy.Runas.{Runas}
use Rattle.sudo_grammar.specs.declared.policy.Section.{Section}
use Rattle.sudo_match.specs.declared.request.Tags.{Tags}
use Rattle.sudo_policy.specs.Written.{written_form}
use Rattle.sudo_policy.specs.Resolving.{resolves, runas_resolves}
use Rattle.sudo_policy.specs.Body.Resolving.{command_resolves}
use Rattle.sudo_verdict.specs.Values.{is_all}
use Rattle.sudo_verdict.specs.Tagged.{runas_at, tags_at, tags_before, runas_before}
use Rattle.sudo_verdict.specs.Grants.{Grant, grants, grant_of, place_grants, section_grants, entry_grants}
use Rattle.sudo_verdict.proofs.SearchLaw.{runas_before-resolves}
use Rattle.review_texts.specs.Notes.{note_in}
use Rattle.review_grants.specs.declared.marks.Marks.{Marks}
use Rattle.review_grants.specs.Depends.{marks_at}
use Rattle.review_roots.specs.declared.block.Block.{Block}
use Rattle.review_roots.specs.declared.blocks.Head.{Head}
use Rattle.review_roots.specs.declared.blocks.InForce.{InForce}
use Rattle.review_roots.specs.declared.block.Sign.{Sign}
use Rattle.review_roots.specs.declared.effect.Effect.{Effect}
use Rattle.review_roots.specs.Body.Effects.{effect_of}
use Rattle.review_roots.specs.Blocks.{Row, row_of, sign_of, block_row, block_rows, AreBlocks}
use Rattle.review_roots.specs.Body.Heads.{IsInForce, signed_row, head_resolves}
use Rattle.review_grants.proofs.ListSteps.{take-more, take-enumerated, flat-one, all-taken, all-there, map-same, map-twice}

-- ---- The block of a command

abbrev pub block_of : (h : Head) (f : InForce) (signs : Vec Sign Global) (effect : Effect)
    → effect ≡ effect_of h.marks f.tags signs.items → Block
block_of h f signs effect is = record {
  place = h.place;
  users = h.users;
  hosts = h.hosts;
  runas = f.runas;
  tags = f.tags;
  marks = h.marks;
  signs = signs;
  effect = effect;
  effective = is;
}

-- one block more, with the signs of a command
pub block-pushed :
    (h : Head) (f : InForce) (signs : Vec Sign Global) (effect : Effect) (is : effect ≡ effect_of h.marks f.tags signs.items)
    (ws : List Signed)
    (old new : List Block) →
    new ≡ old ++ block_of h f signs effect is ∷ [] →
    signs.items ≡ map sign_of ws → flat_map block_rows new ≡ flat_map block_rows old ++ map (signed_row h f) ws
block-pushed h f signs effect is ws old new grown written =
    let b : Block = block_of h f signs effect is in
    ap (flat_map block_rows) grown ∙ flat-one block_rows old b
    ∙ ap (λ (rs : List Row). flat_map block_rows old ++ rs) (ap (map (block_row b)) written ∙ map-twice (block_row b) sign_of ws)

-- ---- The blocks of a section

-- the rows of a command in force are those of its grants
pub command-rows :
    (p : Policy) (h : Head) (f : InForce) (s : Section) (i : ℕ) (c : CommandSpec) → h.hosts.now ≡ s.hosts
    → h.marks ≡ marks_at p h.place → IsInForce (take (i + 1) s.commands) f →
    map (signed_row h f) (written_form kind.Cmnd p (c.command ∷ [])) ≡ map (row_of p) (place_grants p h.place h.users.now s (i, c))
unfolding place_grants runas_at tags_at
command-rows p h f s i c hosts marks at =
    map-same (signed_row h f) (λ w. row_of p (grant_of h.place h.users.now s i w)) same (written_form kind.Cmnd p (c.command ∷ []))
    ∙ sym (map-twice (row_of p) (grant_of h.place h.users.now s i) (written_form kind.Cmnd p (c.command ∷ [])))
  where
    row : List Member → Option Runas → Tags → Marks → Signed → Row
    row hs r t m w = record {
      place = h.place;
      users = h.users.now;
      hosts = hs;
      runas = r;
      tags = t;
      marks = m;
      negated = w.negated || is_some (note_in w.atom);
      all = is_all w.atom;
    }

    same : (w : Signed) → signed_row h f w ≡ row_of p (grant_of h.place h.users.now s i w)
    same w =
        ap (λ hs. row hs (option_copied f.runas) f.tags h.marks w) hosts
        ∙ ap (λ r. row s.hosts r f.tags h.marks w) at.0
        ∙ ap (λ t. row s.hosts (runas_before (take (i + 1) s.commands)) t h.marks w) at.1
        ∙ ap (λ m. row s.hosts (runas_before (take (i + 1) s.commands)) (tags_before (take (i + 1) s.commands)) m w) marks

-- one command more
pub section-more :
    (p : Policy) (h : Head) (f : InForce) (s : Section) (i : ℕ) (c : CommandSpec) (first old new : List Row) → h.hosts.now ≡ s.hosts
    → h.marks ≡ marks_at p h.place → i < length s.commands → c ≡ get_or s.commands i c → IsInForce (take (i + 1) s.commands) f →
    old ≡ first ++ map (row_of p) (flat_map (place_grants p h.place h.users.now s) (take i (enumerate_from 0 s.commands))) →
    new ≡ old ++ map (signed_row h f) (written_form kind.Cmnd p (c.command ∷ [])) →
    new ≡ first ++ map (row_of p) (flat_map (place_grants p h.place h.users.now s) (take (i + 1) (enumerate_from 0 s.commands)))
section-more p h f s i c first old new hosts marks within is at so_far more =
    let F : ℕ × CommandSpec → List Grant = place_grants p h.place h.users.now s in
    let E : List (ℕ × CommandSpec) = enumerate_from 0 s.commands in
    more ∙ ap (λ (rs : List Row). rs ++ map (signed_row h f) (written_form kind.Cmnd p (c.command ∷ []))) so_far
    ∙ ap (λ (rs : List Row). (first ++ map (row_of p) (flat_map F (take i E))) ++ rs) (command-rows p h f s i c hosts marks at)
    ∙ append_assoc first (map (row_of p) (flat_map F (take i E))) (map (row_of p) (F (i, c)))
    ∙ ap (λ (rs : List Row). first ++ rs) (sym (map-append (row_of p) (flat_map F (take i E)) (F (i, c))))
    ∙ ap (λ (gs : List Grant). first ++ map (row_of p) gs) (sym (flat-one F (take i E) (i, c)))
    ∙ ap (λ (xs : List (ℕ × CommandSpec)). first ++ map (row_of p) (flat_map F xs)) (sym (take-enumerated s.commands i c within is))

-- all commands
pub section-all :
    (p : Policy) (h : Head) (s : Section) (i : ℕ) (first new : List Row) → length s.commands ≤ i →
    new ≡ first ++ map (row_of p) (flat_map (place_grants p h.place h.users.now s) (take i (enumerate_from 0 s.commands))) →
    new ≡ first ++ map (row_of p) (section_grants p h.place h.users.now s)
unfolding section_grants
section-all p h s i first new all so_far =
    so_far ∙ ap (λ (xs : List (ℕ × CommandSpec)). first ++ map (row_of p) (flat_map (place_grants p h.place h.users.now s) xs))
    (take_all i (enumerate_from 0 s.commands) (omega (arith, all, length-enumerate_from 0 s.commands)))

-- what is in force at one command more
pub in-force-more :
    (cs : List CommandSpec) (i : ℕ) (c : CommandSpec) (f g : InForce) → i < length cs → c ≡ get_or cs i c → IsInForce (take i cs) f →
    ((before : List CommandSpec) → IsInForce before f → IsInForce (before ++ c ∷ []) g) → IsInForce (take (i + 1) cs) g
in-force-more cs i c f g within is old more = subst (λ xs. IsInForce xs g) (sym (take-more cs i c within is)) (more (take i cs) old)

-- the runas in force at a command resolves, and so does the command
pub in-force-resolves :
    (p : Policy) (h : Head) (f : InForce) (cs : List CommandSpec) (i : ℕ) → IsInForce (take (i + 1) cs) f
    → list_all (command_resolves p) cs ≡ true →
    resolves kind.User p h.users.now ≡ true → resolves kind.Host p h.hosts.now ≡ true → head_resolves p h f ≡ true
in-force-resolves p h f cs i at all users hosts =
    ap (λ b. (b && resolves kind.Host p h.hosts.now) && runas_resolves p (option_copied f.runas)) users
    ∙ ap (λ b. b && runas_resolves p (option_copied f.runas)) hosts
    ∙ ap (runas_resolves p) at.0 ∙ runas_before-resolves p (take (i + 1) cs) (all-taken (command_resolves p) (i + 1) cs all)

pub command-resolved :
    (p : Policy) (cs : List CommandSpec) (i : ℕ) (c : CommandSpec) → i < length cs → c ≡ get_or cs i c → list_all (command_resolves p) cs
    ≡ true →
    resolves kind.Cmnd p (c.command ∷ []) ≡ true
command-resolved p cs i c within is all =
    (and_parts (resolves kind.Cmnd p (c.command ∷ [])) (runas_resolves p c.runas) (all-there (command_resolves p) cs i c within is all)).0

-- ---- Sections and entries

-- one item more of a list of which each one has grants
pub grants-more :
    {X : Type 0} (p : Policy) (f : X → List Grant) (xs : List X) (i : ℕ) (x : X) (first old new : List Row) → i < length xs →
    x ≡ get_or xs i x → old ≡ first ++ map (row_of p) (flat_map f (take i xs)) → new ≡ old ++ map (row_of p) (f x) →
    new ≡ first ++ map (row_of p) (flat_map f (take (i + 1) xs))
grants-more p f xs i x first old new within is so_far more =
    let A : List Grant = flat_map f (take i xs) in
    more ∙ ap (λ (rs : List Row). rs ++ map (row_of p) (f x)) so_far
    ∙ append_assoc first (map (row_of p) A) (map (row_of p) (f x))
    ∙ ap (λ (rs : List Row). first ++ rs) (sym (map-append (row_of p) A (f x)))
    ∙ ap (λ (gs : List Grant). first ++ map (row_of p) gs) (sym (flat-one f (take i xs) x))
    ∙ ap (λ (ys : List _). first ++ map (row_of p) (flat_map f ys)) (sym (take-more xs i x within is))

-- all entries
pub entries-all :
    (p : Policy) (blocks : List Block) (i : ℕ) → length p.entries ≤ i →
    flat_map block_rows blocks ≡ map (row_of p) (flat_map (entry_grants p) (take i p.entries)) → AreBlocks p blocks
unfolding grants
entries-all p blocks i all so_far =
    so_far ∙ ap (λ (es : List Entry). map (row_of p) (flat_map (entry_grants p) es)) (take_all i p.entries all)
