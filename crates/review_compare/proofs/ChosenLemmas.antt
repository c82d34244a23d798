-- The blocks that stand for a question are the rows for its target.
use Rattle.std.proofs.Common.{◌≡◌, ◌<◌, ◌≤◌, ◌+◌, ◌∙◌, ℕ, zero, suc, Bool, true, false, cond, ◌&&◌, List, [], ◌∷◌, ◌++◌, ap, append-nil}
use Rattle.std.proofs.Common.{arith, refl, take, flat_map, get_or, length, map, sym, option_copied, Option, None, Some}
use Rattle.std.specs.Prelude.{filter, slice_get}
use Rattle.std.specs.List.{list_all, range_with_len}
use Rattle.std.proofs.lemmas.Bool.{and_from}
use Rattle.std.proofs.lemmas.Grind.{flat_map-append}
use Rattle.std.proofs.lemmas.List.{map-append, take_all}
use Rattle.std.proofs.lemmas.List.Elements.{filter-append}
use Rattle.std.proofs.lemmas.List.Folds.{list_all-append}
use Rattle.sudo_grammar.specs.declared.policy.Policy.{Policy}
use Rattle.sudo_match.specs.declared.people.Machine.{Machine}
use Rattle.sudo_match.specs.declared.people.Person.{Person}
use Rattle.sudo_verdict.specs.Values.{user_allowed, host_allowed}
use Rattle.sudo_verdict.specs.RunasForms.{runas_allows}
use Rattle.sudo_verdict.specs.Questions.{Question}
use Rattle.review_grants.proofs.ListSteps.{take-more, flat-one, flat-range, index-there, all-there, filter-constant, map-twice}
use Rattle.review_compare.specs.declared.block.Block.{Block}
use Rattle.review_compare.specs.Cells.{Decider, Wide, deciders, wide_stands}
use Rattle.review_compare.specs.Blocks.{block_decider, block_wide, block_wides, block_stands, standing, AreBlocks}
use Rattle.review_compare.specs.Body.Chosen.{user_if, host_if, runas_if, deciders_if, deciders_of, standing_if, user_at, host_at, runas_at}
use Rattle.review_compare.specs.Body.Chosen.{listed_at, deciders_at, standing_at, standing_among}

-- ---- Indices that are kept

-- the index, if it is kept
abbrev pub kept : Bool → ℕ → List ℕ
kept b i = cond b (i ∷ []) []

flat-kept : {X : Type 0} (f : ℕ → List X) (b : Bool) (i : ℕ) → flat_map f (kept b i) ≡ cond b (f i) []
flat-kept f true i = append-nil (f i)
flat-kept f false i = refl

-- one index more: what is kept answers what it is kept for
pub flat-more :
    {X : Type 0} (f g : ℕ → List X) (b : Bool) (i : ℕ) (old new : List ℕ) → new ≡ old ++ kept b i → (b ≡ true → f i ≡ g i) →
    (b ≡ false → g i ≡ []) → flat_map f new ≡ flat_map f old ++ g i
flat-more f g b i old new is keeps leaves =
    ap (flat_map f) is ∙ flat_map-append f old (kept b i) ∙ ap (λ xs. flat_map f old ++ xs) (flat-kept f b i ∙ go b keeps leaves)
  where
    go : (b : Bool) → (b ≡ true → f i ≡ g i) → (b ≡ false → g i ≡ []) → cond b (f i) [] ≡ g i
    go true keeps leaves = keeps refl
    go false keeps leaves = sym (leaves refl)

-- one index more of those that were given
pub flat-take : {X : Type 0} (f : ℕ → List X) (is : List ℕ) (at : ℕ) → at < length is →
    flat_map f (take (at + 1) is) ≡ flat_map f (take at is) ++ f (get_or is at 0)
flat-take f is at less =
    ap (flat_map f) (take-more is at (get_or is at 0) less (index-there is at 0 less)) ∙ flat-one f (take at is) (get_or is at 0)

pub all-at : (t : ℕ → Bool) (is : List ℕ) (at : ℕ) → at < length is → list_all t is ≡ true → t (get_or is at 0) ≡ true
all-at t is at less all = all-there t is at (get_or is at 0) less (index-there is at 0 less) all

pub all-more :
    (t : ℕ → Bool) (b : Bool) (i : ℕ) (old new : List ℕ) → new ≡ old ++ kept b i → (b ≡ true → t i ≡ true) → list_all t old ≡ true →
    list_all t new ≡ true
all-more t b i old new is keeps all =
    ap (list_all t) is ∙ list_all-append t old (kept b i) ∙ and_from (list_all t old) (list_all t (kept b i)) all (go b keeps)
  where
    go : (b : Bool) → (b ≡ true → t i ≡ true) → list_all t (kept b i) ≡ true
    go true keeps = ap (λ v. v && true) (keeps refl)
    go false keeps = refl

-- ---- Blocks that do not stand

none-if : (p : Policy) (q : Question) (on : Bool) (o : Option Block) → user_if p q.user o ≡ false → cond on (standing_if p q o) [] ≡ []
none-if p q false o e = refl
none-if p q true None e = refl
none-if p q true (Some b) e =
    ap (λ v. cond ((v && host_allowed p b.hosts.now q.host) && runas_allows p q (option_copied b.runas)) (map
    (block_decider b) b.rows.items) []) e

pub no-user : (p : Policy) (bs : List Block) (u : Person) (q : Question) (on : ℕ → Bool) (i : ℕ) → q.user ≡ u → user_at p bs u i ≡ false →
    standing_at p bs q on i ≡ []
no-user p bs u q on i is e = none-if p q (on i) (slice_get bs i) (ap (λ v. user_if p v (slice_get bs i)) is ∙ e)

none-on : (p : Policy) (q : Question) (on : Bool) (o : Option Block) → host_if p q.host o ≡ false → cond on (standing_if p q o) [] ≡ []
none-on p q false o e = refl
none-on p q true None e = refl
none-on p q true (Some b) e =
    ap (λ v. cond ((user_allowed p b.users.now q.user && v) && runas_allows p q (option_copied b.runas)) (map
    (block_decider b) b.rows.items) []) e
    ∙ go (user_allowed p b.users.now q.user)
  where
    go : (v : Bool) → cond ((v && false) && runas_allows p q (option_copied b.runas)) (map (block_decider b) b.rows.items) [] ≡ []
    go true = refl
    go false = refl

pub no-host : (p : Policy) (bs : List Block) (m : Machine) (q : Question) (on : ℕ → Bool) (i : ℕ) → q.host ≡ m → host_at p bs m i ≡ false →
    standing_at p bs q on i ≡ []
no-host p bs m q on i is e = none-on p q (on i) (slice_get bs i) (ap (λ v. host_if p v (slice_get bs i)) is ∙ e)

-- a block whose lists allow stands exactly if its runas allows
stands-if : (p : Policy) (q : Question) (o : Option Block) (b : Bool) → (user_if p q.user o && host_if p q.host o) ≡ true →
    runas_if p q o ≡ b →
    standing_if p q o ≡ cond b (deciders_if o) []
stands-if p q None b lists is = cc
stands-if p q (Some k) b lists is =
    ap (λ v. cond (v && runas_allows p q (option_copied k.runas)) (map (block_decider k) k.rows.items) []) lists
    ∙ ap (λ v. cond v (map (block_decider k) k.rows.items) []) is

pub stands-at :
    (p : Policy) (bs : List Block) (q : Question) (i : ℕ) (b : Bool) → listed_at p bs q.user q.host i ≡ true → runas_at p bs q i ≡ b →
    standing_at p bs q (λ _. true) i ≡ cond b (deciders_at bs i) []
stands-at p bs q i b lists is = stands-if p q (slice_get bs i) b lists is

-- ---- All blocks

there : {X : Type 0} (xs : List X) (i : ℕ) (x : X) → i < length xs → slice_get xs i ≡ Some (get_or xs i x)
there [] i x less = absurd (omega (arith, less))
there (x ∷ xs) zero y less = refl
there (x ∷ xs) (suc i) y less = there xs i y (omega (arith, less))

ranged : (p : Policy) (bs : List Block) (q : Question) (n : ℕ) (b : Block) → n ≤ length bs →
    standing_among p bs q (λ _. true) (range_with_len 0 n) ≡ flat_map (standing p q) (take n bs)
ranged p bs q zero b within = refl
ranged p bs q (suc n) b within =
    let less : n < length bs = omega (arith, within) in
    let on : suc n ≡ n + 1 = omega arith in
    let x : Block = get_or bs n b in
    let is : x ≡ get_or bs n x = same-default bs n b less in
    ap (λ k. standing_among p bs q (λ _. true) (range_with_len 0 k)) on
    ∙ flat-range (standing_at p bs q (λ _. true)) n
    ∙ ap (λ ds. ds ++ standing_at p bs q (λ _. true) n) (ranged p bs q n b (omega (arith, within)))
    ∙ ap (λ o. flat_map (standing p q) (take n bs) ++ standing_if p q o) (there bs n b less)
    ∙ sym (flat-one (standing p q) (take n bs) x)
    ∙ ap (flat_map (standing p q)) (sym (take-more bs n x less is))
    ∙ ap (λ k. flat_map (standing p q) (take k bs)) (sym on)
  where
    same-default : {X : Type 0} (xs : List X) (i : ℕ) (d : X) → i < length xs → get_or xs i d ≡ get_or xs i (get_or xs i d)
    same-default [] i d less = absurd (omega (arith, less))
    same-default (x ∷ xs) zero d less = refl
    same-default (x ∷ xs) (suc i) d less = go xs i d (get_or xs i d) (omega (arith, less))
      where
        go : {X : Type 0} (xs : List X) (i : ℕ) (d e : X) → i < length xs → get_or xs i d ≡ get_or xs i e
        go [] i d e less = absurd (omega (arith, less))
        go (x ∷ xs) zero d e less = refl
        go (x ∷ xs) (suc i) d e less = go xs i d e (omega (arith, less))

pub all-stand : (p : Policy) (bs : List Block) (q : Question) →
    standing_among p bs q (λ _. true) (range_with_len 0 (length bs)) ≡ flat_map (standing p q) bs
all-stand p [] q = refl
all-stand p (b ∷ bs) q =
    ranged p (b ∷ bs) q (length (b ∷ bs)) b (omega arith)
    ∙ ap (flat_map (standing p q)) (take_all (length (b ∷ bs)) (b ∷ bs) (omega arith))

-- ---- The rows for the target

abbrev answers : Wide → Decider
answers w = w.decider

block-stands : (p : Policy) (q : Question) (b : Block) → map answers (filter (wide_stands p q) (block_wides b)) ≡ standing p q b
block-stands p q b =
    ap (map answers) (filter-constant (wide_stands p q) (block_wide b) (block_stands p q b) (λ r. refl) b.rows.items)
    ∙ go (block_stands p q b)
  where
    go : (s : Bool) → map answers (cond s (map (block_wide b) b.rows.items) []) ≡ cond s (map (block_decider b) b.rows.items) []
    go true = map-twice answers (block_wide b) b.rows.items
    go false = refl

blocks-stand : (p : Policy) (q : Question) (bs : List Block) →
    map answers (filter (wide_stands p q) (flat_map block_wides bs)) ≡ flat_map (standing p q) bs
blocks-stand p q [] = refl
blocks-stand p q (b ∷ bs) =
    ap (map answers) (filter-append (wide_stands p q) (block_wides b) (flat_map block_wides bs))
    ∙ map-append answers (filter (wide_stands p q) (block_wides b)) (filter (wide_stands p q) (flat_map block_wides bs))
    ∙ ap (λ (ds : List Decider). ds ++ map answers (filter (wide_stands p q) (flat_map block_wides bs))) (block-stands p q b)
    ∙ ap (λ (ds : List Decider). standing p q b ++ ds) (blocks-stand p q bs)

pub blocks-decide : (p : Policy) (q : Question) (bs : List Block) → AreBlocks p bs → flat_map (standing p q) bs ≡ deciders p q
blocks-decide p q bs are =
    sym (blocks-stand p q bs) ∙ ap (λ (ws : List Wide). map answers (filter (wide_stands p q) ws)) are

-- ---- The block at an index

pub deciders-there : (bs : List Block) (i : ℕ) (b : Block) → i < length bs → b ≡ get_or bs i b → deciders_at bs i ≡ deciders_of b
deciders-there bs i b less is = ap deciders_if (there bs i b less ∙ ap (λ k. Some k) (sym is))

past : {X : Type 0} (xs : List X) (i : ℕ) → length xs ≤ i → slice_get xs i ≡ None
past [] i e = refl
past (x ∷ xs) zero e = absurd (omega (arith, e))
past (x ∷ xs) (suc i) e = past xs i (omega (arith, e))

pub deciders-past : (bs : List Block) (i : ℕ) → length bs ≤ i → deciders_at bs i ≡ []
deciders-past bs i e = ap deciders_if (past bs i e)
