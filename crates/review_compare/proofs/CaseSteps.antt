-- Cases row by row and block by block, and the same rows one by one.
use Rattle.std.proofs.Common.{◌≡◌, ◌≢◌, ◌<◌, ◌≤◌, ◌+◌, ◌∙◌, ℕ, suc, Bool, true, false, cond, ◌&&◌, List, [], ◌∷◌, ◌++◌}
use Rattle.std.proofs.Common.{Option, Result, Ok, Err, Some, ap, drop, flat_map, get_or, length, map, refl, sym}
use Rattle.std.specs.Prelude.{IfOk, bytes_eq, filter}
use Rattle.std.proofs.Math.ListN.{drop_of_length-le}
use Rattle.std.proofs.lemmas.List.{length-map}
use Rattle.std.proofs.lemmas.Slice.Eq.{bytes_eq-Decides}
use Rattle.sudo_text.specs.declared.token.Ch.{Ch}
use Rattle.sudo_grammar.specs.declared.kind.Atom.{Atom}
use Rattle.sudo_grammar.specs.declared.kind.Atom.TheVariants as atom
use Rattle.sudo_grammar.specs.declared.policy.Policy.{Policy}
use Rattle.sudo_match.specs.declared.patterns.Slash.TheVariants.{Not}
use Rattle.sudo_match.specs.declared.request.Request.{Request}
use Rattle.sudo_match.specs.declared.request.What.{What}
use Rattle.sudo_match.specs.KnownRows.{KnownRows}
use Rattle.sudo_match.specs.Matching.{arguments_fit, arguments_slash, command_fits}
use Rattle.sudo_match.specs.Pattern.{Part, fits, parts, path_chars}
use Rattle.sudo_verdict.specs.Questions.{Question, question_of}
use Rattle.sudo_verdict.specs.Values.{host_allowed, user_allowed}
use Rattle.review_grants.specs.Targets.{with_command}
use Rattle.review_grants.proofs.TargetLemmas.{runas_same}
use Rattle.review_compare.specs.declared.block.Block.{Block}
use Rattle.review_compare.specs.declared.block.BlockRow.{BlockRow}
use Rattle.review_compare.specs.declared.ruling.Ruled.{Ruled}
use Rattle.review_compare.specs.Blocks.{AreBlocks, block_decider, block_stands, standing}
use Rattle.review_compare.specs.Cases.{Cases, cases_if_known, cases_of, no_cases, same_row, same_rows, with_row, with_row_if, with_rows}
use Rattle.review_compare.specs.Cells.{Decider, Wide, deciders, policy_rows, wide_stands}
use Rattle.review_compare.specs.Simply.{char_part, chars_text, is_simple, path_of}
use Rattle.review_compare.specs.Body.Chosen.{deciders_of}
use Rattle.review_compare.specs.Body.Shown.{all_shown, shown}
use Rattle.review_compare.proofs.ChosenLemmas.{blocks-decide}
use Rattle.review_compare.proofs.CoveringLemmas.{text_is}
use Rattle.review_compare.proofs.RulingLemmas.{drop-at}
use Rattle.review_compare.proofs.SimplyLemmas.{simple-parts}

-- ---- Rows

module _ (c x : List ℕ) where
  rows-append : (k : Cases) (ds es : List Decider) → with_rows c x k (ds ++ es) ≡ with_rows c x (with_rows c x k ds) es
  rows-append k [] es = refl
  rows-append k (d ∷ ds) es = rows-append (with_row_if c x k d) ds es

  -- one row of a block more
  pub row-next : (k : Cases) (b : Block) (i : ℕ) (r : BlockRow) → i < length b.rows.items → r ≡ get_or b.rows.items i r →
      with_rows c x k (map (block_decider b) (drop i b.rows.items))
      ≡ with_rows c x (with_row_if c x k (block_decider b r)) (map (block_decider b) (drop (i + 1) b.rows.items))
  row-next k b i r less is =
      ap (λ (rs : List BlockRow). with_rows c x k (map (block_decider b) rs)) (drop-at b.rows.items i r less is)

  pub rows-done : (k : Cases) (b : Block) (i : ℕ) → length b.rows.items ≤ i →
      with_rows c x k (map (block_decider b) (drop i b.rows.items)) ≡ k
  rows-done k b i all =
      ap (λ (rs : List BlockRow). with_rows c x k (map (block_decider b) rs)) (drop_of_length-le b.rows.items all)

  -- ---- Blocks

  module _ (p : Policy) (q : Question) where
    pub away-block : (k : Cases) (b : Block) → block_stands p q b ≡ false → with_rows c x k (standing p q b) ≡ k
    away-block k b away = ap (λ s. with_rows c x k (cond s (map (block_decider b) b.rows.items) [])) away

    pub there-block : (k : Cases) (b : Block) → block_stands p q b ≡ true →
        with_rows c x k (deciders_of b) ≡ with_rows c x k (standing p q b)
    there-block k b there = sym (ap (λ s. with_rows c x k (cond s (map (block_decider b) b.rows.items) [])) there)

    -- one block more
    pub block-next : (k l : Cases) (bs : List Block) (i : ℕ) (b : Block) → i < length bs → b ≡ get_or bs i b →
        l ≡ with_rows c x k (standing p q b) →
        with_rows c x l (flat_map (standing p q) (drop (i + 1) bs)) ≡ with_rows c x k (flat_map (standing p q) (drop i bs))
    block-next k l bs i b less is more =
        ap (λ m. with_rows c x m (flat_map (standing p q) (drop (i + 1) bs))) more
        ∙ sym (rows-append k (standing p q b) (flat_map (standing p q) (drop (i + 1) bs)))
        ∙ sym (ap (λ (xs : List Block). with_rows c x k (flat_map (standing p q) xs)) (drop-at bs i b less is))

    pub blocks-done : (k : Cases) (bs : List Block) (i : ℕ) → length bs ≤ i →
        with_rows c x k (flat_map (standing p q) (drop i bs)) ≡ k
    blocks-done k bs i all =
        ap (λ (xs : List Block). with_rows c x k (flat_map (standing p q) xs)) (drop_of_length-le bs all)

filter-alike : {X : Type 0} (f g : X → Bool) → ((y : X) → f y ≡ g y) → (xs : List X) → filter f xs ≡ filter g xs
filter-alike f g same [] = refl
filter-alike f g same (y ∷ xs) =
    ap (λ b. cond b (y ∷ filter f xs) (filter f xs)) (same y)
    ∙ ap (λ (ys : List _). cond (g y) (y ∷ ys) ys) (filter-alike f g same xs)

-- the rows of a question do not depend on its command
same-deciders : (p : Policy) (q : Question) (c x : List ℕ) → deciders p (with_command q c x) ≡ deciders p q
same-deciders p q c x =
    ap (map (λ (w : Wide). w.decider))
    (filter-alike (wide_stands p (with_command q c x)) (wide_stands p q)
    (λ w. ap (λ b. (user_allowed p w.users q.user && host_allowed p w.hosts q.host) && b) (runas_same p q c x w.runas)) (policy_rows p))

-- the cases by all blocks are those of the request
pub blocks-cases : (p : Policy) (d : KnownRows) (r : Request) (q : Question) (bs : List Block) → AreBlocks p bs →
    question_of d r ≡ Ok (with_command q r.command r.arguments) →
    with_rows r.command r.arguments no_cases (flat_map (standing p q) bs) ≡ cases_of p d r
blocks-cases p d r q bs are known =
    ap (with_rows r.command r.arguments no_cases) (blocks-decide p q bs are ∙ sym (same-deciders p q r.command r.arguments))
    ∙ sym (ap (cases_if_known p) known)

pub unknown-cases : (p : Policy) (d : KnownRows) (r : Request) (what : What) → question_of d r ≡ Err what → no_cases ≡ cases_of p d r
unknown-cases p d r what unknown = sym (ap (cases_if_known p) unknown)

-- ---- The same rows

lengths-differ : (ds es : List Decider) → length ds ≢ length es → same_rows ds es ≡ false
lengths-differ [] [] other = absurd (other refl)
lengths-differ [] (e ∷ es) other = refl
lengths-differ (d ∷ ds) [] other = refl
lengths-differ (d ∷ ds) (e ∷ es) other =
    ap (λ b. same_row d e && b) (lengths-differ ds es (λ same. other (ap suc same))) ∙ and-no (same_row d e)
  where
    and-no : (b : Bool) → (b && false) ≡ false
    and-no true = refl
    and-no false = refl

pub shown-differ : (rs ss : List Ruled) → length rs ≢ length ss → same_rows (all_shown rs) (all_shown ss) ≡ false
shown-differ rs ss other =
    lengths-differ (all_shown rs) (all_shown ss) (λ same. other (sym (length-map rs shown) ∙ same ∙ length-map ss shown))

pub shown-next : (rs ss : List Ruled) (i : ℕ) (r s : Ruled) → i < length rs → i < length ss → r ≡ get_or rs i r → s ≡ get_or ss i s →
    same_rows (all_shown (drop i rs)) (all_shown (drop i ss))
    ≡ (same_row (shown r) (shown s) && same_rows (all_shown (drop (i + 1) rs)) (all_shown (drop (i + 1) ss)))
shown-next rs ss i r s own its is also =
    ap (λ (xs : List Ruled). same_rows (all_shown xs) (all_shown (drop i ss))) (drop-at rs i r own is)
    ∙ ap (λ (xs : List Ruled). same_rows (all_shown (r ∷ drop (i + 1) rs)) (all_shown xs)) (drop-at ss i s its also)

pub shown-done : (rs ss : List Ruled) (i : ℕ) → length rs ≤ i → length ss ≤ i →
    same_rows (all_shown (drop i rs)) (all_shown (drop i ss)) ≡ true
shown-done rs ss i all both =
    ap (λ (xs : List Ruled). same_rows (all_shown xs) (all_shown (drop i ss))) (drop_of_length-le rs all)
    ∙ ap (λ (xs : List Ruled). same_rows [] (all_shown xs)) (drop_of_length-le ss both)

-- ---- Paths of one text

-- a path that fits one text alone fits no other command
pub other-path : (path : List Ch) (args : Option (List Ch)) (t command arguments : List ℕ) → is_simple (path_chars path) ≡ true →
    chars_text (path_chars path) ≡ Some t → t ≢ command → command_fits (atom.Command path args) command arguments ≡ false
unfolding command_fits
other-path path args t command arguments simple one other = by (fits (parts (path_chars path)) command Not) refl
  where
    by : (b : Bool) → fits (parts (path_chars path)) command Not ≡ b →
        (fits (parts (path_chars path)) command Not && arguments_fit (arguments_slash path) args arguments) ≡ false
    by false is = ap (λ b. b && arguments_fit (arguments_slash path) args arguments) is
    by true is =
        absurd (other (sym (text_is Not (map char_part (path_chars path)) t command one
        (sym (ap (λ (ps : List Part). fits ps command Not) (simple-parts (path_chars path) simple)) ∙ is))))

-- what was searched is the cases of the request
pub searched-cases : (p : Policy) (d : KnownRows) (r : Request) (q : Question) (bs slice : List Block) (c x : List ℕ) (k : Cases) →
    AreBlocks p bs → question_of d r ≡ Ok (with_command q r.command r.arguments) → slice ≡ bs → c ≡ r.command → x ≡ r.arguments →
    k ≡ with_rows c x no_cases (flat_map (standing p q) slice) → k ≡ cases_of p d r
searched-cases p d r q bs slice c x k are known here command arguments is =
    is
    ∙ ap (λ (xs : List Block). with_rows c x no_cases (flat_map (standing p q) xs)) here
    ∙ ap (λ (t : List ℕ). with_rows t x no_cases (flat_map (standing p q) bs)) command
    ∙ ap (λ (t : List ℕ). with_rows r.command t no_cases (flat_map (standing p q) bs)) arguments
    ∙ blocks-cases p d r q bs are known

pub if-ok : {T E : Type 0} {P Q : T → Type 0} (r : Result T E) → ((y : T) → P y → Q y) → IfOk r P → IfOk r Q
if-ok (Ok y) f own = f y own
if-ok (Err fault) f own = tt

-- the same, by what the program compares
pub missed-command : (a : Atom) (path : List Ch) (args : Option (List Ch)) (cs : List Ch) (simple : Bool) (t slice command : List ℕ)
    (same : Bool) → a ≡ atom.Command path args → cs ≡ path_of a → simple ≡ is_simple cs → simple ≡ true → chars_text cs ≡ Some t →
    slice ≡ t → same ≡ bytes_eq slice command → same ≡ false → (arguments : List ℕ) → command_fits a command arguments ≡ false
missed-command a path args cs simple t slice command same is own plain sure one here compared differ arguments =
    let whole : cs ≡ path_chars path = own ∙ ap path_of is in
    ap (λ b. command_fits b command arguments) is
    ∙ other-path path args t command arguments (sym (ap is_simple whole) ∙ sym plain ∙ sure) (sym (ap chars_text whole) ∙ one)
    (λ alike.
    let bad : true ≡ false = sym ((bytes_eq-Decides slice command).1 (here ∙ alike)) ∙ sym compared ∙ differ in
    cc)
