-- What stands before each row in its line.
use Rattle.std.proofs.Common.{◌≡◌, ◌<◌, ◌≤◌, ◌+◌, ◌∙◌, ℕ, zero, suc, Bool, true, false, cond, ◌||◌, List, [], ◌∷◌, ◌++◌, ap, append_assoc}
use Rattle.std.proofs.Common.{arith, drop, flat_map, get_or, length, map, refl, subst, sym, take}
use Rattle.std.specs.Prelude.{◌==◌}
use Rattle.std.specs.List.{list_any}
use Rattle.std.proofs.Math.ListN.{drop_of_length-le}
use Rattle.std.proofs.lemmas.Bool.{and_parts, eqb-true}
use Rattle.std.proofs.lemmas.List.{map-append}
use Rattle.std.proofs.lemmas.List.Folds.{list_any-append}
use Rattle.sudo_text.specs.declared.line.Place.{Place}
use Rattle.sudo_grammar.specs.declared.kind.Atom.{Atom}
use Rattle.sudo_verdict.specs.Grants.{Grant}
use Rattle.review_grants.specs.Depends.{same_place}
use Rattle.review_grants.proofs.ListSteps.{flat-one, map-twice, take-more}
use Rattle.review_compare.specs.declared.block.Block.{Block}
use Rattle.review_compare.specs.declared.block.BlockRow.{BlockRow}
use Rattle.review_compare.specs.declared.walk.Walk.{Walk}
use Rattle.review_compare.specs.Blocks.{block_wide, block_wides}
use Rattle.review_compare.specs.Cells.{Wide, line_after, lined, lined_one, wide_of, with_before}
use Rattle.review_compare.specs.Lines.{Line, at_line, is_note_atom, noted}
use Rattle.review_compare.specs.Body.LineAtoms.{IsWalk, block_atoms, has_note, kept_row, line_behind, row_atom, turned}
use Rattle.review_compare.specs.Body.LineAtoms.{wide_atom, with_atom}
use Rattle.review_compare.proofs.ChangedLemmas.{or-parts}
use Rattle.review_compare.proofs.RulingLemmas.{drop-at}

-- ---- Steps of a walk

pub same-line : (a b : Place) → same_place a b ≡ true → a ≡ b
same-line a b e =
    let both = and_parts (a.file == b.file) (a.line == b.line) e in
    ap (λ n. let p : Place = record { file = n; line = a.line } in p) (eqb-true a.file b.file both.0)
    ∙ ap (λ n. let p : Place = record { file = b.file; line = n } in p) (eqb-true a.line b.line both.1)

-- the walk is in the line of the place
pub walk-here : (k : Walk) (place : Place) → same_place k.place place ≡ true → (l : Line) (rest : List Atom) → IsWalk k l rest →
    IsWalk k (turned l place) rest
walk-here k place same l rest is = record {
  place = same-line k.place place same;
  so_far = is.so_far ∙ sym here;
  to_come = is.to_come;
  notes = is.notes ∙ ap (list_any is_note_atom) (sym here);
}
  where
    here : at_line l place ≡ l.atoms
    here = ap (λ b. cond b l.atoms []) (ap (λ p. same_place p place) (sym is.place) ∙ same)

-- it is not, and begins that line
pub walk-turned : (k new : Walk) (place : Place) → same_place k.place place ≡ false → new.place ≡ place →
    new.rest.now ≡ drop k.passed k.rest.now → new.passed ≡ 0 → new.noted ≡ false → (l : Line) (rest : List Atom) → IsWalk k l rest →
    IsWalk new (turned l place) rest
walk-turned k new place other at left none unnoted l rest is = record {
  place = at;
  so_far = ap (λ n. take n new.rest.now) none ∙ sym empty;
  to_come = ap (λ n. drop n new.rest.now) none ∙ left ∙ is.to_come;
  notes = unnoted ∙ ap (list_any is_note_atom) (sym empty);
}
  where
    empty : at_line l place ≡ []
    empty = ap (λ b. cond b l.atoms []) (ap (λ p. same_place p place) (sym is.place) ∙ other)

pub before-some : (k : Walk) (xs : List Atom) → xs ≡ take k.passed k.rest.now → k.noted ≡ true → (l : Line) (rest : List Atom) →
    IsWalk k l rest → xs ≡ noted l.atoms
before-some k xs front some l rest is =
    front ∙ is.so_far ∙ sym (ap (λ b. cond b l.atoms []) (sym is.notes ∙ some))

pub before-none : (k : Walk) (xs : List Atom) → xs ≡ [] → k.noted ≡ false → (l : Line) (rest : List Atom) → IsWalk k l rest →
    xs ≡ noted l.atoms
before-none k xs empty none l rest is = empty ∙ sym (ap (λ b. cond b l.atoms []) (sym is.notes ∙ none))

-- one item more
item-after : {X : Type 0} (n : ℕ) (xs : List X) (x : X) (rest : List X) → drop n xs ≡ x ∷ rest →
    (take (suc n) xs ≡ take n xs ++ x ∷ []) × (drop (suc n) xs ≡ rest)
item-after zero [] x rest e = cc
item-after zero (y ∷ xs) x rest e =
    let first : y ≡ x = cc in
    let more : xs ≡ rest = cc in
    (ap (λ z. z ∷ []) first, more)
item-after (suc n) [] x rest e = cc
item-after (suc n) (y ∷ xs) x rest e =
    let both = item-after n xs x rest e in
    (ap (λ ys. y ∷ ys) both.0, both.1)

next-item : {X : Type 0} (n : ℕ) (xs : List X) (x : X) (rest : List X) → drop n xs ≡ x ∷ rest →
    (take (n + 1) xs ≡ take n xs ++ x ∷ []) × (drop (n + 1) xs ≡ rest)
next-item n xs x rest e =
    let both = item-after n xs x rest e in
    let on : n + 1 ≡ suc n = omega arith in
    (ap (λ k. take k xs) on ∙ both.0, ap (λ k. drop k xs) on ∙ both.1)

-- behind the next command
pub walk-behind : (k new : Walk) (note : Bool) → new.place ≡ k.place → new.rest.now ≡ k.rest.now → new.passed ≡ k.passed + 1 →
    new.noted ≡ (k.noted || note) → (l : Line) (a : Atom) (rest : List Atom) → note ≡ is_note_atom a → IsWalk k l (a ∷ rest) →
    IsWalk new (with_atom l a) rest
walk-behind k new note at left count notes l a rest own is =
    let next = next-item k.passed k.rest.now a rest is.to_come in
    record {
      place = at ∙ is.place;
      so_far =
          ap (λ (xs : List Atom). take new.passed xs) left ∙ ap (λ n. take n k.rest.now) count ∙ next.0
          ∙ ap (λ (xs : List Atom). xs ++ a ∷ []) is.so_far;
      to_come = ap (λ (xs : List Atom). drop new.passed xs) left ∙ ap (λ n. drop n k.rest.now) count ∙ next.1;
      notes =
          notes ∙ ap (λ b. b || note) is.notes ∙ ap (λ b. list_any is_note_atom l.atoms || b) (own ∙ sym (or-false (is_note_atom a)))
          ∙ sym (list_any-append is_note_atom l.atoms (a ∷ []));
    }
  where
    or-false : (b : Bool) → (b || false) ≡ b
    or-false true = refl
    or-false false = refl

-- no command is to come at the end
pub walk-ended : (k : Walk) → length k.rest.now ≤ k.passed → (l : Line) (a : Atom) (rest : List Atom) → IsWalk k l (a ∷ rest) → ⊥
walk-ended k all l a rest is =
    let none : drop k.passed k.rest.now ≡ [] = drop_of_length-le k.rest.now all in
    let bad : a ∷ rest ≡ [] = sym is.to_come ∙ none in
    cc

-- ---- Rows

pub row-kept : (b : Block) (rows new : List BlockRow) (r s : BlockRow) (before : List Atom) → is_note_atom r.shape.atom ≡ false →
    new ≡ rows ++ s ∷ [] → s.answer ≡ r.answer → s.before.now ≡ before → s.shape.atom ≡ r.shape.atom →
    map (block_wide b) new ≡ map (block_wide b) rows ++ kept_row b before r
row-kept b rows new r s before row is answer given atom =
    ap (map (block_wide b)) is ∙ map-append (block_wide b) rows (s ∷ [])
    ∙ ap (λ (w : Wide). map (block_wide b) rows ++ w ∷ []) same
    ∙ ap (λ n. map (block_wide b) rows ++ cond n [] (with_before before (block_wide b r) ∷ [])) (sym row)
  where
    same : block_wide b s ≡ with_before before (block_wide b r)
    same = rw (answer, given, atom) refl

pub lined-append : (l : Line) (vs ws : List Wide) → lined l (vs ++ ws) ≡ lined l vs ++ lined (line_behind l vs) ws
lined-append l [] ws = refl
lined-append l (v ∷ vs) ws =
    ap (λ (xs : List Wide). lined_one l v ++ xs) (lined-append (line_after l v) vs ws)
    ∙ sym (append_assoc (lined_one l v) (lined (line_after l v) vs) (lined (line_behind (line_after l v) vs) ws))

pub behind-append : (l : Line) (vs ws : List Wide) → line_behind l (vs ++ ws) ≡ line_behind (line_behind l vs) ws
behind-append l [] ws = refl
behind-append l (v ∷ vs) ws = behind-append (line_after l v) vs ws

-- so many rows of a block
abbrev pub first_wides : Block → ℕ → List Wide
first_wides b i = map (block_wide b) (take i b.rows.items)

-- the commands of the other rows, and those behind the block
abbrev pub other_atoms : Block → ℕ → List Atom → List Atom
other_atoms b i rest = map row_atom (drop i b.rows.items) ++ rest

-- one row more
first-more : (b : Block) (i : ℕ) (r : BlockRow) → i < length b.rows.items → r ≡ get_or b.rows.items i r →
    first_wides b (i + 1) ≡ first_wides b i ++ block_wide b r ∷ []
first-more b i r less is =
    ap (map (block_wide b)) (take-more b.rows.items i r less is) ∙ map-append (block_wide b) (take i b.rows.items) (r ∷ [])

pub other-next : (b : Block) (i : ℕ) (r : BlockRow) (rest : List Atom) → i < length b.rows.items → r ≡ get_or b.rows.items i r →
    other_atoms b i rest ≡ r.shape.atom ∷ other_atoms b (i + 1) rest
other-next b i r rest less is = ap (λ (rs : List BlockRow). map row_atom rs ++ rest) (drop-at b.rows.items i r less is)

pub row-lined : (b : Block) (i : ℕ) (r : BlockRow) (l : Line) (rows : List BlockRow) (new : List BlockRow) →
    i < length b.rows.items → r ≡ get_or b.rows.items i r → map (block_wide b) rows ≡ lined l (first_wides b i) →
    map (block_wide b) new
    ≡ map (block_wide b) rows ++ kept_row b (noted (turned (line_behind l (first_wides b i)) b.place).atoms) r →
    map (block_wide b) new ≡ lined l (first_wides b (i + 1))
row-lined b i r l rows new less is so_far more =
    more
    ∙ ap (λ (ws : List Wide). ws ++ kept_row b (noted (turned (line_behind l (first_wides b i)) b.place).atoms) r) so_far
    ∙ ap (λ (ws : List Wide). lined l (first_wides b i) ++ ws)
    (sym (nil-end (kept_row b (noted (turned (line_behind l (first_wides b i)) b.place).atoms) r)))
    ∙ sym (lined-append l (first_wides b i) (block_wide b r ∷ []))
    ∙ ap (lined l) (sym (first-more b i r less is))
  where
    nil-end : (ws : List Wide) → ws ++ [] ≡ ws
    nil-end [] = refl
    nil-end (w ∷ ws) = ap (λ (xs : List Wide). w ∷ xs) (nil-end ws)

pub row-behind : (b : Block) (i : ℕ) (r : BlockRow) (l : Line) (k : Walk) (rest : List Atom) → i < length b.rows.items →
    r ≡ get_or b.rows.items i r →
    IsWalk k (with_atom (turned (line_behind l (first_wides b i)) b.place) r.shape.atom) (other_atoms b (i + 1) rest) →
    IsWalk k (line_behind l (first_wides b (i + 1))) (other_atoms b (i + 1) rest)
row-behind b i r l k rest less is walk =
    subst (λ (m : Line). IsWalk k m (other_atoms b (i + 1) rest))
    (sym (behind-append l (first_wides b i) (block_wide b r ∷ [])) ∙ ap (line_behind l) (sym (first-more b i r less is))) walk

-- ---- Blocks

pub block-atoms : (b : Block) → map wide_atom (block_wides b) ≡ block_atoms b
block-atoms b = map-twice wide_atom (block_wide b) b.rows.items

-- the commands of all rows of the blocks
abbrev pub atoms_of : List Block → List Atom
atoms_of bs = map wide_atom (flat_map block_wides bs)

pub atoms-more : (b : Block) (bs : List Block) → atoms_of (b ∷ bs) ≡ block_atoms b ++ atoms_of bs
atoms-more b bs =
    map-append wide_atom (block_wides b) (flat_map block_wides bs) ∙ ap (λ (atoms : List Atom). atoms ++ atoms_of bs) (block-atoms b)

pub atoms-next : (bs : List Block) (i : ℕ) (b : Block) → i < length bs → b ≡ get_or bs i b →
    atoms_of (drop i bs) ≡ block_atoms b ++ atoms_of (drop (i + 1) bs)
atoms-next bs i b less is = ap atoms_of (drop-at bs i b less is) ∙ atoms-more b (drop (i + 1) bs)

pub atoms-push : (bs : List Block) (i : ℕ) (b : Block) → i < length bs → b ≡ get_or bs i b →
    atoms_of (take (i + 1) bs) ≡ atoms_of (take i bs) ++ block_atoms b
atoms-push bs i b less is =
    ap atoms_of (take-more bs i b less is) ∙ ap (map wide_atom) (flat-one block_wides (take i bs) b)
    ∙ map-append wide_atom (flat_map block_wides (take i bs)) (block_wides b)
    ∙ ap (λ (atoms : List Atom). atoms_of (take i bs) ++ atoms) (block-atoms b)

pub notes-next : (bs : List Block) (i : ℕ) (b : Block) → i < length bs → b ≡ get_or bs i b →
    has_note (flat_map block_wides (drop i bs)) ≡ (has_note (block_wides b) || has_note (flat_map block_wides (drop (i + 1) bs)))
notes-next bs i b less is =
    ap (λ (xs : List Block). has_note (flat_map block_wides xs)) (drop-at bs i b less is)
    ∙ list_any-append (λ (w : Wide). is_note_atom w.decider.atom) (block_wides b) (flat_map block_wides (drop (i + 1) bs))

-- ---- Policies without notes

-- where no row stands for a note, they are as they were
pub unnoted-lined : (l : Line) (gs : List Grant) → list_any is_note_atom l.atoms ≡ false → has_note (map wide_of gs) ≡ false →
    lined l (map wide_of gs) ≡ map wide_of gs
unnoted-lined l [] before none = refl
unnoted-lined l (g ∷ gs) before none =
    let both = or-parts (is_note_atom g.atom) (has_note (map wide_of gs)) none in
    ap (λ b. cond b [] (with_before (noted (at_line l g.place)) (wide_of g) ∷ []) ++ lined (line_after l (wide_of g)) (map wide_of gs))
    both.0
    ∙ ap (λ b. with_before (cond b (at_line l g.place) []) (wide_of g) ∷ lined (line_after l (wide_of g)) (map wide_of gs)) here
    ∙ ap (λ (ws : List Wide). wide_of g ∷ ws)
    (unnoted-lined (line_after l (wide_of g)) gs
    (list_any-append is_note_atom (at_line l g.place) (g.atom ∷ []) ∙ ap (λ b. b || (is_note_atom g.atom || false)) here
    ∙ ap (λ b. b || false) both.0) both.1)
  where
    of-line : (b : Bool) → list_any is_note_atom (cond b l.atoms []) ≡ false
    of-line true = before
    of-line false = refl

    here : list_any is_note_atom (at_line l g.place) ≡ false
    here = of-line (same_place l.place g.place)
