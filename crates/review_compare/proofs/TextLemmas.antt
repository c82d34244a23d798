-- Names with a comma and a space between them, and the records of rows.
use Rattle.std.proofs.Common.{◌≡◌, ◌∙◌, ℕ, Bool, true, false, cond, List, [], ◌∷◌, ◌++◌, ap, flat_map, length, map, refl, sym}
use Rattle.std.proofs.Common.{arith, ◌+◌, ◌-◌, ◌/◌, ◌≤◌, ◌⊎◌, inl, inr, length-append, min, subst, suc, zero}
use Rattle.std.specs.Prelude.{◌*◌, ◌==◌, Option, None, Some, codes, drop, filter, nat_lt, not}
use Rattle.std.proofs.lemmas.Bool.{eqb-true, le-ltb, or_cases}
use Rattle.std.specs.List.{range_with_len}
use Rattle.std.proofs.lemmas.List.Elements.{filter-append}
use Rattle.review_grants.specs.GrantRows.{joined}
use Rattle.csv.specs.Writing.{default_writer, fields_text}
use Rattle.sudo_text.specs.declared.line.Place.{Place}
use Rattle.sudo_grammar.specs.declared.policy.Policy.{Policy}
use Rattle.sudo_match.specs.declared.people.Group.{Group}
use Rattle.sudo_match.specs.KnownRows.{KnownRows}
use Rattle.review_texts.specs.Notes.{notes}
use Rattle.review_grants.specs.declared.marks.Marks.{Marks}
use Rattle.review_grants.specs.Depends.{depends_text, has_mark, joined_marks, marks_at}
use Rattle.review_compare.specs.declared.compared.Compared.{Compared}
use Rattle.review_compare.specs.declared.compared.Compared.TheVariants as compared
use Rattle.review_compare.specs.declared.compared.Decider.{Decider}
use Rattle.review_compare.specs.declared.row.Row.{Row}
use Rattle.review_compare.specs.declared.text.Names.{Names}
use Rattle.review_compare.specs.declared.witness.Witness.{Witness}
use Rattle.review_grants.proofs.ListSteps.{range-more}
use Rattle.review_compare.specs.Body.Merged.{is_among}
use Rattle.review_compare.specs.Table.{Source, all_but, found_lines, missing, name_at, names_text, row_head, row_lines}
use Rattle.review_compare.specs.Table.{row_marks, row_texts, row_verdict}
use Rattle.review_compare.specs.Table.{rows_depend, source_of, verdicts_text, witness_line}
use Rattle.review_compare.specs.Body.Lines.{AreNames, head_of, lines_of, separated}

flat-mapped : (names : List (List ℕ)) (numbers : List ℕ) →
    flat_map (λ i. separated (name_at names i)) numbers ≡ flat_map (λ text. 44 ∷ 32 ∷ text) (map (name_at names) numbers)
flat-mapped names [] = refl
flat-mapped names (i ∷ numbers) = ap (λ (xs : List ℕ). (44 ∷ 32 ∷ name_at names i) ++ xs) (flat-mapped names numbers)

pub names-joined : (names : List (List ℕ)) (numbers : List ℕ) →
    nat_lt (4 * length (missing (length names) numbers)) (length numbers) ≡ false →
    drop 2 (flat_map (λ i. separated (name_at names i)) numbers) ≡ names_text names numbers
names-joined names numbers e =
    ap (drop 2) (flat-mapped names numbers)
    ∙ sym (ap (λ b. cond b (all_but names (missing (length names) numbers)) (joined (map (name_at names) numbers))) e)

-- one index more
pub missing-more : (numbers : List ℕ) (n : ℕ) →
    missing (n + 1) numbers ≡ missing n numbers ++ cond (not (is_among numbers n)) (n ∷ []) []
missing-more numbers n =
    ap (λ k. missing k numbers) (let e : n + 1 ≡ suc n = omega arith in e)
    ∙ ap (filter is_missing) (range-more 0 n)
    ∙ filter-append is_missing (range_with_len 0 n) ((0 + n) ∷ [])
    ∙ ap (λ k. filter is_missing (range_with_len 0 n) ++ cond (is_missing k) (k ∷ []) []) (let e : 0 + n ≡ n = omega arith in e)
  where
    is_missing : ℕ → Bool
    is_missing i = not (is_among numbers i)

-- how many of the numbers are below a count
abbrev below : ℕ → List ℕ → ℕ
below n [] = 0
below n (m ∷ ms) = min 1 (n - m) + below n ms

below-all : (n : ℕ) (ms : List ℕ) → below n ms ≤ length ms
below-all n [] = let e : below n [] ≡ 0 = refl in omega (arith, e)
below-all n (m ∷ ms) = let all = below-all n ms in omega (arith, all)

below-more : (n : ℕ) (ms : List ℕ) → below n ms ≤ below (n + 1) ms
below-more n [] = let e : below n [] ≡ 0 = refl in omega (arith, e)
below-more n (m ∷ ms) = let more = below-more n ms in omega (arith, more)

below-among : (n : ℕ) (ms : List ℕ) → is_among ms n ≡ true → below n ms + 1 ≤ below (n + 1) ms
below-among n [] e = cc
below-among n (m ∷ ms) e = go (below-more n ms) (below-among n ms) (or_cases (m == n) (is_among ms n) e)
  where
    go : below n ms ≤ below (n + 1) ms → (is_among ms n ≡ true → below n ms + 1 ≤ below (n + 1) ms) →
        ((m == n) ≡ true) ⊎ (is_among ms n ≡ true) → below n (m ∷ ms) + 1 ≤ below (n + 1) (m ∷ ms)
    go more on (inl is) = let same = eqb-true m n is in omega (arith, same, more)
    go more on (inr among) = let one = on among in omega (arith, one)

-- one index more is missing, unless it is one of the numbers
missing-step : (numbers : List ℕ) (n : ℕ) → n ≤ length (missing n numbers) + below n numbers → (b : Bool) → is_among numbers n ≡ b →
    n + 1 ≤ length (missing (n + 1) numbers) + below (n + 1) numbers
missing-step numbers n so_far b e = go b e
  where
    long : (b : Bool) → is_among numbers n ≡ b →
        length (missing (n + 1) numbers) ≡ length (missing n numbers) + length (cond (not b) (n ∷ []) [])
    long b e =
        ap length (missing-more numbers n) ∙ length-append (missing n numbers) (cond (not (is_among numbers n)) (n ∷ []) [])
        ∙ ap (λ x. length (missing n numbers) + length (cond (not x) (n ∷ []) [])) e

    go : (b : Bool) → is_among numbers n ≡ b → n + 1 ≤ length (missing (n + 1) numbers) + below (n + 1) numbers
    go true e = let more = below-among n numbers e in let same = long true e in omega (arith, so_far, more, same)
    go false e = let more = below-more n numbers in let one = long false e in omega (arith, so_far, more, one)

-- an index below a count is missing, or a number is below the count for it
missing-least : (numbers : List ℕ) (n : ℕ) → n ≤ length (missing n numbers) + below n numbers
missing-least numbers zero = omega arith
missing-least numbers (suc n) =
    subst (λ k. k ≤ length (missing k numbers) + below k numbers) (let e : n + 1 ≡ suc n = omega arith in e)
    (missing-step numbers n (missing-least numbers n) (is_among numbers n) refl)

-- where at most half of the names are listed, at least as many are missing
pub few-listed : (numbers : List ℕ) (count : ℕ) → length numbers ≤ count / 2 →
    nat_lt (4 * length (missing count numbers)) (length numbers) ≡ false
few-listed numbers count half =
    let least = missing-least numbers count in
    let all = below-all count numbers in
    let twice : 2 * length numbers ≤ count = omega (arith, half) in
    le-ltb (4 * length (missing count numbers)) (length numbers) (omega (arith, least, all, twice))

-- the head of a row by names
head-same : (names : Names) (d : KnownRows) (groups : List Group) → AreNames d groups names → (row : Row) →
    head_of names row ≡ row_head d groups row
head-same names d groups are row = rw (are.users, are.hosts, are.groups_too) refl

-- ---- What lines depend on

marks-same : (s t : Source) → ((at : Place) → s.marks at ≡ t.marks at) → (o : Option Decider) → row_marks s o ≡ row_marks t o
marks-same s t same None = refl
marks-same s t same (Some d) = same d.place

depend-same : (s t u v : Source) → ((at : Place) → s.marks at ≡ u.marks at) → ((at : Place) → t.marks at ≡ v.marks at) →
    (old new : Option Decider) → rows_depend s t old new ≡ rows_depend u v old new
depend-same s t u v own other old new =
    ap (λ (m : Marks). depends_text (filter (has_mark (joined_marks m (row_marks t new))) notes)) (marks-same s u own old)
    ∙ ap (λ (m : Marks). depends_text (filter (has_mark (joined_marks (row_marks u old) m)) notes)) (marks-same t v other new)

found-same : (files more : List (List ℕ)) (f g h k : Place → Marks) → ((at : Place) → f at ≡ h at) → ((at : Place) → g at ≡ k at) →
    (head : List ℕ) (found : Compared) →
    found_lines (record { files = files; marks = f }) (record { files = more; marks = g }) head found
    ≡ found_lines (record { files = files; marks = h }) (record { files = more; marks = k }) head found
found-same files more f g h k own other head compared.Same = refl
found-same files more f g h k own other head (compared.Differs ws) = by ws
  where
    by : (ws : List Witness) →
        flat_map (witness_line (record { files = files; marks = f }) (record { files = more; marks = g }) head) ws
        ≡ flat_map (witness_line (record { files = files; marks = h }) (record { files = more; marks = k }) head) ws
    by [] = refl
    by (w ∷ ws) =
        ap (λ (xs : List ℕ). witness_line (record { files = files; marks = f }) (record { files = more; marks = g }) head w ++ xs)
        (by ws)
found-same files more f g h k own other head (compared.May old new) =
    let s : Source = record { files = files; marks = f } in
    let t : Source = record { files = more; marks = g } in
    let u : Source = record { files = files; marks = h } in
    let v : Source = record { files = more; marks = k } in
    ap (λ (depends : List ℕ). head ++ (fields_text default_writer (codes "may" ∷ drop 2 (row_texts old ++ row_texts new) ∷ [] ∷ [])
    ++ verdicts_text s t (row_verdict old) (row_verdict new) depends)) (depend-same s t u v own other old new)

-- where the same paths and marks are given, the lines of the rows are those of the table
pub sources-same : (s t : Source) (names : Names) (p r : Policy) (d : KnownRows) (groups : List Group) → AreNames d groups names →
    s.files ≡ p.files → t.files ≡ r.files → ((at : Place) → s.marks at ≡ marks_at p at) → ((at : Place) → t.marks at ≡ marks_at r at) →
    (rows : List Row) → flat_map (lines_of s t names) rows ≡ flat_map (row_lines (source_of p) (source_of r) d groups) rows
sources-same s t names p r d groups are own other marked also [] = refl
sources-same s t names p r d groups are own other marked also (row ∷ rows) =
    ap (λ (xs : List ℕ). lines_of s t names row ++ xs) (sources-same s t names p r d groups are own other marked also rows)
    ∙ ap (λ (xs : List ℕ). xs ++ flat_map (row_lines (source_of p) (source_of r) d groups) rows)
    (ap (λ (files : List (List ℕ)). found_lines (record { files = files; marks = s.marks }) t (head_of names row) row.found) own
    ∙ ap (λ (files : List (List ℕ)). found_lines (record { files = p.files; marks = s.marks })
    (record { files = files; marks = t.marks }) (head_of names row) row.found) other
    ∙ found-same p.files r.files s.marks t.marks (marks_at p) (marks_at r) marked also (head_of names row) row.found
    ∙ ap (λ (head : List ℕ). found_lines (source_of p) (source_of r) head row.found) (head-same names d groups are row))
