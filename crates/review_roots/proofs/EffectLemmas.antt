-- What the rows of a block give, by their effect.
use Rattle.std.proofs.Common.{◌≡◌, ◌∙◌, Bool, true, false, not, cond, ◌&&◌, ◌||◌, List, [], ◌∷◌, ap, map, refl, sym, Option, Some}
use Rattle.std.specs.List.{list_any}
use Rattle.sudo_match.specs.declared.request.Tags.{Tags}
use Rattle.review_grants.specs.declared.marks.Marks.{Marks}
use Rattle.review_grants.specs.Depends.{is_unmarked, joined_marks, unmarked}
use Rattle.review_grants.proofs.NotedLemmas.{same-marks}
use Rattle.review_roots.specs.declared.block.Block.{Block}
use Rattle.review_roots.specs.declared.block.Sign.{Sign}
use Rattle.review_roots.specs.declared.given.AllowingRow.{AllowingRow}
use Rattle.review_roots.specs.declared.given.Given.{Given}
use Rattle.review_roots.specs.declared.level.Level.{Level}
use Rattle.review_roots.specs.declared.level.Level.TheVariants as level
use Rattle.review_roots.specs.Blocks.{block_row, block_rows, with_row, with_rows}
use Rattle.review_roots.specs.Body.Effects.{allows_one, effect_of, free_behind, free_by, level_behind, level_by, marks_behind, marks_by}
use Rattle.review_roots.specs.Body.Effects.{own_marks, unasked_behind, unasked_by}
use Rattle.review_roots.specs.Body.Rows.{by_behind}
use Rattle.review_grants.proofs.ItemLemmas.{or-false}

-- ---- The notes on which it depends

pub joined-none : (m : Marks) → joined_marks m unmarked ≡ m
joined-none m = same-marks (joined_marks m unmarked) m (or-false m.digest) (or-false m.time) (or-false m.chroot)
    (or-false m.regex)

joined-again : (m n : Marks) → joined_marks (joined_marks m n) n ≡ joined_marks m n
joined-again m n =
    same-marks (joined_marks (joined_marks m n) n) (joined_marks m n)
    (again m.digest n.digest) (again m.time n.time) (again m.chroot n.chroot) (again m.regex n.regex)
  where
    again : (a b : Bool) → ((a || b) || b) ≡ (a || b)
    again true b = refl
    again false true = refl
    again false false = refl

-- rows without notes
plain-behind : (own m : Marks) (signs : List Sign) → is_unmarked own ≡ true
    → marks_behind own m signs ≡ cond (list_any (λ s. s.all) signs) unmarked m
plain-behind own m [] none = refl
plain-behind own m (s ∷ signs) none =
    ap (λ k. marks_behind own (cond k (cond s.all unmarked m) (joined_marks m own)) signs) none
    ∙ plain-behind own (cond s.all unmarked m) signs none ∙ go s.all (list_any (λ s. s.all) signs)
  where
    go : (a any : Bool) → cond any unmarked (cond a unmarked m) ≡ cond (a || any) unmarked m
    go true true = refl
    go true false = refl
    go false any = refl

-- rows with notes
noted-behind : (own m : Marks) (signs : List Sign) → is_unmarked own ≡ false
    → marks_behind own m signs ≡ joined_marks m (own_marks own signs)
noted-behind own m [] some = sym (joined-none m)
noted-behind own m (s ∷ []) some = ap (λ k. cond k (cond s.all unmarked m) (joined_marks m own)) some
noted-behind own m (s ∷ t ∷ signs) some =
    ap (λ k. marks_behind own (cond k (cond s.all unmarked m) (joined_marks m own)) (t ∷ signs)) some
    ∙ noted-behind own (joined_marks m own) (t ∷ signs) some ∙ joined-again m own

marks-by-effect : (own : Marks) (tags : Tags) (signs : List Sign) (m : Marks) → marks_by (effect_of own tags signs) m
    ≡ marks_behind own m signs
marks-by-effect own tags signs m = go (is_unmarked own) refl
  where
    unmarked-is : (k : Marks) → is_unmarked k ≡ true → k ≡ unmarked
    unmarked-is k e =
        let one = parts k.digest (not k.time && (not k.chroot && not k.regex)) e in
        let two = parts k.time (not k.chroot && not k.regex) one.1 in
        let three = parts k.chroot (not k.regex) two.1 in
        same-marks k unmarked one.0 two.0 three.0 (last k.regex three.1)
      where
        parts : (a rest : Bool) → (not a && rest) ≡ true → (a ≡ false) × (rest ≡ true)
        parts false rest e = (refl, e)
        parts true rest e = cc

        last : (a : Bool) → not a ≡ true → a ≡ false
        last false e = refl
        last true e = cc

    own-is : (ss : List Sign) → is_unmarked own ≡ true → own_marks own ss ≡ unmarked
    own-is [] none = refl
    own-is (s ∷ ss) none = unmarked-is own none

    go : (k : Bool) → is_unmarked own ≡ k
        → cond (is_unmarked own && list_any (λ s. s.all) signs) unmarked (joined_marks m (own_marks own signs)) ≡ marks_behind own m signs
    go true none =
        ap (λ k. cond (k && list_any (λ s. s.all) signs) unmarked (joined_marks m (own_marks own signs))) none
        ∙ ap (λ n. cond (list_any (λ s. s.all) signs) unmarked n)
        (ap (joined_marks m) (own-is signs none) ∙ joined-none m)
        ∙ sym (plain-behind own m signs none)
    go false some =
        ap (λ k. cond (k && list_any (λ s. s.all) signs) unmarked (joined_marks m (own_marks own signs))) some
        ∙ sym (noted-behind own m signs some)

-- ---- All that rows give

rows-behind :
    (b : Block) (signs : List Sign) (a : Given) →
    with_rows a (map (block_row b) signs) ≡ record {
      level = level_behind b.marks a.level signs;
      free = free_behind b.marks b.tags a.free signs;
      unasked = unasked_behind b.marks b.tags a.unasked signs;
      by = cond (allows_one signs) (Some (record { place = b.place; tags = b.tags })) a.by;
      marks = marks_behind b.marks a.marks signs;
    }
rows-behind b [] a = refl
rows-behind b (s ∷ signs) a =
    rows-behind b signs (with_row a (block_row b s))
    ∙ ap (λ by. record {
      level = level_behind b.marks a.level (s ∷ signs);
      free = free_behind b.marks b.tags a.free (s ∷ signs);
      unasked = unasked_behind b.marks b.tags a.unasked (s ∷ signs);
      by = by;
      marks = marks_behind b.marks a.marks (s ∷ signs);
    })
    (last s.negated (allows_one signs))
  where
    row : AllowingRow
    row = record { place = b.place; tags = b.tags }

    last : (n any : Bool) → cond any (Some row) (cond n a.by (Some row)) ≡ cond (not n || any) (Some row) a.by
    last true any = refl
    last false true = refl
    last false false = refl

pub level-by-effect : (marks : Marks) (tags : Tags) (signs : List Sign) (l : Level) → level_by (effect_of marks tags signs) l
    ≡ level_behind marks l signs
level-by-effect marks tags signs level.None = refl
level-by-effect marks tags signs level.Listed = refl
level-by-effect marks tags signs level.AllBut = refl
level-by-effect marks tags signs level.All = refl

free-by-effect : (marks : Marks) (tags : Tags) (signs : List Sign) (free : Bool) → free_by (effect_of marks tags signs) free
    ≡ free_behind marks tags free signs
free-by-effect marks tags signs true = refl
free-by-effect marks tags signs false = refl

unasked-by-effect :
    (marks : Marks) (tags : Tags) (signs : List Sign) (unasked : Bool) → unasked_by (effect_of marks tags signs) unasked
    ≡ unasked_behind marks tags unasked signs
unasked-by-effect marks tags signs true = refl
unasked-by-effect marks tags signs false = refl

pub block-gives :
    (b : Block) (a : Given) (l : Level) (free unasked : Bool) (by : Option AllowingRow) (m : Marks) → l ≡ level_by b.effect a.level →
    free ≡ free_by b.effect a.free → unasked ≡ unasked_by b.effect a.unasked → by ≡ by_behind b a.by → m ≡ marks_by b.effect a.marks →
    record { level = l; free = free; unasked = unasked; by = by; marks = m } ≡ with_rows a (block_rows b)
block-gives b a l free unasked by m level frees lets last notes =
    ap (λ l. record { level = l; free = free; unasked = unasked; by = by; marks = m })
    (level ∙ ap (λ e. level_by e a.level) b.effective ∙ level-by-effect b.marks b.tags b.signs.items a.level)
    ∙ ap (λ f. record { level = level_behind b.marks a.level b.signs.items; free = f; unasked = unasked; by = by; marks = m })
    (frees ∙ ap (λ e. free_by e a.free) b.effective ∙ free-by-effect b.marks b.tags b.signs.items a.free)
    ∙ ap (λ o. record {
      level = level_behind b.marks a.level b.signs.items;
      free = free_behind b.marks b.tags a.free b.signs.items;
      unasked = o;
      by = by;
      marks = m;
    })
    (lets ∙ ap (λ e. unasked_by e a.unasked) b.effective ∙ unasked-by-effect b.marks b.tags b.signs.items a.unasked)
    ∙ ap (λ by. record {
      level = level_behind b.marks a.level b.signs.items;
      free = free_behind b.marks b.tags a.free b.signs.items;
      unasked = unasked_behind b.marks b.tags a.unasked b.signs.items;
      by = by;
      marks = m;
    })
    (last ∙ ap (λ e. cond e.allows (Some (record { place = b.place; tags = b.tags })) a.by) b.effective)
    ∙ ap (λ m. record {
      level = level_behind b.marks a.level b.signs.items;
      free = free_behind b.marks b.tags a.free b.signs.items;
      unasked = unasked_behind b.marks b.tags a.unasked b.signs.items;
      by = cond (allows_one b.signs.items) (Some (record { place = b.place; tags = b.tags })) a.by;
      marks = m;
    })
    (notes ∙ ap (λ e. marks_by e a.marks) b.effective ∙ marks-by-effect b.marks b.tags b.signs.items a.marks)
    ∙ sym (rows-behind b b.signs.items a)
