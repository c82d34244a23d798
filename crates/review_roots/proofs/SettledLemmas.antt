-- Blocks behind which what is given does not depend on what was given before them.
use Rattle.std.proofs.Common.{◌≡◌, ◌<◌, ◌+◌, ◌∙◌, ◌==◌, ℕ, Bool, true, false, cond, ◌&&◌, List, [], ap, drop, flat_map, get_or, length}
use Rattle.std.proofs.Common.{refl, sym, take, Option, Some, None}
use Rattle.std.specs.Prelude.{slice_get}
use Rattle.std.proofs.lemmas.Bool.{and_parts}
use Rattle.std.proofs.lemmas.Grind.{flat_map-append, fold-append}
use Rattle.std.proofs.lemmas.List.{drop_more, take-append-drop}
use Rattle.review_roots.specs.declared.block.Block.{Block}
use Rattle.review_roots.specs.declared.effect.Effect.{Effect}
use Rattle.review_roots.specs.declared.given.AllowingRow.{AllowingRow}
use Rattle.review_roots.specs.declared.given.Given.{Given}
use Rattle.review_roots.specs.declared.level.Level.{Level}
use Rattle.review_roots.specs.declared.level.Level.TheVariants as level
use Rattle.review_roots.specs.Asked.{nothing}
use Rattle.review_roots.specs.Blocks.{Row, block_rows, with_row, with_rows}
use Rattle.review_roots.specs.Body.Candidates.{both_at, part_at, part_of}
use Rattle.review_grants.specs.declared.marks.Marks.{Marks}
use Rattle.review_grants.specs.Depends.{joined_marks, unmarked}
use Rattle.review_roots.specs.Body.Effects.{free_by, level_by, marks_by, unasked_by}
use Rattle.review_roots.specs.Body.Rows.{by_behind}
use Rattle.review_roots.specs.Body.Settled.{agree, given_at, settles, settles_at, settles_of}
use Rattle.review_roots.specs.Ranks.{rank}
use Rattle.review_roots.proofs.EffectLemmas.{block-gives}

rank-is : (k l : Level) → (rank k == rank l) ≡ true → k ≡ l
rank-is level.None level.None e = refl
rank-is level.None level.Listed e = cc
rank-is level.None level.AllBut e = cc
rank-is level.None level.All e = cc
rank-is level.Listed level.None e = cc
rank-is level.Listed level.Listed e = refl
rank-is level.Listed level.AllBut e = cc
rank-is level.Listed level.All e = cc
rank-is level.AllBut level.None e = cc
rank-is level.AllBut level.Listed e = cc
rank-is level.AllBut level.AllBut e = refl
rank-is level.AllBut level.All e = cc
rank-is level.All level.None e = cc
rank-is level.All level.Listed e = cc
rank-is level.All level.AllBut e = cc
rank-is level.All level.All e = refl

agree-is : (a b : Bool) → agree a b ≡ true → a ≡ b
agree-is true true e = refl
agree-is true false e = cc
agree-is false true e = cc
agree-is false false e = refl

-- ---- The rows of a block that settles give the same behind whatever was given

module _ (b : Block) (settled : settles b.effect ≡ true) where
  abbrev x : Effect
  x = b.effect

  abbrev row : AllowingRow
  row = record { place = b.place; tags = b.tags }

  abbrev Passwords : Bool
  Passwords = agree x.newly_free x.free && agree x.newly_unasked x.unasked

  abbrev Rest : Bool
  Rest = (rank x.listed == rank x.all) && ((rank x.all_but == rank x.all) && Passwords)

  cleared : (x.clears ≡ true) × ((x.allows && ((rank x.none == rank x.all) && Rest)) ≡ true)
  cleared = and_parts x.clears (x.allows && ((rank x.none == rank x.all) && Rest)) settled

  allows : (x.allows ≡ true) × (((rank x.none == rank x.all) && Rest) ≡ true)
  allows = and_parts x.allows ((rank x.none == rank x.all) && Rest) cleared.1

  none : ((rank x.none == rank x.all) ≡ true) × (Rest ≡ true)
  none = and_parts (rank x.none == rank x.all) Rest allows.1

  listed : ((rank x.listed == rank x.all) ≡ true) × (((rank x.all_but == rank x.all) && Passwords) ≡ true)
  listed = and_parts (rank x.listed == rank x.all) ((rank x.all_but == rank x.all) && Passwords) none.1

  all_but : ((rank x.all_but == rank x.all) ≡ true) × (Passwords ≡ true)
  all_but = and_parts (rank x.all_but == rank x.all) Passwords listed.1

  passwords : (agree x.newly_free x.free ≡ true) × (agree x.newly_unasked x.unasked ≡ true)
  passwords = and_parts (agree x.newly_free x.free) (agree x.newly_unasked x.unasked) all_but.1

  same-level : (l : Level) → level_by x l ≡ x.all
  same-level level.None = rank-is x.none x.all none.0
  same-level level.Listed = rank-is x.listed x.all listed.0
  same-level level.AllBut = rank-is x.all_but x.all all_but.0
  same-level level.All = refl

  same-free : (free : Bool) → free_by x free ≡ x.free
  same-free true = refl
  same-free false = agree-is x.newly_free x.free passwords.0

  same-unasked : (unasked : Bool) → unasked_by x unasked ≡ x.unasked
  same-unasked true = refl
  same-unasked false = agree-is x.newly_unasked x.unasked passwords.1

  same-row : (by : Option AllowingRow) → by_behind b by ≡ Some row
  same-row by = ap (λ c. cond c (Some row) by) allows.0

  same-marks : (m : Marks) → marks_by x m ≡ unmarked
  same-marks m = ap (λ c. cond c unmarked (joined_marks m x.marks)) cleared.0

  gives : (a : Given) → record { level = x.all; free = x.free; unasked = x.unasked; by = Some row; marks = unmarked }
      ≡ with_rows a (block_rows b)
  gives a =
      block-gives b a x.all x.free x.unasked (Some row) unmarked (sym (same-level a.level)) (sym (same-free a.free))
      (sym (same-unasked a.unasked)) (sym (same-row a.by)) (sym (same-marks a.marks))

  pub settled-gives : (a c : Given) → with_rows a (block_rows b) ≡ with_rows c (block_rows b)
  settled-gives a c = sym (gives a) ∙ gives c

-- ---- From a block that settles on, blocks give what all give

pub settled-drop :
    (on allowed : List Bool) (bs : List Block) (is : List ℕ) (at d : ℕ) → at < length is →
    settles_at on allowed bs (get_or is at d) ≡ true → given_at on allowed bs (drop at is) ≡ given_at on allowed bs is
settled-drop on allowed bs is at d within e = go (slice_get bs i) refl both.1
  where
    i : ℕ
    i = get_or is at d

    part : ℕ → List Row
    part = part_at (λ i b. both_at on allowed i) bs

    rest : List Row
    rest = flat_map part (drop (at + 1) is)

    before : Given
    before = with_rows nothing (flat_map part (take at is))

    both : (both_at on allowed i ≡ true) × (settles_of (slice_get bs i) ≡ true)
    both = and_parts (both_at on allowed i) (settles_of (slice_get bs i)) e

    whole : with_rows nothing (flat_map part is) ≡ with_rows before (flat_map part (drop at is))
    whole =
        ap (λ (xs : List ℕ). with_rows nothing (flat_map part xs)) (sym (take-append-drop at is))
        ∙ ap (with_rows nothing) (flat_map-append part (take at is) (drop at is))
        ∙ fold-append with_row nothing (flat_map part (take at is)) (flat_map part (drop at is))

    go : (o : Option Block) → slice_get bs i ≡ o → settles_of o ≡ true → given_at on allowed bs (drop at is) ≡ given_at on allowed bs is
    go None there s = cc
    go (Some b) there s = one nothing ∙ ap (λ a. with_rows a rest) (settled-gives b s nothing before) ∙ sym (one before) ∙ sym whole
      where
        here : part i ≡ block_rows b
        here = ap (part_of (λ b. both_at on allowed i)) there ∙ ap (λ c. cond c (block_rows b) []) both.0

        one : (a : Given) → with_rows a (flat_map part (drop at is)) ≡ with_rows (with_rows a (block_rows b)) rest
        one a =
            ap (λ (xs : List ℕ). with_rows a (flat_map part xs)) (drop_more is at d within)
            ∙ fold-append with_row a (part i) rest
            ∙ ap (λ r. with_rows (with_rows a r) rest) here
