-- What the rows of standing blocks give is what the rows for a target give.
use Rattle.std.proofs.Common.{◌≡◌, ◌∙◌, Bool, true, false, not, cond, ◌&&◌, List, [], ◌∷◌, ◌++◌, ap, refl, flat_map, fold, map, sym, Option}
use Rattle.std.proofs.Common.{Some, None}
use Rattle.std.specs.Prelude.{filter, option_map}
use Rattle.std.specs.Option.{option_or}
use Rattle.std.proofs.lemmas.List.Elements.{filter-append}
use Rattle.sudo_grammar.specs.declared.policy.Policy.{Policy}
use Rattle.sudo_verdict.specs.Last.{last_that}
use Rattle.sudo_verdict.specs.Values.{user_allowed, host_allowed}
use Rattle.sudo_verdict.specs.RunasForms.{runas_allows}
use Rattle.sudo_verdict.specs.Questions.{Question}
use Rattle.sudo_verdict.specs.Grants.{Grant, grants}
use Rattle.review_grants.specs.Rows.{is_row}
use Rattle.review_roots.specs.declared.block.Block.{Block}
use Rattle.review_roots.specs.declared.given.AllowingRow.{AllowingRow}
use Rattle.review_roots.specs.declared.given.Given.{Given}
use Rattle.review_roots.specs.Levels.{after_marks, after_one, denies}
use Rattle.review_grants.specs.Targets.{target_rows}
use Rattle.review_roots.specs.Passwords.{after_free, after_unasked}
use Rattle.review_roots.specs.Asked.{is_allowing, allowing_row, given_by, nothing}
use Rattle.review_roots.specs.Blocks.{Row, row_of, block_row, block_rows, AreBlocks, with_row, with_rows, stands}
use Rattle.review_roots.specs.Blocks.{standing_rows}
use Rattle.review_grants.proofs.NoteTests.{grant_stands}
use Rattle.review_grants.proofs.ListSteps.{filter-constant, filter-mapped}
use Rattle.review_roots.proofs.ListSteps.{filter-twice}

-- ---- Rows, one after the other

given_from : Policy → Given → List Grant → Given
given_from p a gs = record {
  level = fold (after_one p) a.level gs;
  free = fold (after_free p) a.free gs;
  unasked = fold (after_unasked p) a.unasked gs;
  by = option_or (option_map allowing_row (last_that is_allowing gs)) a.by;
  marks = fold (after_marks p) a.marks gs;
}

allowing_step :
    (o : Option Grant) (n : Bool) (g : Grant) (by : Option AllowingRow) →
    option_or (option_map allowing_row o) (cond n by (Some (allowing_row g)))
    ≡ option_or (option_map allowing_row (option_or o (cond (not n) (Some g) None))) by
allowing_step (Some h) n g by = refl
allowing_step None true g by = refl
allowing_step None false g by = refl

rows_give : (p : Policy) (gs : List Grant) (a : Given) → with_rows a (map (row_of p) gs) ≡ given_from p a gs
unfolding given_from
rows_give p [] a = refl
rows_give p (g ∷ gs) a =
    rows_give p gs (with_row a (row_of p g))
    ∙ ap (λ o. record {
      level = fold (after_one p) (after_one p a.level g) gs;
      free = fold (after_free p) (after_free p a.free g) gs;
      unasked = fold (after_unasked p) (after_unasked p a.unasked g) gs;
      by = o;
      marks = fold (after_marks p) (after_marks p a.marks g) gs;
    })
    (allowing_step (last_that is_allowing gs) (denies g) g a.by)

from_nothing : (o : Option AllowingRow) → option_or o None ≡ o
from_nothing None = refl
from_nothing (Some r) = refl

pub rows_give_all : (p : Policy) (gs : List Grant) → with_rows nothing (map (row_of p) gs) ≡ given_by p gs
unfolding given_from
rows_give_all p gs =
    rows_give p gs nothing
    ∙ ap (λ o. record {
      level = (given_by p gs).level;
      free = (given_by p gs).free;
      unasked = (given_by p gs).unasked;
      by = o;
      marks = (given_by p gs).marks;
    })
    (from_nothing (option_map allowing_row (last_that is_allowing gs)))

-- ---- The blocks that stand have the rows for the target

-- the row's user list allows the user, its host list the host, and its runas the question
abbrev row_stands : Policy → Question → Row → Bool
row_stands p q r = user_allowed p r.users q.user && (host_allowed p r.hosts q.host && runas_allows p q r.runas)

standing_are : (p : Policy) (q : Question) (bs : List Block) → flat_map (standing_rows p q) bs
    ≡ filter (row_stands p q) (flat_map block_rows bs)
standing_are p q [] = refl
standing_are p q (b ∷ bs) =
    ap (λ (rs : List Row). standing_rows p q b ++ rs) (standing_are p q bs)
    ∙ ap (λ (rs : List Row). rs ++ filter (row_stands p q) (flat_map block_rows bs))
    (sym (filter-constant (row_stands p q) (block_row b) (stands p q b) (λ s. refl) b.signs.items))
    ∙ sym (filter-append (row_stands p q) (block_rows b) (flat_map block_rows bs))

both_ways : (a h r : Bool) → (a && (h && r)) ≡ ((a && h) && r)
both_ways true h r = refl
both_ways false h r = refl

pub rows_for_target : (p : Policy) (q : Question) → filter (grant_stands p q) (grants p) ≡ target_rows p q
rows_for_target p q =
    sym (filter-twice (λ g. runas_allows p q g.runas) (is_row p q.user q.host) (grant_stands p q)
    (λ g. both_ways (user_allowed p g.users q.user) (host_allowed p g.hosts q.host) (runas_allows p q g.runas)) (grants p))

-- what the blocks that stand give
pub blocks_give :
    (p : Policy) (q : Question) (bs : List Block) → AreBlocks p bs → with_rows nothing (flat_map (standing_rows p q) bs)
    ≡ given_by p (target_rows p q)
blocks_give p q bs tied =
    ap (with_rows nothing)
    (standing_are p q bs ∙ ap (filter (row_stands p q)) tied
    ∙ filter-mapped (row_stands p q) (row_of p) (grants p)
    ∙ ap (map (row_of p)) (rows_for_target p q))
    ∙ rows_give_all p (target_rows p q)
