-- The users, part by part.
use Rattle.std.proofs.Common.{◌≡◌, ◌<◌, ◌≤◌, ◌+◌, ◌*◌, ◌∙◌, ℕ, zero, suc, List, [], ◌∷◌, ◌++◌, ap, arith, refl, sym, subst, length}
use Rattle.std.proofs.Common.{Global, IfOk, Ok, Option, Result, Vec, append_assoc, length-append, slice_index_or}
use Rattle.std.specs.declared.alloc.AllocError.{AllocError}
use Rattle.std.proofs.Math.Seq.{get_or-append_seam}
use Rattle.sudo_match.specs.declared.people.Machine.{Machine}
use Rattle.sudo_match.specs.declared.people.Person.{Person}
use Rattle.review_compare.specs.declared.cell.Ask.{Ask}
use Rattle.review_compare.specs.declared.pair.Pair.{Pair}
use Rattle.review_compare.specs.declared.row.Row.{Row}
use Rattle.review_compare.specs.Body.Merged.{AbsorbsAll}
use Rattle.review_compare.specs.Body.Progress.{AreParts, IsAsked, IsUserBefore, IsUserBetween, Progress}
use Rattle.review_compare.proofs.DifferenceLemmas.{part-more, users-all}

-- the rows of a part, or nothing because allocation failed
abbrev Part : Type 0
Part = Result (Vec Row Global) AllocError

one-more : (n size : ℕ) → (n + 1) * size ≡ n * size + size
one-more n size = grind arith

pub parts-more : (p : Pair) (rows : List Row) (more : Vec Row Global) (new : List Row) (about : Option Person) (scope : Option Machine)
    (size : ℕ) (asks : List Ask) (parts yielded : List Part) (part : Part) (rest : List Part) →
    AreParts p about scope asks size parts → (yielded ++ part ∷ []) ++ rest ≡ parts → part ≡ Ok more →
    Progress p [] rows (IsUserBefore p about scope (length yielded * size) asks) → AbsorbsAll rows more.items new →
    Progress p [] new (IsUserBefore p about scope (length (yielded ++ part ∷ []) * size) asks)
parts-more p rows more new about scope size asks parts yielded part rest are whole is so_far absorbs =
    subst (λ (n : ℕ). Progress p [] new (IsUserBefore p about scope (n * size) asks)) (sym long)
    (subst (λ (n : ℕ). Progress p [] new (IsUserBefore p about scope n asks)) (sym (one-more (length yielded) size))
    (part-more p rows more.items new about scope (length yielded * size) (length yielded * size + size) asks so_far own absorbs))
  where
    long : length (yielded ++ part ∷ []) ≡ length yielded + 1
    long = length-append yielded (part ∷ [])

    within : length yielded < length parts
    within =
        let all : length ((yielded ++ part ∷ []) ++ rest) ≡ length parts = ap (λ (xs : List Part). length xs) whole in
        let split : length ((yielded ++ part ∷ []) ++ rest) ≡ length (yielded ++ part ∷ []) + length rest =
        length-append (yielded ++ part ∷ []) rest in omega (arith, all, split, long)

    at : slice_index_or parts (length yielded) part ≡ part
    at = ap (λ (xs : List Part). slice_index_or xs (length yielded) part) (sym whole ∙ append_assoc yielded (part ∷ []) rest)
        ∙ get_or-append_seam yielded part rest part

    own : Progress p [] more.items (IsUserBetween p about scope (length yielded * size) (length yielded * size + size) asks)
    own = subst (λ (r : Part). IfOk r (λ rows. Progress p [] rows.items
        (IsUserBetween p about scope (length yielded * size) (length yielded * size + size) asks))) (at ∙ is)
        (are (length yielded) part within)

-- the parts have all users
pub all-parts : (p : Pair) (rows : List Row) (about : Option Person) (scope : Option Machine) (n size count : ℕ) (asks : List Ask) →
    n ≡ count → length p.directory.now.people ≤ count * size → Progress p [] rows (IsUserBefore p about scope (n * size) asks) →
    Progress p [] rows (IsAsked p about scope asks)
all-parts p rows about scope n size count asks is all so_far =
    users-all p rows about scope (n * size) asks
    (subst (λ (k : ℕ). length p.directory.now.people ≤ k * size) (sym is) all) so_far
