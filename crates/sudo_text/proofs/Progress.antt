-- A run in progress: the state of the loop over physical lines.
use Rattle.std.proofs.Common.{◌≡◌, ℕ, suc, ◌+◌, ◌<◌, Bool, List, [], ◌∷◌, ◌++◌, length, true, false, refl, sym, ◌∙◌}
use Rattle.std.proofs.Common.{ap, subst, Result, Ok, Err, arith, zero-add, append_assoc, length-append}
use Rattle.std.specs.Prelude.{if◌then◌else◌}
use Rattle.std.specs.List.{onto_first}
use Rattle.std.proofs.lemmas.List.{append-nil}
use Rattle.sudo_text.specs.declared.line.Line.{Line}
use Rattle.sudo_text.specs.declared.fault.TextFault.{TextFault}
use Rattle.sudo_text.specs.declared.fault.TextFault.TheVariants.{BadEscape}
use Rattle.sudo_text.specs.Lines.{runs, is_cut_short, is_continued, ends_in_escape, without_escape, logical_text}
use Rattle.sudo_text.specs.Lines.{joins_from, place, line_of, with_front, lines_of_runs, logical_lines_from}
use Rattle.sudo_text.specs.Lines.{physical_lines}

-- The logical line that began at line `first` and has this text and these joins, gone on with by a run.
abbrev pub line_onto : ℕ → ℕ → List ℕ → List ℕ → List (List ℕ) → Line
line_onto file first text joins run =
    record { first = place file first; text = text ++ logical_text run; joins = joins ++ joins_from (length text) run }

-- What the runs come to, where the first of them, at line `at`, goes on with a logical line.
abbrev pub onto : ℕ → Bool → ℕ → ℕ → List ℕ → List ℕ → List (List (List ℕ)) → Result (List Line) TextFault
onto file short first at text joins [] = Ok []
onto file short first at text joins (run ∷ []) =
    if short then Err (BadEscape (place file first) (length text + length (logical_text run))) else Ok
    (line_onto file first text joins run ∷ [])
onto file short first at text joins (run ∷ next ∷ rest) =
    with_front (line_onto file first text joins run ∷ []) (lines_of_runs file short (at + length run) (next ∷ rest))

-- The same, from the physical line `line` at number `at`, which is continued or not, and those after it.
unfoldable pub progress : ℕ → ℕ → ℕ → List ℕ → List ℕ → Bool → List ℕ → List (List ℕ) → Result (List Line) TextFault
progress file first at text joins continued line rest =
    onto file (is_cut_short continued rest) first at text joins
    (if continued then onto_first line (runs true rest) else (line ∷ []) ∷ runs false rest)

-- Lines that are not none have a first run, which begins with the first of them.
first_run : (continuing : Bool) (line : List ℕ) (rest : List (List ℕ))
    → (more : List (List ℕ)) × (others : List (List (List ℕ))) × (runs continuing (line ∷ rest) ≡ (line ∷ more) ∷ others)
first_run continuing line rest =
    elim (is_continued continuing line)
    as (λ t. (more : List (List ℕ)) × (others : List (List (List ℕ)))
    × ((if t then onto_first line (runs true rest) else (line ∷ []) ∷ runs false rest) ≡ (line ∷ more) ∷ others)) [
      | true ↦ (elim (runs true rest) as (λ rs. (more : List (List ℕ)) × (others : List (List (List ℕ)))
          × (onto_first line rs ≡ (line ∷ more) ∷ others)) [ [] ↦ ([], [], refl) | r ∷ rs ↦ (r, rs, refl) ])
      | false ↦ ([], runs false rest, refl)
    ]

from_start : (file : ℕ) (short : Bool) (first : ℕ) (rs : List (List (List ℕ)))
    → onto file short first first [] [] rs ≡ lines_of_runs file short first rs
from_start file short first [] = refl
from_start file short first (r ∷ []) =
    ap (λ (n : ℕ). if short then Err (BadEscape (place file first) n) else Ok (line_of file first r ∷ []))
    (zero-add (length (logical_text r)))
from_start file short first (r ∷ s ∷ rs) = refl

-- The loop begins with the first physical line.
pub begins : (file first : ℕ) (line : List ℕ) (rest : List (List ℕ))
    → progress file first first [] [] (is_continued false line) line rest ≡ logical_lines_from file first (line ∷ rest)
unfolding progress
begins file first line rest = from_start file (is_cut_short (is_continued false line) rest) first (runs false (line ∷ rest))

-- A last line that is not continued ends the logical line.
pub stops : (file first at : ℕ) (text joins line : List ℕ) (rest : List (List ℕ))
    → progress file first at text joins false line rest ≡ with_front
    (record { first = place file first; text = text ++ line; joins = joins } ∷ []) (logical_lines_from file (at + 1) rest)
unfolding progress
stops file first at text joins line [] =
    ap (λ (js : List ℕ). Ok (record { first = place file first; text = text ++ line; joins = js } ∷ [])) (append-nil joins)
stops file first at text joins line (next ∷ rest) =
    let run = first_run false next rest in
    let short = is_cut_short false (next ∷ rest) in
    subst (λ rs. onto file short first at text joins ((line ∷ []) ∷ rs) ≡ with_front
    (record { first = place file first; text = text ++ line; joins = joins } ∷ []) (lines_of_runs file short (at + 1) rs)) (sym run.2)
    (ap (λ (js : List ℕ). with_front (record { first = place file first; text = text ++ line; joins = js } ∷ [])
    (lines_of_runs file short (at + 1) ((next ∷ run.0) ∷ run.1))) (append-nil joins))

-- A continued line with nothing after it.
pub cut_short : (file first at : ℕ) (text joins line : List ℕ) → progress file first at text joins true line [] ≡ Err
    (BadEscape (place file first) (length text + length line))
unfolding progress
cut_short file first at text joins line = refl

-- One more line goes to the run.
line-more : (file first : ℕ) (text joins line next : List ℕ) (more : List (List ℕ))
    → line_onto file first text joins (line ∷ next ∷ more)
    ≡ line_onto file first (text ++ without_escape line) (joins ++ length (text ++ without_escape line) ∷ []) (next ∷ more)
line-more file first text joins line next more =
    let front : List ℕ = without_escape line in
    let back : List ℕ = logical_text (next ∷ more) in
    let n : length text + length front ≡ length (text ++ front) = sym (length-append text front) in
    let k : ℕ = length (text ++ front) in
    subst (λ (m : ℕ). record {
      first = place file first;
      text = text ++ (front ++ back);
      joins = joins ++ m ∷ joins_from m (next ∷ more);
    } ≡ line_onto file first (text ++ front) (joins ++ k ∷ []) (next ∷ more)) (sym n)
    (λ i. record {
      first = place file first;
      text = sym (append_assoc text front back) i;
      joins = sym (append_assoc joins (k ∷ []) (joins_from k (next ∷ more))) i;
    })

one_more : (file : ℕ) (short : Bool) (first at : ℕ) (text joins line next : List ℕ) (more : List (List ℕ)) (others : List (List (List ℕ)))
    → onto file short first at text joins ((line ∷ next ∷ more) ∷ others)
    ≡ onto file short first (at + 1) (text ++ without_escape line) (joins ++ length (text ++ without_escape line)
    ∷ []) ((next ∷ more) ∷ others)
one_more file short first at text joins line next more [] =
    let l = line-more file first text joins line next more in
    let n : length text + length (without_escape line ++ logical_text (next ∷ more)) ≡ length
    (text ++ without_escape line) + length (logical_text (next ∷ more))
    = omega (arith, length-append text (without_escape line), length-append (without_escape line) (logical_text (next ∷ more))) in
    λ i. if short then Err (BadEscape (place file first) (n i)) else Ok (l i ∷ [])
one_more file short first at text joins line next more (other ∷ others) =
    let l = line-more file first text joins line next more in
    let n : at + suc (suc (length more)) ≡ at + 1 + suc (length more) = omega arith in
    λ i. with_front (l i ∷ []) (lines_of_runs file short (n i) (other ∷ others))

-- A continued line goes on with the next one.
pub goes_on : (file first at : ℕ) (text joins line next : List ℕ) (rest : List (List ℕ))
    → progress file first at text joins true line (next ∷ rest)
    ≡ progress file first (at + 1) (text ++ without_escape line) (joins ++ length (text ++ without_escape line) ∷ [])
    (ends_in_escape next) next rest
unfolding progress
goes_on file first at text joins line next rest =
    let run = first_run true next rest in
    let short = is_cut_short true (next ∷ rest) in
    subst (λ rs. onto file short first at text joins (onto_first line rs) ≡ onto file short first (at + 1)
    (text ++ without_escape line) (joins ++ length (text ++ without_escape line) ∷ []) rs) (sym run.2)
    (one_more file short first at text joins line next run.0 run.1)

-- A line that ends in a backslash has a byte.
pub escape_some : (line : List ℕ) → ends_in_escape line ≡ true → 0 < length line
escape_some [] ends = cc
escape_some (b ∷ line) ends = omega arith

pub continued_some : (line : List ℕ) → is_continued false line ≡ true → 0 < length line
continued_some [] ends = cc
continued_some (b ∷ line) ends = omega arith

-- Front by front.
pub with_front-again : (xs ys : List Line) (r : Result (List Line) TextFault) → with_front xs (with_front ys r) ≡ with_front (xs ++ ys) r
with_front-again xs ys (Ok zs) = ap Ok (sym (append_assoc xs ys zs))
with_front-again xs ys (Err f) = refl

-- What one turn of the loop keeps: `front` is the bytes of the text after `line`, and `after` those after `next`.
pub turn : (file first at : ℕ) (text text' joins joins' line next front after : List ℕ) (continued ends : Bool)
    (total : Result (List Line) TextFault)
    → progress file first at text joins continued line (physical_lines front) ≡ total → continued ≡ true
    → physical_lines front ≡ next ∷ physical_lines after → text' ≡ text ++ without_escape line
    → joins' ≡ joins ++ length text' ∷ [] → ends ≡ ends_in_escape next
    → progress file first (at + 1) text' joins' ends next (physical_lines after) ≡ total
turn file first at text text' joins joins' line next front after continued ends total so_far on cuts longer logical_text is =
    let e = goes_on file first at text joins line next (physical_lines after) in
    let a : progress file first at text joins true line (next ∷ physical_lines after) ≡ total =
    subst (λ p. progress file first at text joins true line p ≡ total) cuts
    (subst (λ t. progress file first at text joins t line (physical_lines front) ≡ total) on so_far) in
    rw (logical_text, longer, is) (sym e ∙ a)

-- What a last physical line gives.
pub ending : (file first at : ℕ) (text text' joins line front : List ℕ) (continued : Bool) (total : Result (List Line) TextFault)
    → progress file first at text joins continued line (physical_lines front) ≡ total → continued ≡ false → text' ≡ text ++ line
    → total ≡ with_front (record { first = place file first; text = text'; joins = joins } ∷ [])
    (logical_lines_from file (at + 1) (physical_lines front))
ending file first at text text' joins line front continued total so_far off longer =
    let e = stops file first at text joins line (physical_lines front) in
    let a : progress file first at text joins false line (physical_lines front) ≡ total =
    subst (λ t. progress file first at text joins t line (physical_lines front) ≡ total) off so_far in
    rw longer (sym a ∙ e)

-- What a continued line gives where the text ends.
pub end_of_text : (file first at n : ℕ) (text joins line front : List ℕ) (continued : Bool) (total : Result (List Line) TextFault)
    → progress file first at text joins continued line (physical_lines front) ≡ total → continued ≡ true
    → length front ≡ 0 → n ≡ length text
    → total ≡ Err (BadEscape (place file first) (n + length line))
end_of_text file first at n text joins line [] continued total so_far on none is =
    rw is (sym (subst (λ t. progress file first at text joins t line [] ≡ total) on so_far) ∙ cut_short file first at text joins line)
end_of_text file first at n text joins line (b ∷ front) continued total so_far on none is = absurd (omega arith)
