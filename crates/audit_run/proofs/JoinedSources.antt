-- The first refused source of two lists that have no name in common.
use Rattle.std.proofs.Common.{◌≡◌, ◌⊎◌, ℕ, zero, suc, ◌+◌, ◌≤◌, ◌<◌, Bool, true, false, cond, List, [], ◌∷◌, ◌++◌}
use Rattle.std.proofs.Common.{length, take, Option, None, Some, slice_get, count_by, sym, ap, ◌∙◌, refl, inl, inr}
use Rattle.std.proofs.Common.{arith, bytes_eq}
use Rattle.std.proofs.lemmas.List.{take-append-le}
use Rattle.std.proofs.lemmas.Option.{same_Some, slice_get_within}
use Rattle.std.proofs.lemmas.Slice.Eq.{bytes_eq-Decides}
use Rattle.sudo_base.proofs.Lists.{slice_get-append-left}
use Rattle.audit_collect.proofs.Members.{Among, count_by-append, count_by-cons}
use Rattle.audit_files.specs.declared.fault.FileFault.{FileFault}
use Rattle.audit_run.specs.IsAuditResult.{IsRefusedSource, NoneRefused}
use Rattle.audit_run.specs.Roster.{part_number}
use Rattle.audit_run.proofs.Apart.{Parted}
use Rattle.audit_run.proofs.Beside.{at_back, at_front, before_or_after}

among_at : (names : List (List ℕ)) (i : ℕ) (name : List ℕ) → slice_get names i ≡ Some name → Among name names
among_at [] i name there = absurd (cc)
among_at (n ∷ names) zero name there = inl (same_Some n name there)
among_at (n ∷ names) (suc i) name there = inr (among_at names i name there)

none_named : (name : List ℕ) (names : List (List ℕ)) → (Among name names → ⊥) → count_by (λ other. bytes_eq other name) names ≡ 0
none_named name [] absent = refl
none_named name (n ∷ names) absent = by (bytes_eq n name) refl (none_named name names (λ m. absent (inr m)))
  where
    by : (b : Bool) → bytes_eq n name ≡ b → count_by (λ other. bytes_eq other name) names ≡ 0
        → count_by (λ other. bytes_eq other name) (n ∷ names) ≡ 0
    by true e rest = absurd (absent (inl ((bytes_eq-Decides n name).0 e)))
    by false e rest =
        let counted = count_by-cons (λ other. bytes_eq other name) n names
        ∙ ap (λ b. cond b 1 0 + count_by (λ other. bytes_eq other name) names) e in
        omega (arith, counted, rest)

take-back : {X : Type 0} (xs ys : List X) (k : ℕ) → take (length xs + k) (xs ++ ys) ≡ xs ++ take k ys
take-back [] ys k = let e : 0 + k ≡ k = omega arith in ap (λ n. take n ys) e
take-back (x ∷ xs) ys k = let e : suc (length xs) + k ≡ suc (length xs + k) = omega arith in
    ap (λ n. take n (x ∷ (xs ++ ys))) e ∙ ap (λ l. x ∷ l) (take-back xs ys k)

-- the number of a source among those of its name
part_first : (first second : List (List ℕ)) (index : ℕ) (name : List ℕ) → index ≤ length first
    → part_number (first ++ second) index name ≡ part_number first index name
part_first first second index name within = ap (λ l. 1 + count_by (λ other. bytes_eq other name) l)
    (take-append-le index first second within)

part_second : (first second : List (List ℕ)) (index : ℕ) (name : List ℕ) → (Among name first → ⊥)
    → part_number (first ++ second) (length first + index) name ≡ part_number second index name
part_second first second index name absent =
    let whole = ap (count_by (λ other. bytes_eq other name)) (take-back first second index) in
    let sum = count_by-append (λ other. bytes_eq other name) first (take index second) in
    let none = none_named name first absent in
    omega (arith, whole, sum, none)

-- a list in which no source is refused has none at each index
none_at : (faults : List (Option FileFault)) (i : ℕ) → NoneRefused faults → i < length faults → slice_get faults i ≡ Some None
none_at [] i none within = absurd (omega (arith, within))
none_at (None ∷ faults) zero none within = refl
none_at (Some fault ∷ faults) zero none within = absurd (none 0 fault refl)
none_at (f ∷ faults) (suc i) none within = none_at faults i (λ index fault there. none (suc index) fault there) (omega (arith, within))

module _ (first second : List (List ℕ)) (faults more : List (Option FileFault)) (apart : Parted first second)
    (long : length faults ≡ length first) (name : List ℕ) (part : ℕ) (fault : FileFault) where
  pub source_first : IsRefusedSource first faults name part fault → IsRefusedSource (first ++ second) (faults ++ more) name part fault
  source_first h =
      let (index, is, of_file, named, part_is) = h in
      let within = slice_get_within first index name named in (
        index,
        record {
          there = at_front faults more index (Some fault) is.there;
          earlier = λ i less. at_front faults more i None (is.earlier i less);
        },
        of_file,
        at_front first second index name named,
        part_is ∙ sym (part_first first second index name (omega (arith, within))),
      )

  pub source_second : NoneRefused faults → IsRefusedSource second more name part fault
      → IsRefusedSource (first ++ second) (faults ++ more) name part fault
  source_second none h =
      let (index, is, of_file, named, part_is) = h in (
        length first + index,
        record {
          there = ap (λ n. slice_get (faults ++ more) (n + index)) (sym long) ∙ at_back faults more index ∙ is.there;
          earlier = λ i less. elim (before_or_after (length faults) i) [
            | inl before ↦ slice_get-append-left faults more i before ∙ none_at faults i none before
            | inr after ↦
                let at = after.is in
                ap (slice_get (faults ++ more)) at ∙ at_back faults more after.index
                ∙ is.earlier after.index (omega (arith, at, less, long))
          ];
        },
        of_file,
        at_back first second index ∙ named,
        part_is ∙ sym (part_second first second index name (λ m. apart name m (among_at second index name named))),
      )

  pub source_either : IsRefusedSource (first ++ second) (faults ++ more) name part fault
      → IsRefusedSource first faults name part fault ⊎ IsRefusedSource second more name part fault
  source_either h = let (index, is, of_file, named, part_is) = h in elim (before_or_after (length first) index) [
    | inl before ↦
        let own = sym (slice_get-append-left first second index before) ∙ named in
        inl (
          index,
          record {
            there = sym (slice_get-append-left faults more index (omega (arith, before, long))) ∙ is.there;
            earlier = λ i less. sym (slice_get-append-left faults more i (omega (arith, before, long, less))) ∙ is.earlier i less;
          },
          of_file,
          own,
          part_is ∙ part_first first second index name (omega (arith, before)),
        )
    | inr after ↦
        let at = after.is in
        let own = sym (at_back first second after.index) ∙ ap (slice_get (first ++ second)) (sym at) ∙ named in
        inr (
          after.index,
          record {
            there = sym (at_back faults more after.index)
                ∙ (let e : length faults + after.index ≡ index = omega (arith, at, long) in ap (slice_get (faults ++ more)) e) ∙ is.there;
            earlier = λ i less. sym (at_back faults more i) ∙ is.earlier (length faults + i) (omega (arith, at, less, long));
          },
          of_file,
          own,
          part_is ∙ ap (λ n. part_number (first ++ second) n name) at
              ∙ part_second first second after.index name (λ m. apart name m (among_at second after.index name own)),
        )
  ]
