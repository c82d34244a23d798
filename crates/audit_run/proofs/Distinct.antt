-- No name occurs twice in a roster.
use Rattle.std.proofs.Common.{◌≡◌, ◌≢◌, ℕ, zero, suc, ◌<◌, Bool, true, false, List, [], ◌∷◌, Some, refl, sym, ◌∙◌, cond, arith}
use Rattle.std.specs.Prelude.{⊤, not, bytes_eq, slice_get}
use Rattle.std.proofs.lemmas.Slice.Eq.{bytes_eq-Decides}
use Rattle.sudo_base.proofs.Options.{some_injective, none_some}
use Rattle.std.proofs.lemmas.Bool.{true≢false}
use Rattle.audit_collect.specs.Roster.{AreDistinct}
use Rattle.audit_run.specs.Roster.{roster, without}

-- a name of those that are left is one of all, and other than the one that was left out
without-in : (name : List ℕ) (names : List (List ℕ)) (i : ℕ) (found : List ℕ)
    → slice_get (without name names) i ≡ Some found → (j : ℕ) × (slice_get names j ≡ Some found)
without-in name [] i found at = absurd (none_some found at)
without-in name (o ∷ os) i found at = go (bytes_eq name o) i at (without-in name os)
  where
    go : (b : Bool) (i : ℕ) → slice_get (cond (not b) (o ∷ without name os) (without name os)) i ≡ Some found
        → ((i : ℕ) (found : List ℕ) → slice_get (without name os) i ≡ Some found → (j : ℕ) × (slice_get os j ≡ Some found))
        → (j : ℕ) × (slice_get (o ∷ os) j ≡ Some found)
    go true i at more = let rest = more i found at in (suc rest.0, rest.1)
    go false zero at more = (0, at)
    go false (suc i) at more = let rest = more i found at in (suc rest.0, rest.1)

without-apart : (name : List ℕ) (names : List (List ℕ)) (i : ℕ) (found : List ℕ)
    → slice_get (without name names) i ≡ Some found → name ≢ found
without-apart name [] i found at = absurd (none_some found at)
without-apart name (o ∷ os) i found at = go (bytes_eq name o) refl i at (without-apart name os)
  where
    go : (b : Bool) → bytes_eq name o ≡ b → (i : ℕ)
        → slice_get (cond (not b) (o ∷ without name os) (without name os)) i ≡ Some found
        → ((i : ℕ) (found : List ℕ) → slice_get (without name os) i ≡ Some found → name ≢ found) → name ≢ found
    go true eb i at more = more i found at
    go false eb zero at more = λ same. absurd (true≢false (sym ((bytes_eq-Decides name o).1 (same ∙ sym (some_injective o found at))) ∙ eb))
    go false eb (suc i) at more = more i found at

-- each name is other than all that follow it
abbrev Apart : List (List ℕ) → Type 0
Apart [] = ⊤
Apart (n ∷ ns) = ((i : ℕ) (found : List ℕ) → slice_get ns i ≡ Some found → n ≢ found) × Apart ns

without-keeps : (name : List ℕ) (names : List (List ℕ)) → Apart names → Apart (without name names)
without-keeps name [] apart = tt
without-keeps name (o ∷ os) apart = go (bytes_eq name o) (λ i found at. let there = without-in name os i found at in
    apart.0 there.0 found there.1) (without-keeps name os apart.1)
  where
    go : (b : Bool) → ((i : ℕ) (found : List ℕ) → slice_get (without name os) i ≡ Some found → o ≢ found)
        → Apart (without name os) → Apart (cond (not b) (o ∷ without name os) (without name os))
    go true first more = more
    go false first more = (first, more)

roster-apart : (names : List (List ℕ)) → Apart (roster names)
roster-apart [] = tt
roster-apart (n ∷ ns) = (without-apart n (roster ns), without-keeps n (roster ns) (roster-apart ns))

no_repeat : (names : List (List ℕ)) → Apart names → (index earlier : ℕ) (name : List ℕ) → earlier < index
    → slice_get names index ≡ Some name → slice_get names earlier ≡ Some name → ⊥
no_repeat [] apart index earlier name before there same = none_some name there
no_repeat (n ∷ ns) apart zero earlier name before there same = absurd (omega (arith, before))
no_repeat (n ∷ ns) apart (suc index) zero name before there same = apart.0 index name there (some_injective n name same)
no_repeat (n ∷ ns) apart (suc index) (suc earlier) name before there same =
    no_repeat ns apart.1 index earlier name (omega (arith, before)) there same

pub roster-distinct : (names : List (List ℕ)) → AreDistinct (roster names)
roster-distinct names = λ i name below repeats. no_repeat (roster names) (roster-apart names) i repeats.earlier name
    repeats.before repeats.there repeats.same
