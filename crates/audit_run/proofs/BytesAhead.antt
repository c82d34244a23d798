-- The bytes ahead of registered sources.
use Rattle.std.proofs.Common.{◌≡◌, ℕ, List, [], ◌∷◌, map, Option, refl, sym, ap, ◌∙◌, arith, length}
use Rattle.std.specs.List.{zip}
use Rattle.audit_files.specs.Feeding.{Ahead}

zip-seconds : (os : List ℕ) (ts : List (Option Ahead)) → length os ≡ length ts → map (λ (p : ℕ × Option Ahead). p.1) (zip os ts) ≡ ts
zip-seconds [] [] e = refl
zip-seconds [] (t ∷ ts) e = absurd (omega (arith, e))
zip-seconds (o ∷ os) [] e = absurd (omega (arith, e))
zip-seconds (o ∷ os) (t ∷ ts) e = ap (λ (r : List (Option Ahead)). t ∷ r) (zip-seconds os ts (omega (arith, e)))

seconds_of : {P : Type 0} (owner : P → ℕ) (ahead : P → Option Ahead) (ps : List P)
    → map (λ (r : ℕ × Option Ahead). r.1) (map (λ p. (owner p, ahead p)) ps) ≡ map ahead ps
seconds_of owner ahead [] = refl
seconds_of owner ahead (p ∷ ps) = ap (λ (r : List (Option Ahead)). ahead p ∷ r) (seconds_of owner ahead ps)

-- parts whose owners and bytes are zipped have these bytes ahead
pub ahead-of-parts : {P : Type 0} (owner : P → ℕ) (ahead : P → Option Ahead) (ps : List P) (os : List ℕ) (ts : List (Option Ahead))
    → map (λ p. (owner p, ahead p)) ps ≡ zip os ts → length os ≡ length ts → map ahead ps ≡ ts
ahead-of-parts owner ahead ps os ts zipped long =
    sym (seconds_of owner ahead ps) ∙ (ap (map (λ (p : ℕ × Option Ahead). p.1)) zipped ∙ zip-seconds os ts long)
