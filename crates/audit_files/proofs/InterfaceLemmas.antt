-- Interfaces of hosts.
use Rattle.std.proofs.Common.{◌≡◌, ◌≤◌, ◌<◌, ℕ, Bool, true, false, refl, ap, arith, Some, nat_le}
use Rattle.std.proofs.Math.Bridge.{le_prop}
use Rattle.std.proofs.lemmas.Bool.{leb-false, leb-true}
use Rattle.audit_files.specs.Hosts.{interface_if, interface_with}
use Rattle.sudo_match.specs.declared.people.Interface.{Interface}

-- an interface whose bits are in range is the one that they write
pub interface_is : (addr bits : ℕ) (fit : bits ≤ 32) → Some (record { addr = addr; bits = bits; in_range = fit }) ≡ interface_with addr bits
interface_is addr bits fit = by (nat_le bits 32) refl
  where
    made : (inside : bits ≤ 32) → Interface
    made inside = record { addr = addr; bits = bits; in_range = inside }

    less_of : bits ≤ 32 → 32 < bits → ⊥
    less_of a b = omega (arith, a, b)

    by : (fits : Bool) (e : nat_le bits 32 ≡ fits) → Some (made fit) ≡ interface_if addr bits fits e
    by true e = ap (λ (inside : bits ≤ 32). Some (made inside)) (le_prop fit (leb-true bits 32 e))
    by false e = absurd (less_of fit (leb-false bits 32 e))
