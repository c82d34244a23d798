-- The groups of an IPv6 address.
use Rattle.std.proofs.Common.{ℕ, ◌<◌, ◌≤◌, ◌^◌, arith}
use Rattle.std.proofs.Math.Nat.{pow-le-pow_right}

-- There is room for a further digit behind at most three.
pub digit_room : (count value : ℕ) → count < 4 → value < 16 ^ count → value < 4096
digit_room count value few low =
    let room : 16 ^ count ≤ 16 ^ 3 = pow-le-pow_right {n = 16} (omega arith) {i = count} {j = 3} (omega arith) in
    omega (arith, room, low)
