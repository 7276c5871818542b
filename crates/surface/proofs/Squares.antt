-- Runoff is at most the inflow. Assumes nothing.
use Rattle.std.proofs.Common.{◌≡◌, ℕ, ◌+◌, ◌-◌, ◌*◌, ◌/◌, ◌<◌, ◌≤◌, ap, add-mul, arith}
use Rattle.std.proofs.lemmas.Nat.{div_below}

-- with 5r = d + s, the square of d is at most r × 5 × (5r + 4s)
square_le : (r s d : ℕ) → 5 * r ≡ d + s → d * d ≤ r * (5 * (5 * r + 4 * s))
square_le r s d e =
    let a : r * (5 * (5 * r + 4 * s)) ≡ (5 * r) * (5 * r + 4 * s) = omega arith in
    let b : (5 * r) * (5 * r + 4 * s) ≡ (d + s) * (d + s + 4 * s) = ap (λ (n : ℕ). n * (n + 4 * s)) e in
    omega (arith, a, b)

pub runoff_le : (r s : ℕ) → s < 5 * r → (5 * r - s) * (5 * r - s) / (5 * (5 * r + 4 * s)) ≤ r
runoff_le r s h =
    let sq = square_le r s (5 * r - s) (omega arith) in
    let den = 5 * (5 * r + 4 * s) in
    omega (arith, div_below ((5 * r - s) * (5 * r - s)) den (r + 1) (omega arith) (omega (arith, sq, add-mul r 1 den)))
