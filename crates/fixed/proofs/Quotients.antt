-- The bound of the soil-moisture curve's inner quotient. Assumes nothing.
use Rattle.std.proofs.Common.{ℕ, ◌*◌, ◌/◌, ◌≤◌, arith}
use Rattle.std.proofs.lemmas.Nat.{mul-le}

pub slope_le : (c x : ℕ) → c ≤ 32767 → x ≤ 1000000 → c * x / 1000000 ≤ 32767
slope_le c x h k = omega (arith, mul-le c x 32767 1000000 h k)
