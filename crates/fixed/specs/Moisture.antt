-- The soil-moisture curve x ÷ (x + exp(c1 - c2·x)), in millionths. Assumes nothing.
use Rattle.std.specs.Prelude.{ℕ, ◌+◌, ◌*◌, ◌/◌, cond, ℤ, pos, ◌-ℤ◌, ◌==◌, int_le, unsigned_abs}
use Rattle.fixed.specs.Decay.{decay_at}

-- the exponent in 1,024ths: the inner quotient is cut first
unfoldable pub exponent_at : ℕ → ℤ → ℕ → ℤ
exponent_at x c1 c2 = c1 -ℤ pos (c2 * x / 1000000)

-- the curve at the exponent a, where e is exp(-|a|) in millionths
unfoldable pub moisture_by : ℕ → ℤ → ℕ → ℕ
moisture_by x a e = cond (int_le (pos 0) a) (1000000 * x * e / (x * e + 1000000000000)) (1000000 * x / (x + e))

-- the curve above x = 0
unfoldable pub moisture_above : ℕ → ℤ → ℕ → ℕ
moisture_above x c1 c2 = moisture_by x (exponent_at x c1 c2) (decay_at (unsigned_abs (exponent_at x c1 c2)) / 1000)

-- nothing at x = 0
abbrev pub moisture_at : ℕ → ℤ → ℕ → ℕ
moisture_at x c1 c2 = cond (x == 0) 0 (moisture_above x c1 c2)
