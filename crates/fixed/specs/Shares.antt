-- A share of an amount, in millionths, cut down, and the laws by which everything else uses it. Assumes nothing.
use Rattle.std.specs.Prelude.{◌≡◌, ℕ, ◌+◌, ◌*◌, ◌/◌, ◌≤◌}
use Rattle.std.proofs.Common.{arith}
use Rattle.std.proofs.lemmas.Nat.{mul-le}

-- amount × share ÷ 10⁶, cut down
unfoldable pub part_of : ℕ → ℕ → ℕ
part_of amount share = amount * share / 1000000

-- a share takes at most the amount
pub part_le : (a f : ℕ) → f ≤ 1000000 → part_of a f ≤ a
unfolding part_of
part_le a f h = omega (arith, mul-le a f a 1000000 (omega arith) h)

-- a share of nothing is nothing
pub part_none : (f : ℕ) → part_of 0 f ≡ 0
unfolding part_of
part_none f = omega arith

-- two shares that sum to a whole at most take no more than the amount
pub parts_le : (a f g : ℕ) → f + g ≤ 1000000 → part_of a f + part_of a g ≤ a
unfolding part_of
parts_le a f g h = omega (arith, mul-le a (f + g) a 1000000 (omega arith) h)

-- what everything else may use of a share
pub record ShareLaws : Type 0 where
  pub at_most : (a f : ℕ) → f ≤ 1000000 → part_of a f ≤ a
  pub of_nothing : (f : ℕ) → part_of 0 f ≡ 0
  pub of_two : (a f g : ℕ) → f + g ≤ 1000000 → part_of a f + part_of a g ≤ a
