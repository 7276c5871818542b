-- The curve exp(-k/1024), in thousand-millionths. Assumes nothing.
use Rattle.std.specs.Prelude.{ℕ, ◌*◌, ◌/◌, ◌%◌, ◌^◌, cond, List, [], ◌∷◌, length, ◌==◌, nat_lt}

-- the constants of the bits 8192 down to 1
abbrev pub constants : List ℕ
constants = 335463 ∷ 18315639 ∷ 135335283 ∷ 367879441 ∷ 606530660 ∷ 778800783 ∷ 882496903 ∷ 939413063 ∷ 969233234 ∷ 984496437 ∷ 992217938 ∷ 996101369 ∷ 998048781 ∷ 999023914 ∷ []

-- one bit: e is multiplied and cut where the bit of k at a place is set, and stays where it is not
unfoldable pub decay_bit : ℕ → ℕ → ℕ → ℕ → ℕ
decay_bit k place c e = cond (k / 2 ^ place % 2 == 1) (e * c / 1000000000) e

-- the bits from the highest down, each at the place that the rest leaves
abbrev pub decay_bits : ℕ → List ℕ → ℕ → ℕ
decay_bits k [] e = e
decay_bits k (c ∷ cs) e = decay_bits k cs (decay_bit k (length cs) c e)

-- the curve below 16,384: all bits, from 1
unfoldable pub decay_below : ℕ → ℕ
decay_below k = decay_bits k constants 1000000000

-- nothing is left from 16,384 on
abbrev pub decay_at : ℕ → ℕ
decay_at k = cond (nat_lt k 16384) (decay_below k) 0
