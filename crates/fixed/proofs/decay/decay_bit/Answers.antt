use Rattle.std.proofs.Common.{arith}
use Rattle.std.proofs.lemmas.Bool.Decides.{nat_tests}
use Rattle.std.proofs.lemmas.Nat.{mul-le}
use Rattle.fixed.specs.Decay.{decay_bit}
use Rattle.fixed.proofs.decay.decay_bit.Goals as goal

pub returns-then-k-place-eq1 : goal.returns-then-k-place-eq1
unfolding decay_bit
returns-then-k-place-eq1 c = record { value = grind (arith, nat_tests); bound = omega (arith, mul-le c.args.e c.args.constant 1000000000 1000000000 c.requires.bounded c.requires.factor) }

pub returns-else-k-place-eq1 : goal.returns-else-k-place-eq1
unfolding decay_bit
returns-else-k-place-eq1 c = record { value = grind (arith, nat_tests); bound = c.requires.bounded }
