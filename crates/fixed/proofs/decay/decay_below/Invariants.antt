use Rattle.std.proofs.Common.{◌≡◌, ◌≤◌, drop}
use Rattle.fixed.specs.Decay.{decay_bits, constants}
use Rattle.fixed.proofs.decay.decay_below.Given as goal

-- the bits still to come take e to where all of them take 1
abbrev pub invariant-loop-i : goal.invariant-loop-i
invariant-loop-i l = record {
  bound : l.e ≤ 1000000000;
  rest : decay_bits l.k (drop l.i constants) l.e ≡ decay_bits l.k constants 1000000000;
}
