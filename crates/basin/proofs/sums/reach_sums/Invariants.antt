use Rattle.std.proofs.Common.{length}
use Rattle.basin.proofs.Flowing.{ReachesSummed}
use Rattle.basin.proofs.sums.reach_sums.Given as goal

abbrev pub invariant-loop-reach : goal.invariant-loop-reach
invariant-loop-reach l = ReachesSummed l.reaches l.flows (length l.yielded) l.sums
