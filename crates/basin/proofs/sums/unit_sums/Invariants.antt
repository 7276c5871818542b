use Rattle.std.proofs.Common.{length}
use Rattle.basin.proofs.Flowing.{UnitsSummed}
use Rattle.basin.proofs.sums.unit_sums.Given as goal

abbrev pub invariant-loop-site : goal.invariant-loop-site
invariant-loop-site l = UnitsSummed l.sites l.flows (length l.yielded) l.sums
