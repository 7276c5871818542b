use Rattle.std.proofs.Common.{length}
use Rattle.basin.proofs.Flowing.{Gathering}
use Rattle.basin.proofs.routing.gather.Given as goal

abbrev pub invariant-loop-site : goal.invariant-loop-site
invariant-loop-site l = Gathering l.sites l.flows (length l.yielded) l.list
