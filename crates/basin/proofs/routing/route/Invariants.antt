use Rattle.basin.proofs.Flowing.{Routing}
use Rattle.basin.proofs.routing.route.Given as goal

abbrev pub invariant-loop-j : goal.invariant-loop-j
invariant-loop-j l = Routing l.initial.reaches l.demands l.initial.list l.j l.reaches l.list
