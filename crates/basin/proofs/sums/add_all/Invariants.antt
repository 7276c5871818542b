use Rattle.basin.proofs.Places.{Adding}
use Rattle.basin.proofs.sums.add_all.Given as goal

abbrev pub invariant-loop-i : goal.invariant-loop-i
invariant-loop-i g l = Adding g.F.Add.add_gives l.initial.list l.day l.i l.list
