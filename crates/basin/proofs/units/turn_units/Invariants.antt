use Rattle.basin.proofs.Turning.{Turning}
use Rattle.basin.proofs.units.turn_units.Given as goal

abbrev pub invariant-loop-i : goal.invariant-loop-i
invariant-loop-i g l = Turning g.S.Store.water g.S.Store.turns l.weather l.initial.units l.i l.units l.flows
