use Rattle.std.proofs.Common.{◌≡◌}
use Rattle.balance.specs.Course.{Going}
use Rattle.balance.proofs.balance.Balance.run.Given as goal

abbrev pub invariant-loop-index : goal.invariant-loop-index
invariant-loop-index g l = record {
  going : Going g.S.Store.water g.S.Store.turns (g.W.WeatherSource.means l.source) l.station l.initial.column l.column l.self.days l.self.sums;
  at : l.self.days ≡ l.index;
  start : l.self.start ≡ l.initial.self.start;
}
