use Rattle.std.proofs.Common.{◌≡◌}
use Rattle.basin.specs.Tables.{sites_of, state_of}
use Rattle.basin.proofs.Coursing.{Underway}
use Rattle.basin.proofs.tables.Tables.run_days.Given as goal

abbrev pub invariant-loop-d : goal.invariant-loop-d
invariant-loop-d g l = record {
  stays : l.self.sites ≡ l.fn.self.sites;
  count : l.answer.days ≡ l.d;
  start : l.answer.start ≡ l.fn.answer.start;
  underway : Underway g.S.Store.water g.S.Store.turns (g.W.WeatherSource.means l.source) l.from (sites_of l.fn.self) (state_of l.fn.self) (state_of l.self) l.unit_flows l.reach_flows l.d l.answer.readings l.answer.sums;
}
