use Rattle.std.proofs.Common.{length, rules}
use Rattle.basin.specs.Calls.{run, run_fault, start_fault, view}
use Rattle.basin.proofs.Balance.{balanced_on}
use Rattle.basin.proofs.Starting.{passed_run}
use Rattle.basin.proofs.basin.Basin.run.Goals as goal

pub returns : goal.returns
returns g c =
    let water = g.S.Store.water in
    let turns = g.S.Store.turns in
    let m = g.W.WeatherSource.means c.args.source.now in
    let v = view c.args.self.now in
    let us = c.args.unit_flows.now in
    let rs = c.args.reach_flows.now in
    let s = passed_run water turns m c.args.n c.advance.result v (view c.advance.new.self) (run_fault v (length us) (length rs) c.args.n) (start_fault water v) c.fill.new.self us c.advance.new.unit_flows c.fill-2.new.self rs c.advance.new.reach_flows c.in_default.ensures c.fill.auto.self c.fill-2.auto.self c.advance.ensures in
    record { step = s; balance = balanced_on water turns (run m c.args.n us rs c.advance.new.unit_flows c.advance.new.reach_flows c.advance.result) s }

pub returns-in-Err-clause-balance : goal.returns-in-Err-clause-balance
returns-in-Err-clause-balance g c =
    let us = c.args.unit_flows.now in
    let rs = c.args.reach_flows.now in
    balanced_on g.S.Store.water g.S.Store.turns (run (g.W.WeatherSource.means c.args.source.now) c.args.n us rs us rs c.only_stop.result) (search rules)
