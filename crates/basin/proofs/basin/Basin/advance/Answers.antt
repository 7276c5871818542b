use Rattle.std.proofs.Common.{◌+◌, length, refl, ap}
use Rattle.basin.specs.Calls.{start_fault, view}
use Rattle.basin.proofs.Starting.{advanced, run_passed}
use Rattle.basin.proofs.basin.Basin.advance.Goals as goal

pub run-answer-requires-clause-sound : goal.run-answer-requires-clause-sound
run-answer-requires-clause-sound g c = (run_passed (view c.args.self.now) (length c.args.unit_flows.now) (length c.args.reach_flows.now) c.args.n c.requires.passed).sound

pub returns : goal.returns
returns g c =
    let r = c.run-answer in
    advanced g.S.Store.water g.S.Store.turns (g.W.WeatherSource.means c.args.source.now) c.args.n r.result (view c.args.self.now) (view (record { tables = r.new.self; day = c.args.self.now.day + r.result.days })) (start_fault g.S.Store.water (view c.args.self.now)) c.args.unit_flows.now r.new.unit_flows c.args.reach_flows.now r.new.reach_flows (c.requires.unit_zeros, c.requires.reach_zeros) r.auto.unit_flows r.auto.reach_flows (ap (λ v. v.items) r.ensures.sites) refl r.ensures.ran
