use Rattle.std.proofs.Common.{◌≡◌, None, List, ℕ, subst}
use Rattle.sources.specs.Table.{table_means}
use Rattle.basin.specs.Calls.{view}
use Rattle.trial.specs.TableRuns.{TableRun, open_fault}
use Rattle.trial.proofs.table.run_table.Goals as goal

pub returns-in-Ok : goal.returns-in-Ok
returns-in-Ok g c =
    let us = c.args.unit_flows.now in
    let rs = c.args.reach_flows.now in
    let before = view c.args.basin.now in
    let last = c.run.new in
    let means = table_means c.in-Ok.table in
    let none : open_fault c.args.bytes.now ≡ None = c.in-Ok.ensures.0 in
    let P : List ℕ → Type 0 = λ bytes. TableRun g.S.Store.water g.S.Store.turns bytes us last.unit_flows rs last.reach_flows before (view last.self) c.into.result in
    let ran : P c.in-Ok.table.bytes.now = record {
      stationed = means.some_stations;
      lasting = means.some_days;
      answer = c.run.result;
      step = rw (c.min-days.ensures, c.days.ensures) at c.run.ensures.step;
      figures_are = c.into.ensures;
    } in
    rw none (subst P c.in-Ok.ensures.1 ran)
