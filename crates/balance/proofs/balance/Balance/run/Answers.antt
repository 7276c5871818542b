use Rattle.std.proofs.Common.{arith, refl}
use Rattle.balance.proofs.Conserved.{going_balance, going_fits, going_more, going_none}
use Rattle.balance.proofs.balance.Balance.run.Goals as goal

pub loop-index-init : goal.loop-index-init
loop-index-init g c = record {
  going = rw (c.requires.no_days, c.requires.no_sums) (going_none g.S.Store.water g.S.Store.turns (g.W.WeatherSource.means c.args.source.now) c.args.station c.args.column.now);
  at = c.requires.no_days;
  start = refl;
}

pub add_assign-requires : goal.add_assign-requires
add_assign-requires g c = going_fits g.S.Store.water g.S.Store.turns (g.W.WeatherSource.means c.args.source.now) c.args.station c.loop-index.invariant.going (rw (← c.loop-index.invariant.at) at c.in_ok-moved.ensures) c.requires.within (omega (arith, c.days-index-end.ensures))

pub loop-index-preserved : goal.loop-index-preserved
loop-index-preserved g c = record {
  going = rw c.add_assign.ensures.after (going_more g.S.Store.water g.S.Store.turns (g.W.WeatherSource.means c.args.source.now) c.args.station c.loop-index.invariant.going (rw (← c.loop-index.invariant.at) at c.in_ok-moved.ensures));
  at = omega arith;
  start = c.loop-index.invariant.start;
}

pub returns-in_err-moved-clause-balance : goal.returns-in_err-moved-clause-balance
returns-in_err-moved-clause-balance g c = rw c.in_err-moved.ensures.1 (going_balance g.S.Store.water g.S.Store.turns (g.W.WeatherSource.means c.args.source.now) c.args.station c.loop-index.invariant.going)

pub returns-clause-balance : goal.returns-clause-balance
returns-clause-balance g c = going_balance g.S.Store.water g.S.Store.turns (g.W.WeatherSource.means c.args.source.now) c.args.station c.loop-index.invariant.going
