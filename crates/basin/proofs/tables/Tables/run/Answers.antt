use Rattle.std.proofs.Common.{sym, arith}
use Rattle.basin.specs.Tables.{sites_of, state_of}
use Rattle.basin.proofs.Steady.{same_days, sound_same}
use Rattle.basin.proofs.Coursing.{days_within, days_few, held_ok}
use Rattle.basin.proofs.tables.Tables.run.Goals as goal

pub check_limits-requires-2 : goal.check_limits-requires-2
check_limits-requires-2 g c =
    let s = sound_same (same_days c.run_days.ensures.going.days) c.requires.sound in
    rw c.run_days.ensures.sites (record { long = sym s.many; few = omega (arith, s.many, s.few); few_reaches = s.few_reaches; added = omega arith })

pub unwrap-requires : goal.unwrap-requires
unwrap-requires g c =
    let held = rw c.run_days.ensures.sites at c.check_limits-2.ensures in
    held_ok g.S.Store.water (sites_of c.args.self.now) (state_of c.run_days.new.self) c.check_limits-2.result held (days_within c.requires.sound c.in-Ok.ensures.0 c.run_days.ensures.going.days)

pub returns-clause-counted : goal.returns-clause-counted
returns-clause-counted g c =
    let go = c.run_days.ensures.going in
    let count = go.count in
    let few = c.ranges.from.fits in
    let days = days_few {m = g.W.WeatherSource.means c.args.source.now} {a = state_of c.args.self.now} {b = state_of c.run_days.new.self} c.requires.sound (omega arith) go.days in
    omega arith
