use Rattle.std.proofs.Common.{◌≡◌, ◌+◌, ◌*◌, ◌≤◌, length, drop}
use Rattle.basin.specs.Limits.{unit_water, unit_fault}
use Rattle.basin.specs.Loops.{rain_in}
use Rattle.basin.proofs.limits.unit_water.Given as goal

abbrev pub invariant-loop-i : goal.invariant-loop-i
invariant-loop-i g l = let water = g.S.Store.water in
    let n = length l.yielded in
    record {
      left : unit_fault water (rain_in l.weather) 0 l.units ≡ unit_fault water (rain_in l.weather) n (drop n l.units);
      held : l.sum + unit_water water (drop n l.sites) (drop n l.units) ≡ unit_water water l.sites l.units;
      small : l.sum ≤ n * 18446744073709551616;
    }
