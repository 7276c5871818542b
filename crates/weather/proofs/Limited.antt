-- Figures that no test refuses are possible, and a day's are. Assumes nothing.
use Rattle.std.proofs.Common.{◌≡◌, ℕ, Bool, true, false, cond, ℤ, pos, negsuc, ◌≤ℤ◌, Some, None, Option, refl, arith}
use Rattle.std.proofs.lemmas.Int.{ints}
use Rattle.fixed.specs.Limits.{outside}
use Rattle.refusals.specs.Refusals.{refuse}
use Rattle.weather.specs.declared.day.Day.{Day}
use Rattle.weather.specs.Days.{figures, Possible, day_fault}

-- a value that is not outside its limits is within them
pub within : (least greatest z : ℤ) → outside least greatest z ≡ false → (least ≤ℤ z) × (z ≤ℤ greatest)
unfolding outside
within least greatest z h = (grind (arith, ints), grind (arith, ints))

-- where no test of several holds, the first does not, nor any other
pub none_first : {X : Type 0} (b : Bool) (x : X) (rest : Option X) → cond b (Some x) rest ≡ None → (b ≡ false) × (rest ≡ None)
none_first false x rest h = (refl, h)
none_first true x rest h = ((cc), (cc))

pub possible_from : (date rain : ℕ) (highest lowest : ℤ) (demand : ℕ) → day_fault (pos date) (pos rain) highest lowest (pos demand) ≡ None → Possible (record { date = date; rain = rain; highest = highest; lowest = lowest; demand = demand })
possible_from date rain highest lowest demand h =
    let a = none_first (outside (pos 1) (pos 365) (pos date)) (refuse 11 1) _ h in
    let b = none_first (outside (pos 0) (pos 1000000) (pos rain)) (refuse 11 2) _ a.1 in
    let d = none_first (outside (negsuc 5999) (pos 6000) highest) (refuse 11 3) _ b.1 in
    let e = none_first (outside (negsuc 5999) highest lowest) (refuse 11 4) _ d.1 in
    let f = none_first (outside (pos 0) (pos 50000) (pos demand)) (refuse 11 5) _ e.1 in
    let dates = within (pos 1) (pos 365) (pos date) a.0 in
    let rains = within (pos 0) (pos 1000000) (pos rain) b.0 in
    let highs = within (negsuc 5999) (pos 6000) highest d.0 in
    let lows = within (negsuc 5999) highest lowest e.0 in
    let demands = within (pos 0) (pos 50000) (pos demand) f.0 in
    record {
      dated = (omega (arith, ints, dates.0), omega (arith, ints, dates.1));
      wet = omega (arith, ints, rains.1);
      warm = highs.1;
      warmer = lows.1;
      cold = lows.0;
      dry = omega (arith, ints, demands.1);
    }

pub day_possible : (w : Day) → Possible (figures w)
day_possible w = record { dated = w.dated; wet = w.wet; warm = w.warm; warmer = w.warmer; cold = w.cold; dry = w.dry }
