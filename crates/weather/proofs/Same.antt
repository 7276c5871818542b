-- Days with equal figures are equal. Assumes nothing.
use Rattle.std.proofs.Common.{◌≡◌, Ok, Result, refl, ap}
use Rattle.fixed.proofs.Bounds.{le_at, int_le_at}
use Rattle.refusals.specs.Refusals.{Refusal}
use Rattle.weather.specs.Days.{Figures, figures}
use Rattle.weather.specs.declared.day.Day.{Day}

pub day_same : (w v : Day) → figures w ≡ figures v → w ≡ v
day_same w v e =
    let date = ap (λ (f : Figures). f.date) e in
    let rain = ap (λ (f : Figures). f.rain) e in
    let high = ap (λ (f : Figures). f.highest) e in
    let low = ap (λ (f : Figures). f.lowest) e in
    let demand = ap (λ (f : Figures). f.demand) e in
    λ j. record {
      date = date j;
      rain = rain j;
      highest = high j;
      lowest = low j;
      demand = demand j;
      dated = (le_at refl date w.dated.0 v.dated.0 j, le_at date refl w.dated.1 v.dated.1 j);
      wet = le_at rain refl w.wet v.wet j;
      warm = int_le_at high refl w.warm v.warm j;
      warmer = int_le_at low high w.warmer v.warmer j;
      cold = int_le_at refl low w.cold v.cold j;
      dry = le_at demand refl w.dry v.dry j;
    }

-- one answer of a source is one day
pub answer_same : (r : Result Figures Refusal) (w v : Day) → r ≡ Ok (figures w) → r ≡ Ok (figures v) → w ≡ v
answer_same r w v x y = let e : figures w ≡ figures v = cc in day_same w v e
