-- Which days of weather exist. Assumes nothing.
use Rattle.std.specs.Prelude.{◌≡◌, ℕ, ◌≤◌, [], ◌∷◌, ℤ, pos, negsuc, ◌+ℤ◌, ◌≤ℤ◌, Some, None, Ok, Err, Option, Result, int_div}
use Rattle.fixed.specs.Limits.{outside, first}
use Rattle.refusals.specs.Refusals.{Refusal, refuse, day_refusal}
use Rattle.refusals.specs.declared.day.DayFault.{DayFault}
use Rattle.weather.specs.declared.day.Day.{Day}

-- the figures of a day, in field order
pub record Figures : Type 0 where
  pub date : ℕ
  pub rain : ℕ
  pub highest : ℤ
  pub lowest : ℤ
  pub demand : ℕ

abbrev pub figures : Day → Figures
figures w = record { date = w.date; rain = w.rain; highest = w.highest; lowest = w.lowest; demand = w.demand }

-- figures within the limits of a day
pub record Possible (f : Figures) : Type 0 where
  pub dated : (1 ≤ f.date) × (f.date ≤ 365)
  pub wet : f.rain ≤ 1000000
  pub warm : f.highest ≤ℤ pos 6000
  pub warmer : f.lowest ≤ℤ f.highest
  pub cold : negsuc 5999 ≤ℤ f.lowest
  pub dry : f.demand ≤ 50000

-- the refusal of the first figure outside; a lowest above the highest is a fault of the lowest
abbrev pub day_fault : ℤ → ℤ → ℤ → ℤ → ℤ → Option Refusal
day_fault date rain highest lowest demand = first (
    (outside (pos 1) (pos 365) date, refuse 11 1) ∷
    (outside (pos 0) (pos 1000000) rain, refuse 11 2) ∷
    (outside (negsuc 5999) (pos 6000) highest, refuse 11 3) ∷
    (outside (negsuc 5999) highest lowest, refuse 11 4) ∷
    (outside (pos 0) (pos 50000) demand, refuse 11 5) ∷ [])

-- a day made of these figures, or the refusal
abbrev pub DayMade : ℤ → ℤ → ℤ → ℤ → ℤ → Result Day DayFault → Type 0
DayMade date rain highest lowest demand (Ok w) = (day_fault date rain highest lowest demand ≡ None) × (pos w.date ≡ date) × (pos w.rain ≡ rain) × (w.highest ≡ highest) × (w.lowest ≡ lowest) × (pos w.demand ≡ demand)
DayMade date rain highest lowest demand (Err e) = day_fault date rain highest lowest demand ≡ Some (day_refusal e)

-- the mean temperature, cut toward zero
abbrev pub mean_of : Day → ℤ
mean_of w = int_div (w.highest +ℤ w.lowest) (pos 2)
