-- Which normal years exist, and what one means. Assumes nothing.
use Rattle.std.specs.Prelude.{◌≡◌, ℕ, zero, suc, ◌≤◌, List, [], ◌∷◌, map, ℤ, pos, Some, None, Ok, Err, Option, Result, slice_index_or}
use Rattle.std.proofs.Common.{subst, arith}
use Rattle.std.proofs.lemmas.Int.{ints}
use Rattle.fixed.specs.Limits.{outside, first}
use Rattle.refusals.specs.Refusals.{Refusal, refuse, normal_year_refusal}
use Rattle.refusals.specs.declared.normal_year.NormalYearSetting.{NormalYearSetting}
use Rattle.weather.specs.declared.day.Day.{Day}
use Rattle.weather.proofs.Limited.{day_possible}
use Rattle.weather.specs.Days.{Figures, figures, Possible}
use Rattle.weather.specs.Meaning.{Meaning, known}
use Rattle.sources.specs.Calendar.{date_at, date_within, month_of}
use Rattle.sources.specs.declared.normal_year.NormalYear.{NormalYear}

-- the refusal of the first setting outside
abbrev pub year_fault : ℤ → ℤ → Option Refusal
year_fault stations start = first (
    (outside (pos 1) (pos 64) stations, refuse 12 1) ∷
    (outside (pos 1) (pos 365) start, refuse 12 2) ∷ [])

-- a normal year of these months and settings, or the refusal
abbrev pub YearMade : List Day → ℤ → ℤ → Result NormalYear NormalYearSetting → Type 0
YearMade months stations start (Ok y) = (year_fault stations start ≡ None) × (y.months ≡ months) × (pos y.span.stations ≡ stations) × (pos y.span.first ≡ start)
YearMade months stations start (Err e) = year_fault stations start ≡ Some (normal_year_refusal e)

-- figures, as of another date
abbrev pub on_date : ℕ → Figures → Figures
on_date date f = record { date = date; rain = f.rain; highest = f.highest; lowest = f.lowest; demand = f.demand }

-- stands for a thirteenth month, which no date has
abbrev pub calm : Figures
calm = record { date = 1; rain = 0; highest = pos 0; lowest = pos 0; demand = 0 }

-- the figures of the month of a date
unfoldable pub month_figures : List Day → ℕ → Figures
month_figures months date = slice_index_or (map figures months) (month_of date) calm

month_possible : (months : List Day) (k : ℕ) → Possible (slice_index_or (map figures months) k calm)
month_possible [] k = record { dated = (omega arith, omega arith); wet = omega arith; warm = omega (arith, ints); warmer = omega (arith, ints); cold = omega (arith, ints); dry = omega arith }
month_possible (w ∷ ws) zero = day_possible w
month_possible (w ∷ ws) (suc k) = month_possible ws k

pub figures_possible : (months : List Day) (date : ℕ) → Possible (month_figures months date)
unfolding month_figures
figures_possible months date = month_possible months (month_of date)

pub on_date_dated : (date : ℕ) (f g : Figures) → known (on_date date f) ≡ known g → g.date ≡ date
on_date_dated date f g e = cc

pub on_date_possible : (date : ℕ) (f g : Figures) → (1 ≤ date) × (date ≤ 365) → Possible f → known (on_date date f) ≡ known g → Possible g
on_date_possible date f g h p e =
    let same : on_date date f ≡ g = cc in
    subst Possible same (record { dated = h; wet = p.wet; warm = p.warm; warmer = p.warmer; cold = p.cold; dry = p.dry })

-- every station has the figures of the month, as of the date of the index
abbrev pub year_means : NormalYear → Meaning
year_means y = record {
  stations = y.span.stations;
  days = 36500;
  date = date_at y.span.first;
  sky = λ s i. known (on_date (date_at y.span.first i) (month_figures y.months (date_at y.span.first i)));
  some_stations = y.span.stationed;
  some_days = (omega arith, omega arith);
  dates = date_within y.span.first;
  known_possible = λ s i f. on_date_possible (date_at y.span.first i) (month_figures y.months (date_at y.span.first i)) f (date_within y.span.first i) (figures_possible y.months (date_at y.span.first i));
  known_dated = λ s i f e. on_date_dated (date_at y.span.first i) (month_figures y.months (date_at y.span.first i)) f e;
}
