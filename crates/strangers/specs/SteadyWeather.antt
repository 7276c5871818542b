-- What the stranger's source means: one station and ten days, all alike. Assumes nothing.
use Rattle.std.specs.Prelude.{◌≡◌, ℕ, suc, ◌≤◌, min, pos}
use Rattle.std.proofs.Common.{subst, arith}
use Rattle.std.proofs.lemmas.Int.{ints}
use Rattle.weather.specs.Days.{Figures, Possible}
use Rattle.weather.specs.Meaning.{Meaning, known}
use Rattle.strangers.specs.declared.steady.Steady.{Steady}

-- the days are dated 1 to 10; an index beyond them is never asked for, and has the last date
abbrev pub steady_date : ℕ → ℕ
steady_date i = suc (min i 9)

abbrev pub steady_figures : ℕ → ℕ → Figures
steady_figures rain i = record { date = steady_date i; rain = min rain 1000000; highest = pos 1000; lowest = pos 400; demand = 0 }

pub date_within : (i : ℕ) → (1 ≤ steady_date i) × (steady_date i ≤ 365)
date_within i = (omega arith, omega arith)

steady_possible : (rain i : ℕ) → Possible (steady_figures rain i)
steady_possible rain i = record { dated = date_within i; wet = omega arith; warm = omega (arith, ints); warmer = omega (arith, ints); cold = omega (arith, ints); dry = omega arith }

known_of : (f g : Figures) → known f ≡ known g → f ≡ g
known_of f g e = cc

pub known_steady : (rain i : ℕ) (f : Figures) → known (steady_figures rain i) ≡ known f → Possible f
known_steady rain i f e = subst Possible (known_of (steady_figures rain i) f e) (steady_possible rain i)

pub known_date : (rain i : ℕ) (f : Figures) → known (steady_figures rain i) ≡ known f → f.date ≡ steady_date i
known_date rain i f e = cc

abbrev pub steady_means : Steady → Meaning
steady_means s = record {
  stations = 1;
  days = 10;
  date = steady_date;
  sky = λ _ i. known (steady_figures s.rain i);
  some_stations = (omega arith, omega arith);
  some_days = (omega arith, omega arith);
  dates = date_within;
  known_possible = λ _ i f e. known_steady s.rain i f e;
  known_dated = λ _ i f e. known_date s.rain i f e;
}
