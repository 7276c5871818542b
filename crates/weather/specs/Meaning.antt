-- What a weather source means, and what its questions answer. Assumes nothing.
use Rattle.std.specs.Prelude.{◌≡◌, ℕ, ◌≤◌, cond, Ok, Err, Result, nat_lt}
use Rattle.refusals.specs.Refusals.{Refusal, refuse_at}
use Rattle.weather.specs.Days.{Figures, Possible}

-- what stands at a station and an index
pub data Sky : Type 0 where
  known : Figures → Sky
  missing : Sky
  outside : Sky

pub record Meaning : Type 0 where
  pub stations : ℕ
  pub days : ℕ
  -- the day of the year of an index
  pub date : ℕ → ℕ
  -- station, index
  pub sky : ℕ → ℕ → Sky
  pub some_stations : (1 ≤ stations) × (stations ≤ 64)
  pub some_days : (1 ≤ days) × (days ≤ 36500)
  pub dates : (i : ℕ) → (1 ≤ date i) × (date i ≤ 365)
  pub known_possible : (s i : ℕ) (f : Figures) → sky s i ≡ known f → Possible f
  pub known_dated : (s i : ℕ) (f : Figures) → sky s i ≡ known f → f.date ≡ date i

-- a station and an index that exist
abbrev pub seen : ℕ → ℕ → Sky → Result Figures Refusal
seen s i (known f) = Ok f
seen s i missing = Err (refuse_at 33 s i)
seen s i outside = Err (refuse_at 34 s i)

-- the weather of a station at an index; of the refusals the lowest
abbrev pub asked : Meaning → ℕ → ℕ → Result Figures Refusal
asked m s i = cond (nat_lt s m.stations) (cond (nat_lt i m.days) (seen s i (m.sky s i)) (Err (refuse_at 32 s i))) (Err (refuse_at 31 s i))

-- the day of the year of an index; no station is asked, and 0 is told
abbrev pub dated : Meaning → ℕ → Result ℕ Refusal
dated m i = cond (nat_lt i m.days) (Ok (m.date i)) (Err (refuse_at 32 0 i))
