-- How a pack of snow is made, and what it does in a day. Assumes nothing.
use Rattle.std.specs.Prelude.{◌≡◌, ℕ, ◌+◌, ◌-◌, ◌*◌, ◌/◌, min, Bool, cond, ◌&&◌, [], ◌∷◌, ℤ, pos, negsuc, ◌+ℤ◌, ◌-ℤ◌, ◌*ℤ◌, Some, None, Ok, Err, Option, Result, int_div, int_le, int_lt, unsigned_abs}
use Rattle.fixed.specs.Limits.{outside, first}
use Rattle.refusals.specs.Refusals.{Refusal, refuse, snowpack_refusal}
use Rattle.refusals.specs.declared.snowpack.SnowpackSetting.{SnowpackSetting}
use Rattle.weather.specs.Days.{mean_of}
use Rattle.weather.specs.declared.day.Day.{Day}
use Rattle.snow.specs.declared.pack.Pack.{Pack}
use Rattle.snow.specs.declared.pack_turn.Passed.{Passed}

-- the refusal of the first setting outside: own water, pack, snowfall and melt temperature, lag, melt rate
abbrev pub pack_fault : ℤ → ℤ → ℤ → ℤ → ℤ → ℤ → Option Refusal
pack_fault own pack fall melt slow rate = first (
    (outside (pos 0) (pos 100000000) own, refuse 12 1) ∷
    (outside (negsuc 5999) (pos 6000) pack, refuse 12 2) ∷
    (outside (negsuc 499) (pos 500) fall, refuse 12 3) ∷
    (outside (negsuc 499) (pos 500) melt, refuse 12 4) ∷
    (outside (pos 0) (pos 1000) slow, refuse 12 5) ∷
    (outside (pos 0) (pos 20000) rate, refuse 12 6) ∷ [])

-- a pack of these settings, or the refusal
abbrev pub PackMade : ℤ → ℤ → ℤ → ℤ → ℤ → ℤ → Result Pack SnowpackSetting → Type 0
PackMade own pack fall melt slow rate (Ok p) = (pack_fault own pack fall melt slow rate ≡ None) × (pos p.water ≡ own) × (p.temperature ≡ pack) × (p.snowfall ≡ fall) × (p.melting ≡ melt) × (pos p.lag ≡ slow) × (pos p.factor ≡ rate)
PackMade own pack fall melt slow rate (Err e) = pack_fault own pack fall melt slow rate ≡ Some (snowpack_refusal e)

-- the pack's temperature after the day
unfoldable pub warmed_to : Pack → Day → ℤ
warmed_to p w = int_div (pos (1000 - p.lag) *ℤ p.temperature +ℤ pos p.lag *ℤ mean_of w) (pos 1000)

-- the day's mean decides: what falls is snow
abbrev pub snows : Pack → Day → Bool
snows p w = int_le (mean_of w) p.snowfall

-- what of an inflow falls as snow; the rest passes as rain
unfoldable pub snow_of : Pack → ℕ → Day → ℕ
snow_of p i w = cond (snows p w) i 0

-- what lies in the pack once the snow has fallen
abbrev pub lying_of : Pack → ℕ → Day → ℕ
lying_of p i w = p.water + snow_of p i w

-- how far a pack at the temperature t is above melting on the day, twice
abbrev pub heat_at : Pack → ℤ → Day → ℤ
heat_at p t w = t +ℤ w.highest -ℤ pos 2 *ℤ p.melting

-- what melts of n at the pack's temperature t: nothing unless that heat and the highest are above 0
unfoldable pub melt_at : Pack → ℕ → ℤ → Day → ℕ
melt_at p n t w = cond (int_lt (pos 0) (heat_at p t w) && int_lt (pos 0) w.highest) (min n (p.factor * unsigned_abs (heat_at p t w) / 200)) 0

-- the pack's new temperature decides
abbrev pub melt_of : Pack → ℕ → Day → ℕ
melt_of p i w = melt_at p (lying_of p i w) (warmed_to p w) w

-- rain and melt go below
abbrev pub passes_of : Pack → ℕ → Day → ℕ
passes_of p i w = (i - snow_of p i w) + melt_of p i w

-- vapour is of what has not melted
abbrev pub dries_of : Pack → ℕ → ℕ → Day → ℕ
dries_of p i d w = min (lying_of p i w - melt_of p i w) d

-- what a pack hands on in a day
abbrev pub passed_of : Pack → ℕ → ℕ → Day → Passed
passed_of p i d w = record { below = passes_of p i w; vapour = dries_of p i d w }

-- a pack before and after its day
pub record PackTurn (p : Pack) (i d : ℕ) (w : Day) (q : Pack) : Type 0 where
  pub water_is : q.water ≡ lying_of p i w - melt_of p i w - dries_of p i d w
  pub temperature_is : q.temperature ≡ warmed_to p w
  pub same_snowfall : q.snowfall ≡ p.snowfall
  pub same_melting : q.melting ≡ p.melting
  pub same_lag : q.lag ≡ p.lag
  pub same_factor : q.factor ≡ p.factor
