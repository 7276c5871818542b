-- A column of ground taken through the days of a weather source. Assumes nothing.
use Rattle.std.specs.Prelude.{◌≡◌, ℕ, ◌+◌, ◌^◌, ◌<◌, ◌≤◌, List, [], ◌∷◌, length, Some, None, Ok, Err, codes, sum_by, Option, Result}
use Rattle.refusals.specs.Refusals.{Refusal, table_refusal, weather_refusal, store_refusal}
use Rattle.refusals.specs.declared.store.Overfull.{Overfull}
use Rattle.weather.specs.Days.{figures}
use Rattle.weather.specs.Meaning.{Meaning, asked}
use Rattle.weather.specs.declared.day.Day.{Day}
use Rattle.stores.specs.Meaning.{limit, Kept}
use Rattle.stores.specs.declared.flows.Flows.{Flows}
use Rattle.balance.specs.declared.balance.Moved.{Moved}
use Rattle.balance.specs.declared.balance.Sums.{Sums}
use Rattle.balance.specs.declared.balance.Stop.{Stop}
use Rattle.balance.specs.declared.balance.Stop.TheVariants.{Table, Weather, Store}
use Rattle.balance.specs.declared.balance.Balance.{Balance}

-- the number and the values of a stop
abbrev pub stop_refusal : Stop → Refusal
stop_refusal (Table e) = table_refusal e
stop_refusal (Weather e) = weather_refusal e
stop_refusal (Store e) = store_refusal e

-- the number that a balance shows: 0 where it has all its days
abbrev pub stop_number : Option Stop → ℕ
stop_number None = 0
stop_number (Some e) = (stop_refusal e).number

-- the eight figures of a balance, each with its name, in the order in which they are printed
abbrev pub balance_lines : Balance → List (List ℕ × ℕ)
balance_lines b =
    (codes "days", b.days) ∷
    (codes "rain", b.sums.rain) ∷
    (codes "side", b.sums.side) ∷
    (codes "vapour", b.sums.vapour) ∷
    (codes "deep", b.sums.deep) ∷
    (codes "start", b.start) ∷
    (codes "end", b.end) ∷
    (codes "stop", stop_number b.stop) ∷ []

-- an accepted day: the column takes the rain and the demand that the source means for the station and the index
pub record Accepted {S : Type 0} (water : S → ℕ) (turns : S → ℕ → ℕ → Day → S → Flows → Type 0) (m : Meaning) (station index : ℕ) (s t : S) (d : Moved) : Type 0 where
  pub day : Day
  pub seen : asked m station index ≡ Ok (figures day)
  pub rain_is : d.rain ≡ day.rain
  pub kept : Kept (water s) day.rain day.demand (water t) d.flows
  pub turned : turns s day.rain day.demand day t d.flows

-- a day that finds no room
pub record NoRoom {S : Type 0} (water : S → ℕ) (m : Meaning) (station index : ℕ) (s : S) : Type 0 where
  pub day : Day
  pub seen : asked m station index ≡ Ok (figures day)
  pub full : limit < water s + day.rain

-- why the day of an index is not accepted
abbrev pub Refuses : {S : Type 0} → (S → ℕ) → Meaning → ℕ → ℕ → S → Stop → Type 0
Refuses water m station index s (Table e) = ⊥
Refuses water m station index s (Weather e) = asked m station index ≡ Err (weather_refusal e)
Refuses water m station index s (Store e) = NoRoom water m station index s

-- one day: accepted, or refused with the column as it was
abbrev pub DayOf : {S : Type 0} → (S → ℕ) → (S → ℕ → ℕ → Day → S → Flows → Type 0) → Meaning → ℕ → ℕ → S → S → Result Moved Stop → Type 0
DayOf water turns m station index s t (Ok d) = Accepted water turns m station index s t d
DayOf water turns m station index s t (Err e) = Refuses water m station index s e × (t ≡ s)

-- the days from index 0 on take the column s to t and move what the list says, the newest first
pub data Days {S : Type 0} (water : S → ℕ) (turns : S → ℕ → ℕ → Day → S → Flows → Type 0) (m : Meaning) (station : ℕ) (s : S) : List Moved → S → Type 0 where
  none : Days water turns m station s [] s
  more : {ds : List Moved} {t u : S} {d : Moved} → Days water turns m station s ds t → Accepted water turns m station (length ds) t u d → Days water turns m station s (d ∷ ds) u

-- the sums of no days
abbrev pub no_sums : Sums
no_sums = record { rain = 0; side = 0; vapour = 0; deep = 0 }

-- sums with a day more
abbrev pub added : Sums → Moved → Sums
added a d = record { rain = a.rain + d.rain; side = a.side + d.flows.side; vapour = a.vapour + d.flows.vapour; deep = a.deep + d.flows.deep }

-- they fit 64 bits
pub record Fitting (a : Sums) : Type 0 where
  pub rain_fits : a.rain < 2 ^ 64
  pub side_fits : a.side < 2 ^ 64
  pub vapour_fits : a.vapour < 2 ^ 64
  pub deep_fits : a.deep < 2 ^ 64

-- days accepted so far, and their sums
pub record Going {S : Type 0} (water : S → ℕ) (turns : S → ℕ → ℕ → Day → S → Flows → Type 0) (m : Meaning) (station : ℕ) (s t : S) (n : ℕ) (a : Sums) : Type 0 where
  pub moved : List Moved
  pub days : Days water turns m station s moved t
  pub count : n ≡ length moved
  pub rain_is : a.rain ≡ sum_by (λ d. d.rain) moved
  pub side_is : a.side ≡ sum_by (λ d. d.flows.side) moved
  pub vapour_is : a.vapour ≡ sum_by (λ d. d.flows.vapour) moved
  pub deep_is : a.deep ≡ sum_by (λ d. d.flows.deep) moved

-- after n accepted days: all days of the source are done, or the next is refused
abbrev pub Ends : {S : Type 0} → (S → ℕ) → Meaning → ℕ → ℕ → S → Option Stop → Type 0
Ends water m station n t None = n ≡ m.days
Ends water m station n t (Some e) = (n < m.days) × Refuses water m station n t e

-- a balance that was started
pub record Ran {S : Type 0} (water : S → ℕ) (turns : S → ℕ → ℕ → Day → S → Flows → Type 0) (m : Meaning) (station : ℕ) (s t : S) (b : Balance) : Type 0 where
  pub going : Going water turns m station s t b.days b.sums
  pub ends : Ends water m station b.days t b.stop
  pub start_is : b.start ≡ water s
  pub end_is : b.end ≡ water t

-- nothing but a stop
abbrev pub stopped : Stop → Balance
stopped e = record { days = 0; sums = record { rain = 0; side = 0; vapour = 0; deep = 0 }; start = 0; end = 0; stop = Some e }

-- a balance that is refused before its first day
pub record NotStarted {S : Type 0} (s t : S) (b : Balance) : Type 0 where
  pub why : Overfull
  pub nothing : b ≡ stopped (Store why)
  pub same : t ≡ s

-- a balance of the column s, which becomes t: not started where the column passes its limit
pub record Course {S : Type 0} (water : S → ℕ) (turns : S → ℕ → ℕ → Day → S → Flows → Type 0) (m : Meaning) (station : ℕ) (s t : S) (b : Balance) : Type 0 where
  pub within : water s ≤ limit → Ran water turns m station s t b
  pub beyond : limit < water s → NotStarted s t b

-- no water is made or lost
abbrev pub Balanced : Balance → Type 0
Balanced b = b.end + b.sums.side + b.sums.vapour + b.sums.deep ≡ b.start + b.sums.rain
