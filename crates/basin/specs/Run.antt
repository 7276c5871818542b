-- Days accepted one after another, and what a run answers. Assumes nothing.
use Rattle.std.specs.Prelude.{◌≡◌, ℕ, ◌+◌, ◌*◌, ◌^◌, ◌<◌, ◌≤◌, List, [], ◌∷◌, length, Some, None, sum_by, Option, slice_index_or}
use Rattle.refusals.specs.Refusals.{basin_refusal}
use Rattle.refusals.specs.declared.basin.BasinFault.{BasinFault}
use Rattle.weather.specs.Meaning.{Meaning}
use Rattle.weather.specs.declared.day.Day.{Day}
use Rattle.stores.specs.declared.flows.Flows.{Flows}
pub use Rattle.network.specs.Flows.{unit_plus, reach_plus}
use Rattle.network.specs.Records.{unit0, flow0}
use Rattle.network.specs.declared.site.Site.{Site}
use Rattle.network.specs.declared.reach.Reach.{Reach}
use Rattle.network.specs.declared.flows.UnitFlow.{UnitFlow}
use Rattle.network.specs.declared.flows.ReachFlow.{ReachFlow}
use Rattle.basin.specs.declared.answer.Sums.{Sums}
use Rattle.basin.specs.declared.answer.Answer.{Answer}
use Rattle.basin.specs.Tables.{State}
use Rattle.basin.specs.Limits.{over_area, total}
use Rattle.basin.specs.Questions.{day_stop}
use Rattle.basin.specs.Day.{Moved, DayOf}

-- the days from a to b that moved t, the newest first; the first of them has the index `from`
pub data Days {S : Type 0} (water : S → ℕ) (turns : S → ℕ → ℕ → Day → S → Flows → Type 0) (m : Meaning) (from : ℕ) (ss : List Site) (a : State S) : List Moved → State S → Type 0 where
  none : Days water turns m from ss a [] a
  more : {t : List Moved} {c b : State S} {f : Moved} → Days water turns m from ss a t c → DayOf water turns m (from + length t) ss c b f → Days water turns m from ss a (f ∷ t) b

-- ---- what a day moves, in millilitres
-- the outflow of a reach, where it has no next
abbrev pub leaving : Option ℕ → ℕ → ℕ
leaving None x = x
leaving (Some k) x = 0

-- of all reaches that have none
abbrev pub stream_flow : List Reach → List ReachFlow → ℕ
stream_flow [] fs = 0
stream_flow (r ∷ rs) [] = 0
stream_flow (r ∷ rs) (f ∷ fs) = leaving r.channel.next f.outflow + stream_flow rs fs

-- the units give rain, vapour and deep loss
abbrev pub unit_sums : List Site → List UnitFlow → Sums
unit_sums ss fs = record { rain = over_area (λ f. f.rain) ss fs; stream = 0; vapour = over_area (λ f. f.vapour) ss fs; deep = over_area (λ f. f.deep) ss fs }

-- the reaches give stream, vapour and deep loss
abbrev pub reach_sums : List Reach → List ReachFlow → Sums
reach_sums rs fs = record { rain = 0; stream = stream_flow rs fs; vapour = sum_by (λ f. f.vapour) fs; deep = sum_by (λ f. f.deep) fs }

abbrev pub plus : Sums → Sums → Sums
plus x y = record { rain = x.rain + y.rain; stream = x.stream + y.stream; vapour = x.vapour + y.vapour; deep = x.deep + y.deep }

-- each figure of the sums of both fits
pub record SumsFit (x y : Sums) : Type 0 where
  pub rain : x.rain + y.rain < 2 ^ 128
  pub stream : x.stream + y.stream < 2 ^ 128
  pub vapour : x.vapour + y.vapour < 2 ^ 128
  pub deep : x.deep + y.deep < 2 ^ 128

abbrev pub sums_of : List Site → List Reach → Moved → Sums
sums_of ss rs f = plus (unit_sums ss f.units) (reach_sums rs f.reaches)

-- ---- what the days moved together
abbrev pub nothing : Sums
nothing = record { rain = 0; stream = 0; vapour = 0; deep = 0 }

abbrev pub sums_over : List Site → List Reach → List Moved → Sums
sums_over ss rs [] = nothing
sums_over ss rs (f ∷ t) = plus (sums_over ss rs t) (sums_of ss rs f)

-- in the unit at a place, in micrometres
abbrev pub unit_over : ℕ → List Moved → UnitFlow
unit_over i [] = unit0
unit_over i (f ∷ t) = unit_plus (unit_over i t) (slice_index_or f.units i unit0)

-- in the reach at a place, in millilitres
abbrev pub reach_over : ℕ → List Moved → ReachFlow
reach_over j [] = flow0
reach_over j (f ∷ t) = reach_plus (reach_over j t) (slice_index_or f.reaches j flow0)

-- n days accepted from the index `from` on: the tables, the sums and both flow lists after them
pub record Going {S : Type 0} (water : S → ℕ) (turns : S → ℕ → ℕ → Day → S → Flows → Type 0) (m : Meaning) (from : ℕ) (ss : List Site) (a b : State S) (us : List UnitFlow) (rs : List ReachFlow) (n : ℕ) (x : Sums) : Type 0 where
  pub moved : List Moved
  pub days : Days water turns m from ss a moved b
  pub count : n ≡ length moved
  pub sums_are : x ≡ sums_over ss a.reaches moved
  pub unit_list : (i : ℕ) → i < length us → slice_index_or us i unit0 ≡ unit_over i moved
  pub reach_list : (j : ℕ) → j < length rs → slice_index_or rs j flow0 ≡ reach_over j moved

-- why a run of at most n days ends after some: it has them all, or the next day is not accepted
abbrev pub Ends : {S : Type 0} → (S → ℕ) → Meaning → ℕ → ℕ → List Site → State S → ℕ → Option BasinFault → Type 0
Ends water m from n ss b days None = days ≡ n
Ends water m from n ss b days (Some e) = (days < n) × (day_stop water m (from + days) ss b ≡ Some (basin_refusal e))

-- the days of weather asked of the source: between those of the days accepted and those of one day more
abbrev pub ReadingsWithin : ℕ → ℕ → ℕ → Type 0
ReadingsWithin places days readings = (days * places ≤ readings) × (readings ≤ (days + 1) * places)

-- a run of at most n days from the index `from`
pub record Ran {S : Type 0} (water : S → ℕ) (turns : S → ℕ → ℕ → Day → S → Flows → Type 0) (m : Meaning) (from n : ℕ) (ss : List Site) (a b : State S) (us : List UnitFlow) (rs : List ReachFlow) (r : Answer) : Type 0 where
  pub going : Going water turns m from ss a b us rs r.days r.sums
  pub ends : Ends water m from n ss b r.days r.stop
  pub start_is : r.start ≡ total water ss a
  pub end_is : r.end ≡ total water ss b
  pub readings_are : ReadingsWithin (length ss + length a.reaches) r.days r.readings

-- nothing but a stop
abbrev pub only_stop : BasinFault → Answer
only_stop e = record { days = 0; readings = 0; sums = nothing; start = 0; end = 0; stop = Some e }
