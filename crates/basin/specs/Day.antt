-- One accepted day of a basin. Assumes nothing.
use Rattle.std.specs.Prelude.{◌≡◌, ℕ, ◌+◌, ◌<◌, List, length, get_or, Some, None, Ok, Err, Result, slice_index_or}
use Rattle.refusals.specs.Refusals.{basin_refusal}
use Rattle.refusals.specs.declared.basin.BasinFault.{BasinFault}
use Rattle.weather.specs.Days.{figures}
use Rattle.weather.specs.Meaning.{Meaning, asked}
use Rattle.weather.specs.declared.day.Day.{Day}
use Rattle.stores.specs.Meaning.{Kept}
use Rattle.stores.specs.declared.flows.Flows.{Flows}
use Rattle.network.specs.Records.{site0, reach0, unit0, flow0}
use Rattle.network.specs.Routing.{ReachDay, arriving, sides}
use Rattle.network.specs.declared.site.Site.{Site}
use Rattle.network.specs.declared.flows.UnitFlow.{UnitFlow}
use Rattle.network.specs.declared.flows.ReachFlow.{ReachFlow}
use Rattle.basin.specs.Tables.{State}
use Rattle.basin.specs.Questions.{demand_at, day_stop}

-- what one day moves in each unit and each reach
pub record Moved : Type 0 where
  pub units : List UnitFlow
  pub reaches : List ReachFlow

-- what leaves a unit, as its store answers it
abbrev pub flows_of : UnitFlow → Flows
flows_of f = record { side = f.side; vapour = f.vapour; deep = f.deep }

-- a unit turns once, with the rain and the demand of its site's station
pub record UnitDay {S : Type 0} (water : S → ℕ) (turns : S → ℕ → ℕ → Day → S → Flows → Type 0) (m : Meaning) (station index : ℕ) (u v : S) (f : UnitFlow) : Type 0 where
  pub day : Day
  pub seen : asked m station index ≡ Ok (figures day)
  pub rain_is : f.rain ≡ day.rain
  pub kept : Kept (water u) day.rain day.demand (water v) (flows_of f)
  pub turned : turns u day.rain day.demand day v (flows_of f)

-- an accepted day: every unit turns, and every reach has what its sites and the reaches above it gave on the same day
pub record DayOf {S : Type 0} (water : S → ℕ) (turns : S → ℕ → ℕ → Day → S → Flows → Type 0) (m : Meaning) (index : ℕ) (ss : List Site) (a b : State S) (f : Moved) : Type 0 where
  pub no_stop : day_stop water m index ss a ≡ None
  pub units_long : length b.units ≡ length a.units
  pub flows_long : length f.units ≡ length a.units
  pub reaches_long : length b.reaches ≡ length a.reaches
  pub reach_flows_long : length f.reaches ≡ length a.reaches
  pub unit : (i : ℕ) (z : S) → i < length a.units → UnitDay water turns m (get_or ss i site0).station index (slice_index_or a.units i z) (slice_index_or b.units i z) (slice_index_or f.units i unit0)
  pub reach : (j : ℕ) → j < length a.reaches → ReachDay (sides j ss f.units + arriving j a.reaches f.reaches) (demand_at m (get_or a.reaches j reach0).channel.station index) (slice_index_or a.reaches j reach0) (slice_index_or b.reaches j reach0) (slice_index_or f.reaches j flow0)

-- a day refused: the row is the first that fits, and nothing changed
pub record NoDay {S : Type 0} (water : S → ℕ) (m : Meaning) (index : ℕ) (ss : List Site) (a b : State S) (e : BasinFault) : Type 0 where
  pub why : day_stop water m index ss a ≡ Some (basin_refusal e)
  pub same : b ≡ a

-- a day, accepted or refused
abbrev pub Today : {S : Type 0} → (S → ℕ) → (S → ℕ → ℕ → Day → S → Flows → Type 0) → Meaning → ℕ → List Site → State S → State S → Moved → Result (Unit {0}) BasinFault → Type 0
Today water turns m index ss a b f (Ok _) = DayOf water turns m index ss a b f
Today water turns m index ss a b f (Err e) = NoDay water m index ss a b e
