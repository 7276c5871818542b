-- The number and the values of every refusal, in the order of the table in docs/REFUSALS.md. Assumes nothing.
use Rattle.std.specs.Prelude.{ℕ, List, [], ◌∷◌, Ok, Err, Result}
use Rattle.refusals.specs.declared.day.DayFault.{DayFault}
use Rattle.refusals.specs.declared.day.DayFault.TheVariants.{DayOfYear, Rain, Highest, Lowest, Demand}
use Rattle.refusals.specs.declared.snowpack.SnowpackSetting.{SnowpackSetting}
use Rattle.refusals.specs.declared.snowpack.SnowpackSetting.TheVariants.{SnowWater, PackTemperature, SnowfallTemperature, MeltTemperature, Lag, MeltFactor}
use Rattle.refusals.specs.declared.surface.SurfaceSetting.{SurfaceSetting}
use Rattle.refusals.specs.declared.surface.SurfaceSetting.TheVariants.{Retention, FullWater, FirstShape, SecondShape}
use Rattle.refusals.specs.declared.layer.LayerSetting.{LayerSetting}
use Rattle.refusals.specs.declared.layer.LayerSetting.TheVariants.{WiltingPoint, FieldCapacity, SoilWater, Percolation, Lateral, DemandShare}
use Rattle.refusals.specs.declared.aquifer.AquiferSetting.{AquiferSetting}
use Rattle.refusals.specs.declared.aquifer.AquiferSetting.TheVariants.{GroundWater, DeepShare, FlowThreshold, FlowShare}
use Rattle.refusals.specs.declared.normal_year.NormalYearSetting.{NormalYearSetting}
use Rattle.refusals.specs.declared.normal_year.NormalYearSetting.TheVariants.{Stations, FirstDay}
use Rattle.refusals.specs.declared.profile.ProfileFull.{ProfileFull}
use Rattle.refusals.specs.declared.table.HeaderCount.{HeaderCount}
use Rattle.refusals.specs.declared.table.HeaderCount.TheVariants.{StationCount, DayCount, FirstYear, FirstDate}
use Rattle.refusals.specs.declared.table.TableFault.{TableFault}
use Rattle.refusals.specs.declared.table.TableFault.TheVariants.{Length, Header, Size}
use Rattle.refusals.specs.declared.weather.WeatherFault.{WeatherFault}
use Rattle.refusals.specs.declared.weather.WeatherFault.TheVariants.{NoStation, NoIndex, Missing, Outside}
use Rattle.refusals.specs.declared.store.Overfull.{Overfull}
use Rattle.refusals.specs.declared.site.SiteSetting.{SiteSetting}
use Rattle.refusals.specs.declared.site.SiteSetting.TheVariants.{Area, SiteReach as OfReach, SiteStation}
use Rattle.refusals.specs.declared.reach.ReachSetting.{ReachSetting}
use Rattle.refusals.specs.declared.reach.ReachSetting.TheVariants.{Downstream, ReachStation, StoredWater, StorageCoefficient, TransmissionLoss, WaterSurface, EvaporationShare}
use Rattle.refusals.specs.declared.basin.BasinFault.{BasinFault}
use Rattle.refusals.specs.declared.basin.BasinFault.TheVariants.{Lengths, SiteReach, NextReach, Areas, NoReach, Amount, Weather, UnitFull, BasinFull, Short}
use Rattle.refusals.specs.declared.log.BufferShort.{BufferShort}
use Rattle.refusals.specs.declared.values.Values.{Values}
use Rattle.refusals.specs.declared.values.Values.TheVariants.{One, Two, Four}

pub record Refusal : Type 0 where
  pub number : ℕ
  pub values : List ℕ

abbrev pub listed : Values → List ℕ
listed (One v) = v ∷ []
listed (Two v w) = v ∷ w ∷ []
listed (Four v w x y) = v ∷ w ∷ x ∷ y ∷ []

-- a refusal with one value
abbrev pub refuse : ℕ → ℕ → Refusal
refuse n v = record { number = n; values = v ∷ [] }

-- ---- 11, field: a figure of a day of weather lies outside its limits
abbrev pub day_refusal : DayFault → Refusal
day_refusal DayOfYear = refuse 11 1
day_refusal Rain = refuse 11 2
day_refusal Highest = refuse 11 3
day_refusal Lowest = refuse 11 4
day_refusal Demand = refuse 11 5

-- ---- 12, field: a setting lies outside its limits
abbrev pub snowpack_refusal : SnowpackSetting → Refusal
snowpack_refusal SnowWater = refuse 12 1
snowpack_refusal PackTemperature = refuse 12 2
snowpack_refusal SnowfallTemperature = refuse 12 3
snowpack_refusal MeltTemperature = refuse 12 4
snowpack_refusal Lag = refuse 12 5
snowpack_refusal MeltFactor = refuse 12 6

abbrev pub surface_refusal : SurfaceSetting → Refusal
surface_refusal Retention = refuse 12 1
surface_refusal FullWater = refuse 12 2
surface_refusal FirstShape = refuse 12 3
surface_refusal SecondShape = refuse 12 4

abbrev pub layer_refusal : LayerSetting → Refusal
layer_refusal WiltingPoint = refuse 12 1
layer_refusal FieldCapacity = refuse 12 2
layer_refusal SoilWater = refuse 12 3
layer_refusal Percolation = refuse 12 4
layer_refusal Lateral = refuse 12 5
layer_refusal DemandShare = refuse 12 6

abbrev pub aquifer_refusal : AquiferSetting → Refusal
aquifer_refusal GroundWater = refuse 12 1
aquifer_refusal DeepShare = refuse 12 2
aquifer_refusal FlowThreshold = refuse 12 3
aquifer_refusal FlowShare = refuse 12 4

abbrev pub site_refusal : SiteSetting → Refusal
site_refusal Area = refuse 12 1
site_refusal OfReach = refuse 12 2
site_refusal SiteStation = refuse 12 3

abbrev pub reach_refusal : ReachSetting → Refusal
reach_refusal Downstream = refuse 12 1
reach_refusal ReachStation = refuse 12 2
reach_refusal StoredWater = refuse 12 3
reach_refusal StorageCoefficient = refuse 12 4
reach_refusal TransmissionLoss = refuse 12 5
reach_refusal WaterSurface = refuse 12 6
reach_refusal EvaporationShare = refuse 12 7

abbrev pub normal_year_refusal : NormalYearSetting → Refusal
normal_year_refusal Stations = refuse 12 1
normal_year_refusal FirstDay = refuse 12 2

-- ---- 13, 10: an eleventh layer
abbrev pub profile_refusal : ProfileFull → Refusal
profile_refusal f = refuse 13 10

-- ---- 21, byte count; 22, header field; 23, 0: a weather table that cannot be opened
abbrev pub header_field : HeaderCount → ℕ
header_field StationCount = 1
header_field DayCount = 2
header_field FirstYear = 3
header_field FirstDate = 4

abbrev pub table_refusal : TableFault → Refusal
table_refusal (Length n) = refuse 21 n
table_refusal (Header h) = refuse 22 (header_field h)
table_refusal Size = refuse 23 0

-- ---- 31 to 34, station, index: a question to a weather source
abbrev pub refuse_at : ℕ → ℕ → ℕ → Refusal
refuse_at n s i = record { number = n; values = s ∷ i ∷ [] }

abbrev pub weather_refusal : WeatherFault → Refusal
weather_refusal (NoStation s i) = refuse_at 31 s i
weather_refusal (NoIndex s i) = refuse_at 32 s i
weather_refusal (Missing s i) = refuse_at 33 s i
weather_refusal (Outside s i) = refuse_at 34 s i

-- ---- 41, 0: a store's water passes its limit
abbrev pub store_refusal : Overfull → Refusal
store_refusal f = refuse 41 0

-- ---- 51 to 60: a call on a basin
-- a source's refusal whole, at the place where it was asked: a site, or 1,024 and a reach
abbrev pub at_place : ℕ → Refusal → Refusal
at_place place e = record { number = 57; values = place ∷ (e.number ∷ e.values) }

abbrev pub basin_refusal : BasinFault → Refusal
basin_refusal Lengths = refuse 51 0
basin_refusal (SiteReach s) = refuse 52 s
basin_refusal (NextReach r) = refuse 53 r
basin_refusal Areas = refuse 54 0
basin_refusal (NoReach r) = refuse 55 r
basin_refusal Amount = refuse 56 0
basin_refusal (Weather place e) = at_place place (weather_refusal e)
basin_refusal (UnitFull s) = refuse 58 s
basin_refusal BasinFull = refuse 59 0
basin_refusal (Short r) = refuse 60 r

-- ---- 61, length needed: a buffer too short for a log
abbrev pub log_refusal : BufferShort → Refusal
log_refusal f = refuse 61 f.needed

-- what a call answered: its value as `shown`, or the refusal by number
abbrev pub told : {X Y E : Type 0} → (X → Y) → (E → Refusal) → Result X E → Result Y Refusal
told shown refusal (Ok x) = Ok (shown x)
told shown refusal (Err e) = Err (refusal e)
