-- Four calls on the small basin, of which one stops and one is denied, and what they balance to. Assumes nothing.
use Rattle.std.specs.Prelude.{◌≡◌, ◌+◌, ◌-◌, List, [], ◌∷◌, Some, None, Ok, Err, sum_by}
use Rattle.refusals.specs.Refusals.{refuse, basin_refusal}
use Rattle.refusals.specs.declared.weather.WeatherFault.TheVariants.{NoIndex}
use Rattle.refusals.specs.declared.basin.BasinFault.{BasinFault}
use Rattle.refusals.specs.declared.basin.BasinFault.TheVariants.{Weather, Short}
use Rattle.stores.specs.declared.rock.Rock.{Rock}
use Rattle.snow.specs.declared.snowpack.Snowpack.{Snowpack}
use Rattle.columns.specs.Columns.{rock_water, rock_turns}
use Rattle.network.specs.Records.{unit0, flow0}
use Rattle.basin.specs.declared.answer.Answer.{Answer}
use Rattle.basin.specs.Tables.{View}
use Rattle.basin.specs.Limits.{total}
use Rattle.basin.specs.Calls.{Call, run, pour, draw, History}
use Rattle.basin.specs.Law.{call_stream, call_vapour, call_deep, told_rain, poured, drawn, rained, Balanced}
use Rattle.figures.specs.Small.{warm_unit, small_basin, dry_basin, small_weather, wet_unit, wet_reach, dry_unit, dry_reach}

-- ---- a run of one day
abbrev pub whole_answer : Answer
whole_answer = record { days = 1; readings = 2; sums = record { rain = 50000; stream = 25000; vapour = 0; deep = 0 }; start = 0; end = 25000; stop = None }

abbrev pub whole_run : Call
whole_run = run small_weather 1 (unit0 ∷ []) (flow0 ∷ []) (wet_unit ∷ []) (wet_reach ∷ []) whole_answer

-- ---- a run of three days: the source has no third
-- site 0 asked station 0 for the index 2
abbrev pub no_third_day : BasinFault
no_third_day = Weather 0 (NoIndex 0 2)

abbrev pub stopped_answer : Answer
stopped_answer = record { days = 1; readings = 3; sums = record { rain = 0; stream = 12500; vapour = 0; deep = 0 }; start = 25000; end = 12500; stop = Some no_third_day }

-- its lists are those that the first run wrote
abbrev pub stopped_run : Call
stopped_run = run small_weather 3 (wet_unit ∷ []) (wet_reach ∷ []) (dry_unit ∷ []) (dry_reach ∷ []) stopped_answer

-- ---- all four, the newest first: a litre is poured, a thousand are not drawn
abbrev pub four_calls : List Call
four_calls = draw 0 1000000 (Err (Short 0)) ∷ pour 0 1000 (Ok tt) ∷ stopped_run ∷ whole_run ∷ []

abbrev pub last_basin : View (Snowpack Rock)
last_basin = small_basin warm_unit 13500 2

pub record ExampleHistory : Type 0 where
  pub history : History rock_water rock_turns dry_basin four_calls last_basin
  -- the refusals by number and values
  pub stop_told : basin_refusal no_third_day ≡ record { number = 57; values = 0 ∷ 32 ∷ 0 ∷ 2 ∷ [] }
  pub denied_told : basin_refusal (Short 0) ≡ refuse 60 0
  -- the sums of the law
  pub rain_fallen : rained 0 dry_basin.sites four_calls ≡ 50000
  pub rain_told : sum_by told_rain four_calls ≡ 50000
  pub pour_sum : sum_by poured four_calls ≡ 1000
  pub stream_sum : sum_by call_stream four_calls ≡ 37500
  pub vapour_sum : sum_by call_vapour four_calls ≡ 0
  pub deep_sum : sum_by call_deep four_calls ≡ 0
  pub draw_sum : sum_by drawn four_calls ≡ 0
  -- the basin's water at both ends
  pub water_before : total rock_water dry_basin.sites dry_basin.state ≡ 0
  pub water_after : total rock_water last_basin.sites last_basin.state ≡ 13500
  -- the law of these calls; by it alone they end with that water, wherever they end
  pub law : Balanced rock_water dry_basin four_calls last_basin
  pub by_the_law : (b : View (Snowpack Rock)) → History rock_water rock_turns dry_basin four_calls b → total rock_water b.sites b.state ≡ 0 + 50000 + 1000 - 37500 - 0 - 0 - 0
