-- The two days of the small basin. Assumes nothing.
use Rattle.std.proofs.Common.{◌≡◌, ℕ, zero, suc, ◌+◌, ◌<◌, ◌≤◌, List, [], ◌∷◌, get_or, pos, Some, None, refl, ap, arith, lit≤}
use borrow.Author.Count.{below_none, below_more}
use lib.Signed.{le_z_yes}
use Rattle.fixed.proofs.Bounds.{le_at}
use Rattle.fixed.specs.Limits.{outside}
use Rattle.fixed.specs.Shares.{part_of}
use Rattle.refusals.specs.Refusals.{basin_refusal}
use Rattle.weather.specs.Meaning.{Meaning}
use Rattle.weather.specs.declared.day.Day.{Day}
use Rattle.sources.specs.Bytes.{word_at, half_at}
use Rattle.sources.specs.Calendar.{date_at}
use Rattle.sources.specs.Header.{table_fault}
use Rattle.sources.specs.Records.{sky_of}
use Rattle.sources.specs.Table.{table_meaning, table_means}
use Rattle.sources.specs.declared.table.WeatherTable.{WeatherTable}
use Rattle.stores.specs.Groundwater.{rock_gives}
use Rattle.stores.specs.declared.rock.Rock.{Rock}
use Rattle.snow.specs.Pack.{warmed_to, snow_of, melt_at}
use Rattle.snow.specs.declared.snowpack.Snowpack.{Snowpack}
use Rattle.columns.specs.Columns.{rock_water, rock_turns}
use Rattle.network.specs.Records.{site0, unit0}
use Rattle.network.specs.declared.flows.UnitFlow.{UnitFlow}
use Rattle.network.specs.declared.flows.ReachFlow.{ReachFlow}
use Rattle.network.specs.declared.reach.Reach.{Reach}
use Rattle.basin.specs.Questions.{demand_at, day_stop}
use Rattle.basin.specs.Tables.{State}
use Rattle.basin.specs.Day.{Moved, UnitDay, DayOf}
use Rattle.network.specs.Routing.{ReachDay, sides, arriving}
use Rattle.figures.specs.Small.{small_site, cold_unit, warm_unit, small_channel, table_bytes, one_station, lasts_two_days, small_weather, wet_unit, wet_reach, dry_unit, dry_reach}
use Rattle.figures.specs.Example.{no_third_day}

-- ---- the table
-- its bytes are a table
pub table_opens : table_fault table_bytes ≡ None
unfolding word_at outside
table_opens = refl

-- bytes equal to its bytes mean its weather, however they are known to fit
pub bytes_mean : (bytes : List ℕ) → bytes ≡ table_bytes → (p : (1 ≤ word_at bytes 0) × (word_at bytes 0 ≤ 64)) (q : (1 ≤ word_at bytes 4) × (word_at bytes 4 ≤ 36500)) → table_meaning bytes p q ≡ small_weather
bytes_mean bytes e p q j =
    let stations = ap (λ (l : List ℕ). word_at l 0) e in
    let days = ap (λ (l : List ℕ). word_at l 4) e in
    table_meaning (e j)
    (le_at refl stations p.0 one_station.0 j, le_at stations refl p.1 one_station.1 j)
    (le_at refl days q.0 lasts_two_days.0 j, le_at days refl q.1 lasts_two_days.1 j)

-- so does every table of these bytes
pub table_means_lem : (t : WeatherTable) → t.bytes.now ≡ table_bytes → table_means t ≡ small_weather
table_means_lem t e = bytes_mean t.bytes.now e (table_means t).some_stations (table_means t).some_days

-- ---- lists of one record
-- what holds at 0 holds at each index
pub at_one : (P : ℕ → Type 0) → P 0 → (i : ℕ) → i < 1 → P i
at_one P p = below_more P 0 (below_none P) p

-- ---- a day of a basin with one unit and one reach
-- the reach with so much water
abbrev pub reach_with : ℕ → Reach
reach_with x = record { channel = small_channel; stored = x }

-- the tables with this unit and so much water in the reach
abbrev pub tables_with : Snowpack Rock → ℕ → State (Snowpack Rock)
tables_with u x = record { units = u ∷ []; reaches = reach_with x ∷ [] }

-- what one unit and one reach move
abbrev pub both_move : UnitFlow → ReachFlow → Moved
both_move f g = record { units = f ∷ []; reaches = g ∷ [] }

module _ (m : Meaning) (index : ℕ) (u v : Snowpack Rock) (x y : ℕ) (f : UnitFlow) (g : ReachFlow) where
  -- there is no second unit
  only_unit : UnitDay rock_water rock_turns m 0 index u v f → (i : ℕ) (z : Snowpack Rock) → i < 1 → UnitDay rock_water rock_turns m (get_or (small_site ∷ []) i site0).station index (get_or (u ∷ []) i z) (get_or (v ∷ []) i z) (get_or (f ∷ []) i unit0)
  only_unit d zero z h = d
  only_unit d (suc i) z h = absurd (let n : ⊥ = omega arith in n)

  -- the day of both is the basin's
  small_day : day_stop rock_water m index (small_site ∷ []) (tables_with u x) ≡ None → UnitDay rock_water rock_turns m 0 index u v f → ReachDay (sides 0 (small_site ∷ []) (f ∷ []) + arriving 0 (reach_with x ∷ []) (g ∷ [])) (demand_at m 0 index) (reach_with x) (reach_with y) g → DayOf rock_water rock_turns m index (small_site ∷ []) (tables_with u x) (tables_with v y) (both_move f g)
  small_day s d e = record { no_stop = s; units_long = refl; flows_long = refl; reaches_long = refl; reach_flows_long = refl; unit = only_unit d; reach = at_one _ e }

-- ---- the first day: rain, which runs off the rock
-- its weather
abbrev wet_day : Day
wet_day = record { date = 100; rain = 5000; highest = pos 1000; lowest = pos 400; demand = 0; dated = (lit≤ tt, lit≤ tt); wet = lit≤ tt; warm = le_z_yes tt; warmer = le_z_yes tt; cold = le_z_yes tt; dry = lit≤ tt }

-- the unit's
wet_unit_lem : UnitDay rock_water rock_turns small_weather 0 0 cold_unit warm_unit wet_unit
unfolding word_at half_at sky_of outside date_at warmed_to snow_of melt_at
wet_unit_lem = record {
  day = wet_day;
  seen = refl;
  rain_is = refl;
  kept = record { room = lit≤ tt; balance = refl; drunk = lit≤ tt };
  turned = record { below = rock_gives 5000; pack_turn = record { water_is = refl; temperature_is = refl; same_snowfall = refl; same_melting = refl; same_lag = refl; same_factor = refl }; lower_turn = refl; side_is = refl; vapour_is = refl; deep_is = refl };
}

-- the basin's
pub wet_day_lem : DayOf rock_water rock_turns small_weather 0 (small_site ∷ []) (tables_with cold_unit 0) (tables_with warm_unit 25000) (both_move wet_unit wet_reach)
unfolding word_at half_at sky_of outside date_at part_of
wet_day_lem = small_day small_weather 0 cold_unit warm_unit 0 25000 wet_unit wet_reach refl wet_unit_lem (record { flow_is = refl; after_is = refl })

-- ---- the second day: no rain, and the reach gives half away
-- its weather
abbrev dry_day : Day
dry_day = record { date = 101; rain = 0; highest = pos 1000; lowest = pos 400; demand = 0; dated = (lit≤ tt, lit≤ tt); wet = lit≤ tt; warm = le_z_yes tt; warmer = le_z_yes tt; cold = le_z_yes tt; dry = lit≤ tt }

-- the unit's
dry_unit_lem : UnitDay rock_water rock_turns small_weather 0 1 warm_unit warm_unit dry_unit
unfolding word_at half_at sky_of outside date_at warmed_to snow_of melt_at
dry_unit_lem = record {
  day = dry_day;
  seen = refl;
  rain_is = refl;
  kept = record { room = lit≤ tt; balance = refl; drunk = lit≤ tt };
  turned = record { below = rock_gives 0; pack_turn = record { water_is = refl; temperature_is = refl; same_snowfall = refl; same_melting = refl; same_lag = refl; same_factor = refl }; lower_turn = refl; side_is = refl; vapour_is = refl; deep_is = refl };
}

-- the basin's
pub dry_day_lem : DayOf rock_water rock_turns small_weather 1 (small_site ∷ []) (tables_with warm_unit 25000) (tables_with warm_unit 12500) (both_move dry_unit dry_reach)
unfolding word_at half_at sky_of outside date_at part_of
dry_day_lem = small_day small_weather 1 warm_unit warm_unit 25000 12500 dry_unit dry_reach refl dry_unit_lem (record { flow_is = refl; after_is = refl })

-- ---- the third day: the source refuses the first question
pub no_third_day_lem : day_stop rock_water small_weather 2 (small_site ∷ []) (tables_with warm_unit 12500) ≡ Some (basin_refusal no_third_day)
unfolding word_at
no_third_day_lem = refl
