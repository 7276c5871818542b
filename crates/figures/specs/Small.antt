-- A basin small enough to work by hand, and two days of weather for it. Assumes nothing.
use Rattle.std.specs.Prelude.{ℕ, ◌≤◌, List, [], ◌∷◌, ℤ, pos, negsuc, ◌≤ℤ◌, None, refl}
use Rattle.std.proofs.Common.{lit≤}
use Rattle.std.specs.Int.Signed.{le_z_yes}
use Rattle.weather.specs.Meaning.{Meaning}
use Rattle.sources.specs.Bytes.{word_at}
use Rattle.sources.specs.Table.{table_meaning}
use Rattle.stores.specs.declared.rock.Rock.{Rock}
use Rattle.snow.specs.declared.snowpack.Snowpack.{Snowpack}
use Rattle.network.specs.declared.site.Site.{Site}
use Rattle.network.specs.declared.channel.Channel.{Channel}
use Rattle.network.specs.declared.flows.UnitFlow.{UnitFlow}
use Rattle.network.specs.declared.flows.ReachFlow.{ReachFlow}
use Rattle.basin.specs.Tables.{View}

-- ---- the basin
-- ten square metres, which drain to the first reach
abbrev pub small_site : Site
small_site = record { area = 10; reach = 0; station = 0; sized = (lit≤ tt, lit≤ tt); stationed = lit≤ tt }

-- bare rock under a pack without snow at this temperature; its lag is whole
abbrev pub bare_unit : (t : ℤ) → (t ≤ℤ pos 6000) × (negsuc 5999 ≤ℤ t) → Snowpack Rock
bare_unit t h = record { pack = record { water = 0; temperature = t; snowfall = pos 0; melting = pos 0; lag = 1000; factor = 0; held = lit≤ tt; cold = h; falls = (le_z_yes tt, le_z_yes tt); melts = (le_z_yes tt, le_z_yes tt); lags = lit≤ tt; paced = lit≤ tt }; lower = record {} }

-- at 0 °C, and at the mean of both days
abbrev pub cold_unit : Snowpack Rock
cold_unit = bare_unit (pos 0) (le_z_yes tt, le_z_yes tt)

abbrev pub warm_unit : Snowpack Rock
warm_unit = bare_unit (pos 700) (le_z_yes tt, le_z_yes tt)

-- half of the water leaves on a day, and nothing is lost
abbrev pub small_channel : Channel
small_channel = record { next = None; station = 0; outflow = record { millionths = 500000; within = lit≤ tt }; loss = 0; surface = 0; evaporation = record { millionths = 0; within = lit≤ tt }; onward = refl; stationed = lit≤ tt; lossy = lit≤ tt; wide = lit≤ tt }

-- one site, this unit, one reach with so much water, and so many days accepted
abbrev pub small_basin : Snowpack Rock → ℕ → ℕ → View (Snowpack Rock)
small_basin u x n = record { sites = small_site ∷ []; state = record { units = u ∷ []; reaches = record { channel = small_channel; stored = x } ∷ [] }; day = n }

-- empty
abbrev pub dry_basin : View (Snowpack Rock)
dry_basin = small_basin cold_unit 0 0

-- ---- the weather
-- one station, two days, from day 100 of 2026 on, 44 bytes;
-- a day of 5 mm of rain, highest 10 °C, lowest 4 °C, no demand; a day like it without rain
abbrev pub table_bytes : List ℕ
table_bytes =
    1 ∷ 0 ∷ 0 ∷ 0 ∷ 2 ∷ 0 ∷ 0 ∷ 0 ∷ 234 ∷ 7 ∷ 0 ∷ 0 ∷ 100 ∷ 0 ∷ 0 ∷ 0 ∷ 44 ∷ 0 ∷ 0 ∷ 0 ∷
    136 ∷ 19 ∷ 0 ∷ 0 ∷ 232 ∷ 3 ∷ 144 ∷ 1 ∷ 0 ∷ 0 ∷ 0 ∷ 0 ∷
    0 ∷ 0 ∷ 0 ∷ 0 ∷ 232 ∷ 3 ∷ 144 ∷ 1 ∷ 0 ∷ 0 ∷ 0 ∷ 0 ∷ []

pub one_station : (1 ≤ word_at table_bytes 0) × (word_at table_bytes 0 ≤ 64)
unfolding word_at
one_station = (lit≤ tt, lit≤ tt)

pub lasts_two_days : (1 ≤ word_at table_bytes 4) × (word_at table_bytes 4 ≤ 36500)
unfolding word_at
lasts_two_days = (lit≤ tt, lit≤ tt)

abbrev pub small_weather : Meaning
small_weather = table_meaning table_bytes one_station lasts_two_days

-- ---- what a day moves
-- the first: 50 L of rain run off the rock, and half of them leave the reach
abbrev pub wet_unit : UnitFlow
wet_unit = record { rain = 5000; side = 5000; vapour = 0; deep = 0 }

abbrev pub wet_reach : ReachFlow
wet_reach = record { inflow = 50000; outflow = 25000; vapour = 0; deep = 0 }

-- the second: nothing runs off, and half of what stayed leaves
abbrev pub dry_unit : UnitFlow
dry_unit = record { rain = 0; side = 0; vapour = 0; deep = 0 }

abbrev pub dry_reach : ReachFlow
dry_reach = record { inflow = 0; outflow = 12500; vapour = 0; deep = 0 }
