-- Figures worked by hand. Assumes nothing.
use Rattle.std.specs.Prelude.{◌≡◌, ℕ, ◌≤◌, pos, negsuc, Some, None, Result, refl}
use Rattle.std.proofs.Common.{lit≤, lit<}
use Rattle.std.specs.Int.Signed.{le_z_yes}
use Rattle.fixed.specs.Decay.{decay_at}
use Rattle.fixed.specs.Moisture.{moisture_at}
use Rattle.fixed.specs.declared.share.Share.{Share}
use Rattle.weather.specs.declared.day.Day.{Day}
use Rattle.snow.specs.Pack.{melt_of, dries_of}
use Rattle.snow.specs.declared.pack.Pack.{Pack}
use Rattle.surface.specs.Runoff.{runoff_of}
use Rattle.profile.specs.Layers.{seepage_of, lateral_of, vapour_of}
use Rattle.profile.specs.declared.layer.Layer.{Layer}
use Rattle.refusals.specs.Refusals.{refuse}
use Rattle.refusals.specs.declared.basin.BasinFault.{BasinFault}
use Rattle.columns.specs.Columns.{rock_water, rock_turns}
use Rattle.stores.specs.declared.rock.Rock.{Rock}
use Rattle.snow.specs.declared.snowpack.Snowpack.{Snowpack}
use Rattle.network.specs.Routing.{reach_flow, reach_after}
use Rattle.network.specs.declared.reach.Reach.{Reach}
use Rattle.basin.specs.Tables.{View, refused_by}
use Rattle.basin.specs.Calls.{draw, draw_fault, stored_in, Step}
use Rattle.figures.specs.Small.{cold_unit, small_basin}

abbrev pub share_of : (n : ℕ) → n ≤ 1000000 → Share
share_of n h = record { millionths = n; within = h }

-- a layer with water above field capacity
abbrev pub wet_layer : Layer
wet_layer = record { wilting = 100000; capacity = 300000; water = 350000; percolation = share_of 400000 (lit≤ tt); lateral = share_of 100000 (lit≤ tt); demand = share_of 500000 (lit≤ tt); points = (lit< tt, lit≤ tt); held = (lit≤ tt, lit≤ tt); parts = lit≤ tt }

-- one with water under it
abbrev pub dry_layer : Layer
dry_layer = record { wilting = 100000; capacity = 300000; water = 200000; percolation = share_of 400000 (lit≤ tt); lateral = share_of 100000 (lit≤ tt); demand = share_of 1000000 (lit≤ tt); points = (lit< tt, lit≤ tt); held = (lit≤ tt, lit≤ tt); parts = lit≤ tt }

-- 0 to 4 °C, 5 mm of rain
abbrev pub mild_day : Day
mild_day = record { date = 1; rain = 5000; highest = pos 400; lowest = pos 0; demand = 1000; dated = (lit≤ tt, lit≤ tt); wet = lit≤ tt; warm = le_z_yes tt; warmer = le_z_yes tt; cold = le_z_yes tt; dry = lit≤ tt }

-- its lag is whole, so that its own temperature does not count
abbrev pub old_pack : Pack
old_pack = record { water = 20000; temperature = negsuc 99; snowfall = pos 100; melting = pos 50; lag = 1000; factor = 3380; held = lit≤ tt; cold = (le_z_yes tt, le_z_yes tt); falls = (le_z_yes tt, le_z_yes tt); melts = (le_z_yes tt, le_z_yes tt); lags = lit≤ tt; paced = lit≤ tt }

-- 1,000 L in a reach at the basin's end: 40 % leave on a day, of which up to 50 L seep away, and 100 m² of water meet half of the demand
abbrev pub broad_reach : (s : ℕ) → s ≤ 63 → Reach
broad_reach s h = record { channel = record { next = None; station = s; outflow = share_of 400000 (lit≤ tt); loss = 50000; surface = 100; evaporation = share_of 500000 (lit≤ tt); onward = refl; stationed = h; lossy = lit≤ tt; wide = lit≤ tt }; stored = 1000000 }

-- a basin with 900 mL in its reach
abbrev pub filled_basin : View (Snowpack Rock)
filled_basin = small_basin cold_unit 900 0

pub record WorkedFigures : Type 0 where
  pub decay : decay_at 1536 ≡ 223130160
  pub moisture : moisture_at 500000 (pos 1024) 0 ≡ 155362
  pub runoff : runoff_of 50000 50000 ≡ 17777
  pub wet_seepage : seepage_of wet_layer 0 ≡ 20000
  pub wet_side : lateral_of wet_layer 0 ≡ 5000
  pub wet_vapour : vapour_of wet_layer 0 4000 ≡ 2000
  pub dry_vapour : vapour_of dry_layer 0 4000 ≡ 1146
  pub melt : melt_of old_pack 5000 mild_day ≡ 8450
  pub snow_vapour : dries_of old_pack 5000 1000 mild_day ≡ 1000
  -- a reach's day with 500 L of inflow and 4 mm of demand, whatever its station
  pub reach_outflow : (s : ℕ) (h : s ≤ 63) → (reach_flow 500000 4000 (broad_reach s h)).outflow ≡ 350000
  pub reach_vapour : (s : ℕ) (h : s ≤ 63) → (reach_flow 500000 4000 (broad_reach s h)).vapour ≡ 200000
  pub reach_deep : (s : ℕ) (h : s ≤ 63) → (reach_flow 500000 4000 (broad_reach s h)).deep ≡ 50000
  pub reach_stored : (s : ℕ) (h : s ≤ 63) → (reach_after 500000 (broad_reach s h)).stored ≡ 900000
  -- all the water of a reach can be drawn, which empties it
  pub draw_allowed : draw_fault filled_basin 0 900 ≡ None
  pub draw_all : (r : Result (Unit {0}) BasinFault) (b : View (Snowpack Rock)) → Step rock_water rock_turns filled_basin (draw 0 900 r) b → (refused_by r ≡ None) × (stored_in b 0 ≡ 0)
  -- a millilitre more cannot, and the basin is as it was
  pub draw_refused : draw_fault filled_basin 0 901 ≡ Some (refuse 60 0)
  pub draw_more : (r : Result (Unit {0}) BasinFault) (b : View (Snowpack Rock)) → Step rock_water rock_turns filled_basin (draw 0 901 r) b → (refused_by r ≡ Some (refuse 60 0)) × (b ≡ filled_basin)
