-- The settings of one unit of bare rock that drains to one reach. Assumes nothing.
use Rattle.std.specs.Prelude.{◌≡◌, ℕ, List, [], ◌∷◌, map, ℤ, pos, None, Ok, Err, Option, Result}
use Rattle.std.specs.declared.alloc.AllocError.{AllocError}
use Rattle.snow.specs.declared.snowpack.Snowpack.{Snowpack}
use Rattle.stores.specs.declared.rock.Rock.{Rock}
use Rattle.network.specs.declared.site.Site.{Site}
use Rattle.network.specs.declared.reach.Reach.{Reach}
use Rattle.basin.specs.declared.basin.Basin.{Basin}
use Rattle.basin.specs.Tables.{View}
use Rattle.basin.specs.Calls.{view}

-- area, reach, station
abbrev pub site_settings : Site → List ℕ
site_settings s = s.area ∷ s.reach ∷ s.station ∷ []

-- own water, pack, snowfall and melt temperature, lag, melt rate
abbrev pub pack_settings : Snowpack Rock → List ℤ
pack_settings u = pos u.pack.water ∷ u.pack.temperature ∷ u.pack.snowfall ∷ u.pack.melting ∷ pos u.pack.lag ∷ pos u.pack.factor ∷ []

-- next; station, stored water, outflow share, greatest loss, water surface, evaporation share
abbrev pub reach_settings : Reach → Option ℕ × List ℕ
reach_settings r = (r.channel.next, r.channel.station ∷ r.stored ∷ r.channel.outflow.millionths ∷ r.channel.loss ∷ r.channel.surface ∷ r.channel.evaporation.millionths ∷ [])

-- ten square metres of rock; every setting is 0 but the lag, a whole, and the outflow share, a half
pub record Bare (a : View (Snowpack Rock)) : Type 0 where
  pub one_site : map site_settings a.sites ≡ (10 ∷ 0 ∷ 0 ∷ []) ∷ []
  pub one_unit : map pack_settings a.state.units ≡ (pos 0 ∷ pos 0 ∷ pos 0 ∷ pos 0 ∷ pos 1000 ∷ pos 0 ∷ []) ∷ []
  pub one_reach : map reach_settings a.state.reaches ≡ (None, 0 ∷ 0 ∷ 500000 ∷ 0 ∷ 0 ∷ 0 ∷ []) ∷ []
  pub new : a.day ≡ 0

-- such a basin, or no memory for it
abbrev pub BareOr : Result (Basin (Snowpack Rock)) AllocError → Type 0
BareOr (Ok b) = Bare (view b)
BareOr (Err e) = Unit {0}
