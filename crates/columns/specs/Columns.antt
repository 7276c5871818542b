-- The water of the two columns, and how each divides it, from the top down. Assumes nothing.
use Rattle.std.specs.Prelude.{◌≡◌, ℕ, ◌+◌}
use Rattle.weather.specs.declared.day.Day.{Day}
use Rattle.stores.specs.Groundwater.{AquiferTurn, rock_gives}
use Rattle.stores.specs.declared.flows.Flows.{Flows}
use Rattle.stores.specs.declared.aquifer.Aquifer.{Aquifer}
use Rattle.stores.specs.declared.rock.Rock.{Rock}
use Rattle.snow.specs.Snowpack.{SnowpackTurn}
use Rattle.snow.specs.declared.snowpack.Snowpack.{Snowpack}
use Rattle.surface.specs.Surface.{SurfaceTurn}
use Rattle.surface.specs.declared.surface.Surface.{Surface}
use Rattle.profile.specs.Profiles.{ProfileTurn}
use Rattle.profile.specs.Soils.{soil_water, soil_root}
use Rattle.profile.specs.declared.profile.Profile.{Profile}

-- ---- snow over a surface over soil over an aquifer
abbrev pub profile_turns : Profile Aquifer → ℕ → ℕ → Day → Profile Aquifer → Flows → Type 0
profile_turns s i d w t f = ProfileTurn (λ a n m v b g. AquiferTurn a n b g) s.soil s.lower i d w t.soil t.lower f

abbrev pub surface_turns : Surface (Profile Aquifer) → ℕ → ℕ → Day → Surface (Profile Aquifer) → Flows → Type 0
surface_turns s i d w t f = SurfaceTurn (λ (p : Profile Aquifer). soil_root p.soil) profile_turns s.retention s.lower i d w t.retention t.lower f

abbrev pub column_turns : Snowpack (Surface (Profile Aquifer)) → ℕ → ℕ → Day → Snowpack (Surface (Profile Aquifer)) → Flows → Type 0
column_turns s i d w t f = SnowpackTurn surface_turns s.pack s.lower i d w t.pack t.lower f

abbrev pub column_water : Snowpack (Surface (Profile Aquifer)) → ℕ
column_water s = s.pack.water + (soil_water s.lower.lower.soil + s.lower.lower.lower.water)

-- ---- snow over rock
abbrev pub rock_turns : Snowpack Rock → ℕ → ℕ → Day → Snowpack Rock → Flows → Type 0
rock_turns s i d w t f = SnowpackTurn (λ a n m v b g. g ≡ rock_gives n) s.pack s.lower i d w t.pack t.lower f

abbrev pub rock_water : Snowpack Rock → ℕ
rock_water s = s.pack.water + 0
