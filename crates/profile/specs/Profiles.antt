-- How layers of soil over another store divide their water. Assumes nothing.
use Rattle.std.specs.Prelude.{◌≡◌, ℕ, ◌+◌}
use Rattle.weather.specs.declared.day.Day.{Day}
use Rattle.stores.specs.declared.flows.Flows.{Flows}
use Rattle.profile.specs.declared.descent.Descent.{Descent}
use Rattle.profile.specs.declared.soil.Soil.{Soil}
use Rattle.profile.specs.Soils.{SoilTurn, descended}

-- what leaves soil and the store below it together
abbrev pub joined_flows : Descent → Flows → Flows
joined_flows r g = record { side = r.side + g.side; vapour = r.vapour + g.vapour; deep = g.deep }

-- soil k over a store l that divides its water by `turns`: what comes out of the soil is the lower store's inflow and demand
pub record ProfileTurn {L : Type 0} (turns : L → ℕ → ℕ → Day → L → Flows → Type 0) (k : Soil) (l : L) (i d : ℕ) (w : Day) (k' : Soil) (m : L) (f : Flows) : Type 0 where
  pub below : Flows
  pub soil_turn : SoilTurn k i d k'
  pub lower_turn : turns l (descended k i d).seepage (descended k i d).demand w m below
  pub side_is : f.side ≡ (descended k i d).side + below.side
  pub vapour_is : f.vapour ≡ (descended k i d).vapour + below.vapour
  pub deep_is : f.deep ≡ below.deep

-- what a turn answers, over a store that answers by `gives`
abbrev pub profile_gives : {L : Type 0} → (L → ℕ → ℕ → Day → Flows) → Soil → L → ℕ → ℕ → Day → Flows
profile_gives gives k l i d w = joined_flows (descended k i d) (gives l (descended k i d).seepage (descended k i d).demand w)
