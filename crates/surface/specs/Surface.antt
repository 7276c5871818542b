-- How a surface over another store divides its water. Assumes nothing.
use Rattle.std.specs.Prelude.{◌≡◌, ℕ, ◌+◌, ◌-◌}
use Rattle.surface.specs.Runoff.{retained, runoff_of}
use Rattle.stores.specs.declared.flows.Flows.{Flows}
use Rattle.weather.specs.declared.day.Day.{Day}
use Rattle.surface.specs.declared.retention.Retention.{Retention}

-- what runs off of an inflow over l, by the root water before the day
abbrev pub runoff_over : {L : Type 0} → (L → ℕ) → Retention → L → ℕ → ℕ
runoff_over root k l i = runoff_of i (retained k (root l))

-- k over l becomes k' over m: the rest of the inflow and the demand go to the store below, which makes of it what its `turns` says
pub record SurfaceTurn {L : Type 0} (root : L → ℕ) (turns : L → ℕ → ℕ → Day → L → Flows → Type 0) (k : Retention) (l : L) (i d : ℕ) (w : Day) (k' : Retention) (m : L) (f : Flows) : Type 0 where
  pub below : Flows
  pub lower_turn : turns l (i - runoff_over root k l i) d w m below
  pub same_settings : k' ≡ k
  pub side_is : f.side ≡ runoff_over root k l i + below.side
  pub vapour_is : f.vapour ≡ below.vapour
  pub deep_is : f.deep ≡ below.deep

-- the answer of a surface over a store that answers by `lower`
abbrev pub surface_gives : {L : Type 0} → (L → ℕ) → (L → ℕ → ℕ → Day → Flows) → Retention → L → ℕ → ℕ → Day → Flows
surface_gives root lower k l i d w = let q = runoff_over root k l i in let g = lower l (i - q) d w in record { side = q + g.side; vapour = g.vapour; deep = g.deep }
