-- How a pack of snow over another store divides its water. Assumes nothing.
use Rattle.std.specs.Prelude.{◌≡◌, ℕ, ◌+◌, ◌-◌}
use Rattle.snow.specs.Pack.{PackTurn, passes_of, dries_of}
use Rattle.stores.specs.declared.flows.Flows.{Flows}
use Rattle.weather.specs.declared.day.Day.{Day}
use Rattle.snow.specs.declared.pack.Pack.{Pack}

-- the pack p over l becomes q over m: what the pack passes goes to the store below, which makes of it what its `turns` says
pub record SnowpackTurn {L : Type 0} (turns : L → ℕ → ℕ → Day → L → Flows → Type 0) (p : Pack) (l : L) (i d : ℕ) (w : Day) (q : Pack) (m : L) (f : Flows) : Type 0 where
  pub below : Flows
  pub pack_turn : PackTurn p i d w q
  pub lower_turn : turns l (passes_of p i w) (d - dries_of p i d w) w m below
  pub side_is : f.side ≡ below.side
  pub vapour_is : f.vapour ≡ dries_of p i d w + below.vapour
  pub deep_is : f.deep ≡ below.deep

-- the answer of a pack over a store that answers by `lower`
abbrev pub snowpack_gives : {L : Type 0} → (L → ℕ → ℕ → Day → Flows) → Pack → L → ℕ → ℕ → Day → Flows
snowpack_gives lower p l i d w = let g = lower l (passes_of p i w) (d - dries_of p i d w) w in record { side = g.side; vapour = dries_of p i d w + g.vapour; deep = g.deep }
