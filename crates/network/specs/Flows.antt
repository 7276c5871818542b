-- Flows added up, and when their sum fits. Assumes nothing.
use Rattle.std.specs.Prelude.{◌+◌, ◌<◌, ◌^◌}
use Rattle.network.specs.declared.flows.UnitFlow.{UnitFlow}
use Rattle.network.specs.declared.flows.ReachFlow.{ReachFlow}

-- ---- of a unit, in micrometres
abbrev pub unit_plus : UnitFlow → UnitFlow → UnitFlow
unit_plus x y = record { rain = x.rain + y.rain; side = x.side + y.side; vapour = x.vapour + y.vapour; deep = x.deep + y.deep }

-- each figure of the sum fits
pub record UnitsFit (x y : UnitFlow) : Type 0 where
  pub rain : x.rain + y.rain < 2 ^ 64
  pub side : x.side + y.side < 2 ^ 64
  pub vapour : x.vapour + y.vapour < 2 ^ 64
  pub deep : x.deep + y.deep < 2 ^ 64

-- ---- of a reach, in millilitres
abbrev pub reach_plus : ReachFlow → ReachFlow → ReachFlow
reach_plus x y = record { inflow = x.inflow + y.inflow; outflow = x.outflow + y.outflow; vapour = x.vapour + y.vapour; deep = x.deep + y.deep }

pub record ReachesFit (x y : ReachFlow) : Type 0 where
  pub inflow : x.inflow + y.inflow < 2 ^ 128
  pub outflow : x.outflow + y.outflow < 2 ^ 128
  pub vapour : x.vapour + y.vapour < 2 ^ 128
  pub deep : x.deep + y.deep < 2 ^ 128
