-- One day through the reaches, in millilitres. Assumes nothing.
use Rattle.std.specs.Prelude.{◌≡◌, ℕ, ◌+◌, ◌-◌, ◌*◌, min, Bool, false, cond, List, [], ◌∷◌, Some, None, Option, ◌==◌}
use Rattle.fixed.specs.Shares.{part_of}
use Rattle.network.specs.declared.channel.Channel.{Channel}
use Rattle.network.specs.declared.site.Site.{Site}
use Rattle.network.specs.declared.reach.Reach.{Reach}
use Rattle.network.specs.declared.flows.UnitFlow.{UnitFlow}
use Rattle.network.specs.declared.flows.ReachFlow.{ReachFlow}

-- what leaves the water v of a reach before the day's losses
abbrev pub gross_of : Channel → ℕ → ℕ
gross_of c v = part_of v c.outflow.millionths

-- deep loss comes out of the gross outflow first
abbrev pub deep_of : Channel → ℕ → ℕ
deep_of c gross = min c.loss gross

-- then vapour: the surface's part of the demand, and no more than is left
abbrev pub vapour_of : Channel → ℕ → ℕ → ℕ
vapour_of c demand left = min (part_of (demand * c.surface) c.evaporation.millionths) left

abbrev pub flow_of : Channel → ℕ → ℕ → ℕ → ReachFlow
flow_of c inflow demand gross = record {
  inflow = inflow;
  outflow = gross - deep_of c gross - vapour_of c demand (gross - deep_of c gross);
  vapour = vapour_of c demand (gross - deep_of c gross);
  deep = deep_of c gross;
}

-- what flows through a reach on a day with this inflow and demand
abbrev pub reach_flow : ℕ → ℕ → Reach → ReachFlow
reach_flow inflow demand r = flow_of r.channel inflow demand (gross_of r.channel (r.stored + inflow))

-- the reach after the day: losses are taken off the outflow, not off what stays
abbrev pub reach_after : ℕ → Reach → Reach
reach_after inflow r = record { channel = r.channel; stored = r.stored + inflow - gross_of r.channel (r.stored + inflow) }

-- the volume of side flow of the sites that name the reach j
abbrev pub sides : ℕ → List Site → List UnitFlow → ℕ
sides j [] fs = 0
sides j (s ∷ ss) [] = 0
sides j (s ∷ ss) (f ∷ fs) = cond (s.reach == j) (s.area * f.side) 0 + sides j ss fs

-- whether a next reach is j
abbrev pub names : Option ℕ → ℕ → Bool
names None j = false
names (Some k) j = k == j

-- the outflow of the reaches whose next is j
abbrev pub arriving : ℕ → List Reach → List ReachFlow → ℕ
arriving j [] fs = 0
arriving j (r ∷ rs) [] = 0
arriving j (r ∷ rs) (f ∷ fs) = cond (names r.channel.next j) f.outflow 0 + arriving j rs fs

-- the reach after r with this inflow, and what flowed through it
pub record ReachDay (inflow demand : ℕ) (r s : Reach) (f : ReachFlow) : Type 0 where
  pub flow_is : f ≡ reach_flow inflow demand r
  pub after_is : s ≡ reach_after inflow r
