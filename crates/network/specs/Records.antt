-- Records of nothing: what a list is read with beyond its end, and what a cleared flow list holds. Assumes nothing.
use Rattle.std.proofs.Common.{arith}
use Rattle.std.specs.Prelude.{None, refl}
use Rattle.fixed.specs.declared.share.Share.{Share}
use Rattle.network.specs.declared.channel.Channel.{Channel}
use Rattle.network.specs.declared.site.Site.{Site}
use Rattle.network.specs.declared.reach.Reach.{Reach}
use Rattle.network.specs.declared.flows.UnitFlow.{UnitFlow}
use Rattle.network.specs.declared.flows.ReachFlow.{ReachFlow}

abbrev pub share0 : Share
share0 = record { millionths = 0; within = omega arith }

abbrev pub channel0 : Channel
channel0 = record { next = None; station = 0; outflow = share0; loss = 0; surface = 0; evaporation = share0; onward = refl; stationed = omega arith; lossy = omega arith; wide = omega arith }

abbrev pub site0 : Site
site0 = record { area = 1; reach = 0; station = 0; sized = (omega arith, omega arith); stationed = omega arith }

abbrev pub reach0 : Reach
reach0 = record { channel = channel0; stored = 0 }

abbrev pub unit0 : UnitFlow
unit0 = record { rain = 0; side = 0; vapour = 0; deep = 0 }

abbrev pub flow0 : ReachFlow
flow0 = record { inflow = 0; outflow = 0; vapour = 0; deep = 0 }
