use Rattle.std.proofs.Common.{arith}
use Rattle.std.proofs.lemmas.Grind.{common_steps}
use Rattle.basin.proofs.Watering.{rain_here, rain_beyond}
use Rattle.basin.proofs.limits.rain_in.Goals as goal

pub returns : goal.returns
returns c = grind (arith, common_steps, rain_here, rain_beyond)
