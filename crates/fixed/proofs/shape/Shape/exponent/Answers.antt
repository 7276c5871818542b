use Rattle.std.proofs.Common.{arith}
use Rattle.std.proofs.lemmas.Int.{ints}
use Rattle.fixed.specs.Moisture.{exponent_at}
use Rattle.fixed.proofs.Quotients.{slope_le}
use Rattle.fixed.proofs.shape.Shape.exponent.Goals as goal

pub returns : goal.returns
unfolding exponent_at
returns c = let b = slope_le c.args.self.now.c2 c.args.x.millionths c.args.self.now.falls c.args.x.within in omega (arith, ints, b)
