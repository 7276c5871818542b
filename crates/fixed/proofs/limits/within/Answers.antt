use Rattle.std.proofs.Common.{rules}
use Rattle.fixed.specs.Limits.{outside}
use Rattle.fixed.proofs.limits.within.Goals as goal

pub returns-then-value-least : goal.returns-then-value-least
unfolding outside
returns-then-value-least g c = search rules

pub returns : goal.returns
unfolding outside
returns g c = search rules
