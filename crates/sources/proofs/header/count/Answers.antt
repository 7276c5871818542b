use Rattle.std.proofs.Common.{rules}
use Rattle.fixed.specs.Limits.{outside}
use Rattle.sources.proofs.header.count.Goals as goal

pub returns-then-contains : goal.returns-then-contains
unfolding outside
returns-then-contains c = search rules

pub returns-else-contains : goal.returns-else-contains
unfolding outside
returns-else-contains c = search rules
