use Rattle.std.proofs.Common.{arith}
use Rattle.sources.specs.Calendar.{date_at}
use Rattle.sources.proofs.calendar.date_at.Goals as goal

pub returns : goal.returns
unfolding date_at
returns c = omega (arith, c.saturating_sub.ensures)
