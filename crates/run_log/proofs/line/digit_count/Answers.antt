use Rattle.std.proofs.Common.{arith}
use Rattle.run_log.proofs.Decimals.{digits_counted}
use Rattle.run_log.proofs.line.digit_count.Goals as goal

pub returns : goal.returns
returns c = digits_counted c.ilog10.result c.args.number (omega arith) (rw (← c.max.ensures) c.ilog10.ensures.power_le) (rw (← c.max.ensures) c.ilog10.ensures.next_power_gt)
