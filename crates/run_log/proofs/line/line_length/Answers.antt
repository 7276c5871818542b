use Rattle.std.proofs.Common.{arith}
use Rattle.run_log.proofs.Decimals.{decimal_short}
use Rattle.run_log.proofs.line.line_length.Goals as goal

pub overflow_add-result : goal.overflow_add-result
overflow_add-result c = omega (arith, decimal_short c.args.number)

pub overflow_add-result-2 : goal.overflow_add-result-2
overflow_add-result-2 c = omega (arith, decimal_short c.args.number)
