use Rattle.std.proofs.Common.{arith, rules}
use Rattle.basin.proofs.Asking.{told_more}
use Rattle.basin.proofs.questions.ask.Goals as goal

pub loop-i-preserved : goal.loop-i-preserved
loop-i-preserved g c = record {
  told = told_more c.loop-i.invariant.told c.index-places-i.result c.in_ok-day.day c.keep.result c.loop-i-test.true (omega arith) c.index-places-i.is (search rules) c.keep.ensures;
  counted = omega arith;
}
