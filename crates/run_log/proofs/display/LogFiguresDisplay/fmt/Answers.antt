use Rattle.std.proofs.Common.{sym, arith, append_assoc}
use Rattle.std.proofs.lemmas.Grind.{common_steps}
use Rattle.std.proofs.Output.{has_written_append, has_written_of_eq}
use Rattle.run_log.proofs.Joins.{next_line, all_lines}
use Rattle.run_log.proofs.display.LogFiguresDisplay.fmt.Goals as goal

pub loop-name-preserved : goal.loop-name-preserved
loop-name-preserved g c = λ p.
    let lines = c.lines-name-items in
    has_written_of_eq _ _ _ _ _ (sym (next_line c.args.self.now lines.result lines.ensures c.loop-name.name-index c.loop-name-test.true)) (has_written_append _ _ _ _ _ _ (c.loop-name.invariant p) (grind (arith, common_steps, append_assoc)))

pub returns-clause-writes : goal.returns-clause-writes
returns-clause-writes g c = λ p e. has_written_of_eq _ _ _ _ _ (all_lines c.args.self.now c.loop-name.name-index c.loop-name-test.false) (c.loop-name.invariant p)
