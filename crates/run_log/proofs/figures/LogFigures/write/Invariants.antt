use Rattle.std.proofs.Common.{◌≡◌, length}
use Rattle.run_log.specs.Log.{written}
use Rattle.run_log.proofs.Joins.{first_lines}
use Rattle.run_log.proofs.figures.LogFigures.write.Given as goal

-- the lines so far stand at the start of the buffer
abbrev pub invariant-loop-name : goal.invariant-loop-name
invariant-loop-name l = record {
  same_buffer : l.log.buffer.ghost_name ≡ l.initial.log.buffer.ghost_name;
  text : l.log.buffer.now ≡ written (first_lines l.self l.name-index) 0 l.initial.log.buffer.now;
  filled : l.log.filled ≡ length (first_lines l.self l.name-index);
}
