use Rattle.std.specs.Fmt.{HasWritten, IsPlainFormatter}
use Rattle.run_log.proofs.Joins.{first_lines}
use Rattle.run_log.proofs.display.LogFiguresDisplay.fmt.Given as goal

-- the lines so far are written
abbrev pub invariant-loop-name : goal.invariant-loop-name
invariant-loop-name g l = IsPlainFormatter l.initial.f → HasWritten g.W.Write.write_str_gives l.initial.f (first_lines l.self l.name-index) l.f
