-- The figures that a log tells of a run. Assumes nothing.
use Rattle.std.specs.Prelude.{ℕ}
use Rattle.basin.specs.declared.answer.Answer.{Answer}
use Rattle.basin.specs.Law.{stop_number}
use Rattle.run_log.specs.declared.figures.LogFigures.{LogFigures}

-- of an answer: its figures in order, and its stop by number
abbrev pub told_of : Answer → LogFigures
told_of r = record { days = r.days; readings = r.readings; rain = r.sums.rain; stream = r.sums.stream; vapour = r.sums.vapour; deep = r.sums.deep; start = r.start; end = r.end; stop = stop_number r.stop }

-- eight zeros and a refusal's number
abbrev pub only_number : ℕ → LogFigures
only_number n = record { days = 0; readings = 0; rain = 0; stream = 0; vapour = 0; deep = 0; start = 0; end = 0; stop = n }
