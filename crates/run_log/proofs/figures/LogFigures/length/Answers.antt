use Rattle.std.proofs.Common.{ℕ, List, ◌∙◌, length, rules, arith, Bor}
use Rattle.std.proofs.lemmas.Iterator.{YieldsList-from_slice, YieldsList-from_map}
use Rattle.std.proofs.lemmas.Iterator.Consumers.{sum_by_from_yields_List, fits_by_from_yields_list}
use Rattle.run_log.specs.Log.{line_bytes}
use Rattle.run_log.proofs.Joins.{told, log_short, lengths_sum}
use Rattle.run_log.proofs.figures.LogFigures.length.Goals as goal

-- how long a line is, as the code holds it
abbrev told_length : Bor (List ℕ) × ℕ → ℕ
told_length l = length (line_bytes (told l))

pub sum-requires-clause-fits : goal.sum-requires-clause-fits
sum-requires-clause-fits c =
    fits_by_from_yields_list told_length c.lines.result c.map.result _ (YieldsList-from_map _ told_length (YieldsList-from_slice c.lines.result cc) c.map.ensures.closure (λ x r q k. search rules)) (omega (arith, log_short c.args.self.now, lengths_sum c.args.self.now c.lines.result c.lines.ensures))

pub returns : goal.returns
returns c =
    sum_by_from_yields_List told_length c.lines.result c.map.result c.sum.result c.sum.ensures.ran (YieldsList-from_map _ told_length (YieldsList-from_slice c.lines.result cc) c.map.ensures.closure (λ x r q k. search rules))
    ∙ lengths_sum c.args.self.now c.lines.result c.lines.ensures
