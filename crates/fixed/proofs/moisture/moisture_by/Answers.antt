use Rattle.std.proofs.Common.{arith}
use Rattle.std.proofs.lemmas.Int.{to_z-of_z}
use Rattle.fixed.specs.Moisture.{moisture_by}
use Rattle.fixed.proofs.moisture.moisture_by.Goals.{then-a-ge0, else-a-ge0}
use Rattle.fixed.proofs.moisture.moisture_by.Goals as goal

pub returns : goal.returns
unfolding moisture_by
returns c = elim c.if-a-ge0.branch [
  | then-a-ge0 w ↦ grind (arith, to_z-of_z, w.result-is)
  | else-a-ge0 w ↦ grind (arith, to_z-of_z, w.result-is)
]
