use Rattle.profile.specs.Downward.{Down}
use Rattle.profile.proofs.soil.Layers.turn.Given as goal

abbrev pub invariant-loop-layer : goal.invariant-loop-layer
invariant-loop-layer l = Down l.initial.layer-items l.layer-items l.fn.above l.descent l.layer-index
