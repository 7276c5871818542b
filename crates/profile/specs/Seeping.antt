-- The balance of one layer of soil. Assumes nothing.
use Rattle.std.specs.Prelude.{◌≡◌, ℕ, ◌+◌, ◌-◌, ◌≤◌}
use Rattle.std.proofs.Common.{arith}
use Rattle.fixed.specs.Shares.{parts_le}
use Rattle.profile.specs.Layers.{excess_of, seepage_of, lateral_of, stays_of, vapour_of, through, LayerTurn}
use Rattle.profile.specs.declared.layer.Layer.{Layer}
use Rattle.profile.specs.declared.descent.Descent.{Descent}

-- the two parts are at most the excess
pub parts_within : (l : Layer) (i : ℕ) → seepage_of l i + lateral_of l i ≤ excess_of l i
parts_within l i = parts_le (excess_of l i) l.percolation.millionths l.lateral.millionths l.parts

-- what stays is no less than the wilting point
pub stays_over : (l : Layer) (i : ℕ) → l.wilting ≤ stays_of l i
stays_over l i = omega (arith, parts_within l i, l.points.0, l.held.0)

-- and what evaporates leaves that
pub vapour_within : (l : Layer) (i d : ℕ) → vapour_of l i d ≤ stays_of l i - l.wilting
vapour_within l i d = omega arith

-- nothing is lost on the way
pub layer_balance : (l : Layer) (r : Descent) (m : Layer) → LayerTurn l r m → m.water + (through l r).seepage + (through l r).side + (through l r).vapour ≡ l.water + r.seepage + r.side + r.vapour
layer_balance l r m t = omega (arith, t.water_is, parts_within l r.seepage, vapour_within l r.seepage r.demand)
