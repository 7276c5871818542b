-- What a layer of soil does in a day. Assumes nothing.
use Rattle.std.specs.Prelude.{◌≡◌, ℕ, ◌+◌, ◌-◌, ◌*◌, ◌/◌, min, cond, nat_lt}
use Rattle.fixed.specs.Decay.{decay_at}
use Rattle.fixed.specs.Shares.{part_of}
use Rattle.profile.specs.declared.layer.Layer.{Layer}
use Rattle.profile.specs.declared.descent.Descent.{Descent}

-- the water above field capacity once an inflow has joined
abbrev pub excess_of : Layer → ℕ → ℕ
excess_of l i = l.water + i - l.capacity

-- the part of the excess that seeps down
abbrev pub seepage_of : Layer → ℕ → ℕ
seepage_of l i = part_of (excess_of l i) l.percolation.millionths

-- the part of the same excess that flows sideways
abbrev pub lateral_of : Layer → ℕ → ℕ
lateral_of l i = part_of (excess_of l i) l.lateral.millionths

-- the water that stays
abbrev pub stays_of : Layer → ℕ → ℕ
stays_of l i = l.water + i - (seepage_of l i + lateral_of l i)

-- what the layer wants of the demand that reaches it
abbrev pub want_of : Layer → ℕ → ℕ
want_of l d = part_of d l.demand.millionths

-- what a want comes to at this much water: under field capacity it is scaled
abbrev pub scaled_want : Layer → ℕ → ℕ → ℕ
scaled_want l n want = cond (nat_lt n l.capacity) (want * decay_at (2560 * (l.capacity - n) / (l.capacity - l.wilting)) / 1000000000) want

-- what evaporates at this much water: at most four fifths of what lies above the wilting point
abbrev pub vapour_at : Layer → ℕ → ℕ → ℕ
vapour_at l n want = min (scaled_want l n want) (4 * (n - l.wilting) / 5)

-- what evaporates of the water that stays
abbrev pub vapour_of : Layer → ℕ → ℕ → ℕ
vapour_of l i d = vapour_at l (stays_of l i) (want_of l d)

-- what goes on below a layer; the want comes off the demand unscaled
abbrev pub through : Layer → Descent → Descent
through l r = record {
  seepage = seepage_of l r.seepage;
  demand = r.demand - want_of l r.demand;
  side = r.side + lateral_of l r.seepage;
  vapour = r.vapour + vapour_of l r.seepage r.demand;
}

-- a layer before and after its day
pub record LayerTurn (l : Layer) (r : Descent) (m : Layer) : Type 0 where
  pub water_is : m.water ≡ stays_of l r.seepage - vapour_of l r.seepage r.demand
  pub same_wilting : m.wilting ≡ l.wilting
  pub same_capacity : m.capacity ≡ l.capacity
  pub same_percolation : m.percolation ≡ l.percolation
  pub same_lateral : m.lateral ≡ l.lateral
  pub same_demand : m.demand ≡ l.demand
