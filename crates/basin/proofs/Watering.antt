-- The rain of the unit at a place. Assumes nothing.
use Rattle.std.proofs.Common.{◌≡◌, ℕ, zero, suc, ◌<◌, ◌≤◌, List, [], ◌∷◌, length, get_or, refl, arith}
use Rattle.weather.specs.declared.day.Day.{Day}
use Rattle.basin.specs.Loops.{rain_in}

-- the rain of a place in the list is its day's
pub rain_here : (ws : List Day) (i : ℕ) (z : Day) → i < length ws → rain_in ws i ≡ (get_or ws i z).rain
rain_here [] i z h = absurd (let e : ⊥ = omega arith in e)
rain_here (w ∷ ws) zero z h = refl
rain_here (w ∷ ws) (suc i) z h = rain_here ws i z (omega arith)

-- a place beyond the list has none
pub rain_beyond : (ws : List Day) (i : ℕ) → length ws ≤ i → rain_in ws i ≡ 0
rain_beyond [] i h = refl
rain_beyond (w ∷ ws) zero h = absurd (let e : ⊥ = omega arith in e)
rain_beyond (w ∷ ws) (suc i) h = rain_beyond ws i (omega arith)
