-- How a surface is made, and how much of an inflow runs off. Assumes nothing.
use Rattle.std.specs.Prelude.{◌≡◌, ℕ, ◌+◌, ◌-◌, ◌*◌, ◌/◌, min, cond, [], ◌∷◌, ℤ, pos, negsuc, Some, None, Ok, Err, Option, Result, nat_lt}
use Rattle.fixed.specs.Limits.{outside, first}
use Rattle.fixed.specs.Moisture.{moisture_at}
use Rattle.fixed.specs.Shares.{part_of}
use Rattle.refusals.specs.Refusals.{Refusal, refuse, surface_refusal}
use Rattle.refusals.specs.declared.surface.SurfaceSetting.{SurfaceSetting}
use Rattle.surface.specs.declared.retention.Retention.{Retention}

-- the refusal of the first setting outside: Smax, full water, c1, c2
abbrev pub retention_fault : ℤ → ℤ → ℤ → ℤ → Option Refusal
retention_fault smax soil bend slope = first (
    (outside (pos 0) (pos 1000000) smax, refuse 12 1) ∷
    (outside (pos 1) (pos 100000000) soil, refuse 12 2) ∷
    (outside (negsuc 16382) (pos 16383) bend, refuse 12 3) ∷
    (outside (pos 0) (pos 32767) slope, refuse 12 4) ∷ [])

-- the retention of these settings, or the refusal
abbrev pub RetentionMade : ℤ → ℤ → ℤ → ℤ → Result Retention SurfaceSetting → Type 0
RetentionMade smax soil bend slope (Ok k) = (retention_fault smax soil bend slope ≡ None) × (pos k.greatest ≡ smax) × (pos k.full ≡ soil) × (k.shape.c1 ≡ bend) × (pos k.shape.c2 ≡ slope)
RetentionMade smax soil bend slope (Err e) = retention_fault smax soil bend slope ≡ Some (surface_refusal e)

-- how full the roots are, in millionths of full soil, at most a whole
unfoldable pub fullness : Retention → ℕ → ℕ
fullness k root = min 1000000 (root * 1000000 / k.full)

-- the retention parameter S at a root water
abbrev pub retained : Retention → ℕ → ℕ
retained k root = k.greatest - part_of k.greatest (moisture_at (fullness k root) k.shape.c1 k.shape.c2)

-- what runs off of r where s is held back: (5r - s)² ÷ (5 (5r + 4s)), nothing unless 5r is above s
unfoldable pub runoff_of : ℕ → ℕ → ℕ
runoff_of r s = cond (nat_lt s (5 * r)) ((5 * r - s) * (5 * r - s) / (5 * (5 * r + 4 * s))) 0
