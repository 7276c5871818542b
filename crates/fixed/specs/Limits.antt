-- Limits of a setting or a figure. Assumes nothing.
use Rattle.std.specs.Prelude.{◌≡◌, ℕ, ◌≤◌, Bool, true, false, cond, ◌||◌, List, [], ◌∷◌, ℤ, pos, ◌≤ℤ◌, Some, None, Ok, Option, Result, int_lt}

-- z is under the least or over the greatest
unfoldable pub outside : ℤ → ℤ → ℤ → Bool
outside least greatest z = int_lt z least || int_lt greatest z

-- the first of several tests that holds, by what it tells
abbrev pub first : {X : Type 0} → List (Bool × X) → Option X
first [] = None
first (t ∷ ts) = cond t.0 (Some t.1) (first ts)

-- a value within its limits, as a conversion gives it, where the value handed over is one
abbrev pub Within : {T E : Type 0} → (ℤ → Result T E → Type 0) → ℤ → ℤ → ℤ → Option T → Type 0
Within gives least greatest z None = outside least greatest z ≡ true
Within gives least greatest z (Some n) = (outside least greatest z ≡ false) × (least ≤ℤ z) × (z ≤ℤ greatest) × gives z (Ok n)

-- a natural number within its limits, where the value handed over is one
abbrev pub NaturalIn : ℕ → ℕ → ℤ → Option ℕ → Type 0
NaturalIn least greatest z None = outside (pos least) (pos greatest) z ≡ true
NaturalIn least greatest z (Some n) = (outside (pos least) (pos greatest) z ≡ false) × (pos n ≡ z) × (least ≤ n) × (n ≤ greatest)

-- an integer within its limits, where the value handed over is one
abbrev pub IntegerIn : ℤ → ℤ → ℤ → Option ℤ → Type 0
IntegerIn least greatest z None = outside least greatest z ≡ true
IntegerIn least greatest z (Some n) = (outside least greatest z ≡ false) × (n ≡ z) × (least ≤ℤ n) × (n ≤ℤ greatest)

-- a volume of at most the greatest, where the value handed over is one
abbrev pub VolumeIn : ℤ → ℤ → Option ℕ → Type 0
VolumeIn greatest z None = outside (pos 0) greatest z ≡ true
VolumeIn greatest z (Some n) = (outside (pos 0) greatest z ≡ false) × (pos n ≡ z) × (pos n ≤ℤ greatest)
