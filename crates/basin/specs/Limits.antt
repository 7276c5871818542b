-- The water of a basin in millilitres, and the limits that it keeps to. Assumes nothing.
use Rattle.std.specs.Prelude.{ℕ, suc, ◌+◌, ◌*◌, cond, List, [], ◌∷◌, Some, None, Option, nat_le}
use Rattle.refusals.specs.Refusals.{Refusal, refuse}
use Rattle.network.specs.declared.site.Site.{Site}
use Rattle.network.specs.declared.reach.Reach.{Reach}
use Rattle.stores.specs.Meaning.{limit}
use Rattle.basin.specs.Tables.{State, or_else, refused_unless}

-- a figure of each unit over its area: a micrometre over a square metre is a millilitre
abbrev pub over_area : {X : Type 0} → (X → ℕ) → List Site → List X → ℕ
over_area figure [] xs = 0
over_area figure (s ∷ ss) [] = 0
over_area figure (s ∷ ss) (x ∷ xs) = s.area * figure x + over_area figure ss xs

-- the water of the units
abbrev pub unit_water : {S : Type 0} → (S → ℕ) → List Site → List S → ℕ
unit_water water ss us = over_area water ss us

-- the water of the reaches
abbrev pub reach_water : List Reach → ℕ
reach_water [] = 0
reach_water (r ∷ rs) = r.stored + reach_water rs

-- the basin's water, units and reaches together
abbrev pub total : {S : Type 0} → (S → ℕ) → List Site → State S → ℕ
total water ss a = unit_water water ss a.units + reach_water a.reaches

-- ---- 58: the first unit, counted from i, whose water with the rain of its place passes a store's limit
abbrev pub unit_fault : {S : Type 0} → (S → ℕ) → (ℕ → ℕ) → ℕ → List S → Option Refusal
unit_fault water rain i [] = None
unit_fault water rain i (u ∷ us) = cond (nat_le (water u + rain i) limit) (unit_fault water rain (suc i) us) (Some (refuse 58 i))

-- ---- 59: the most water that a basin holds
abbrev pub most : ℕ
most = 1000000000000000000

-- 58, then 59, with the rain of each place and with so much water added to the basin
abbrev pub limit_fault : {S : Type 0} → (S → ℕ) → (ℕ → ℕ) → ℕ → List Site → State S → Option Refusal
limit_fault water rain added ss a =
    or_else (unit_fault water rain 0 a.units)
    (refused_unless (nat_le (total water ss a + added) most) (refuse 59 0))

-- no rain anywhere
abbrev pub no_rain : ℕ → ℕ
no_rain i = 0
