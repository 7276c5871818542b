-- What layers of soil do in a day, from the top down, and how one more is added. Assumes nothing.
use Rattle.std.specs.Prelude.{◌≡◌, ℕ, ◌+◌, ◌-◌, ◌<◌, ◌≤◌, List, [], ◌∷◌, ◌++◌, length, take, drop, replicate, Some, None, Ok, Err, sum_by, Option, Result, nat_le, slice_index_or, slice_set}
use Rattle.std.proofs.Common.{lit≤, lit<}
use Rattle.fixed.specs.Limits.{first}
use Rattle.fixed.specs.declared.share.Share.{Share}
use Rattle.refusals.specs.Refusals.{Refusal, refuse, profile_refusal}
use Rattle.refusals.specs.declared.profile.ProfileFull.{ProfileFull}
use Rattle.profile.specs.declared.layer.Layer.{Layer}
use Rattle.profile.specs.declared.descent.Descent.{Descent}
use Rattle.profile.specs.declared.soil.Soil.{Soil}
use Rattle.profile.specs.Layers.{LayerTurn, through}

abbrev pub no_share : Share
no_share = record { millionths = 0; within = lit≤ tt }

-- the layers of a soil: its rows up to the count, and nothing past them
abbrev pub layers_of : Soil → List Layer
layers_of k = take k.count k.layers.rows

abbrev pub water_of : Layer → ℕ
water_of l = l.water

-- the water above the wilting point
abbrev pub root_of : Layer → ℕ
root_of l = l.water - l.wilting

abbrev pub layers_water : List Layer → ℕ
layers_water = sum_by water_of

abbrev pub layers_root : List Layer → ℕ
layers_root = sum_by root_of

abbrev pub soil_water : Soil → ℕ
soil_water k = layers_water (layers_of k)

abbrev pub soil_root : Soil → ℕ
soil_root k = layers_root (layers_of k)

-- what comes to the top layer
abbrev pub entering : ℕ → ℕ → Descent
entering i d = record { seepage = i; demand = d; side = 0; vapour = 0 }

-- each layer before and after its day, with what the ones above it let through
abbrev pub LayersTurn : List Layer → Descent → List Layer → Type 0
LayersTurn [] r [] = Unit {0}
LayersTurn [] r (m ∷ ms) = ⊥
LayersTurn (l ∷ ls) r [] = ⊥
LayersTurn (l ∷ ls) r (m ∷ ms) = LayerTurn l r m × LayersTurn ls (through l r) ms

-- what comes out below layers
abbrev pub through_all : List Layer → Descent → Descent
through_all [] r = r
through_all (l ∷ ls) r = through_all ls (through l r)

abbrev pub descended : Soil → ℕ → ℕ → Descent
descended k i d = through_all (layers_of k) (entering i d)

-- a soil before and after its day
pub record SoilTurn (k : Soil) (i d : ℕ) (k' : Soil) : Type 0 where
  pub same_count : k'.count ≡ k.count
  pub same_rest : drop k.count k'.layers.rows ≡ drop k.count k.layers.rows
  pub turned : LayersTurn (layers_of k) (entering i d) (layers_of k')

-- rows of which row i has had its day
pub record RowTurn (ls : List Layer) (i : ℕ) (r : Descent) (ms : List Layer) (s : Descent) : Type 0 where
  pub there : i < length ls
  pub before : Layer
  pub after : Layer
  pub before_is : (z : Layer) → slice_index_or ls i z ≡ before
  pub rows_are : ms ≡ slice_set ls i after
  pub turned : LayerTurn before r after
  pub passed : s ≡ through before r
  pub drunk : s.vapour + s.demand ≤ r.vapour + r.demand

-- what stands in a row that no layer has yet
abbrev pub bare_layer : Layer
bare_layer = record { wilting = 0; capacity = 1; water = 0; percolation = no_share; lateral = no_share; demand = no_share; points = (lit< tt, lit≤ tt); held = (lit≤ tt, lit≤ tt); parts = lit≤ tt }

-- a soil without layers
abbrev pub empty_soil : Soil
empty_soil = record { layers = record { rows = replicate 10 bare_layer }; count = 0; within = lit≤ tt }

-- an eleventh layer is refused
abbrev pub add_fault : Soil → Option Refusal
add_fault k = first ((nat_le 10 k.count, refuse 13 10) ∷ [])

-- a layer more at the bottom, or the refusal and the soil as it was
abbrev pub Added : Soil → Layer → Soil → Result (Unit {0}) ProfileFull → Type 0
Added k l k' (Ok u) = (add_fault k ≡ None) × (k'.count ≡ k.count + 1) × (layers_of k' ≡ layers_of k ++ (l ∷ [])) × (k'.layers.rows ≡ slice_set k.layers.rows k.count l)
Added k l k' (Err e) = (add_fault k ≡ Some (profile_refusal e)) × (k' ≡ k)
