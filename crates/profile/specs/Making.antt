-- Which layers of soil can be made. Assumes nothing.
use Rattle.std.specs.Prelude.{◌≡◌, [], ◌∷◌, ℤ, pos, ◌+ℤ◌, ◌-ℤ◌, Some, None, Ok, Err, Option, Result}
use Rattle.fixed.specs.Limits.{outside, first}
use Rattle.refusals.specs.Refusals.{Refusal, refuse, layer_refusal}
use Rattle.refusals.specs.declared.layer.LayerSetting.{LayerSetting}
use Rattle.profile.specs.declared.layer.Layer.{Layer}

-- the refusal of the first setting outside: wilting point, field capacity above it, water from the wilting point on, percolation share, lateral share of at most the rest, demand share
abbrev pub layer_fault : ℤ → ℤ → ℤ → ℤ → ℤ → ℤ → Option Refusal
layer_fault dry full own down aside want = first (
    (outside (pos 0) (pos 999999) dry, refuse 12 1) ∷
    (outside (dry +ℤ pos 1) (pos 1000000) full, refuse 12 2) ∷
    (outside dry (pos 2000000) own, refuse 12 3) ∷
    (outside (pos 0) (pos 1000000) down, refuse 12 4) ∷
    (outside (pos 0) (pos 1000000 -ℤ down) aside, refuse 12 5) ∷
    (outside (pos 0) (pos 1000000) want, refuse 12 6) ∷ [])

-- a layer of these settings, or the refusal
abbrev pub LayerMade : ℤ → ℤ → ℤ → ℤ → ℤ → ℤ → Result Layer LayerSetting → Type 0
LayerMade dry full own down aside want (Ok l) =
    (layer_fault dry full own down aside want ≡ None) × (pos l.wilting ≡ dry) × (pos l.capacity ≡ full) × (pos l.water ≡ own) ×
    (pos l.percolation.millionths ≡ down) × (pos l.lateral.millionths ≡ aside) × (pos l.demand.millionths ≡ want)
LayerMade dry full own down aside want (Err e) = layer_fault dry full own down aside want ≡ Some (layer_refusal e)
