-- The settings of the program's column, from the top down. Assumes nothing.
use Rattle.std.specs.Prelude.{List, [], ◌∷◌, ◌++◌, ℤ, pos}
use Rattle.stores.specs.declared.aquifer.Aquifer.{Aquifer}
use Rattle.snow.specs.declared.snowpack.Snowpack.{Snowpack}
use Rattle.snow.specs.declared.pack.Pack.{Pack}
use Rattle.surface.specs.declared.surface.Surface.{Surface}
use Rattle.surface.specs.declared.retention.Retention.{Retention}
use Rattle.profile.specs.Soils.{layers_of}
use Rattle.profile.specs.declared.profile.Profile.{Profile}
use Rattle.profile.specs.declared.layer.Layer.{Layer}

-- own water, pack, snowfall and melt temperature, lag, melt rate
abbrev pub pack_settings : Pack → List ℤ
pack_settings p = pos p.water ∷ p.temperature ∷ p.snowfall ∷ p.melting ∷ pos p.lag ∷ pos p.factor ∷ []

-- Smax, full water, c1, c2
abbrev pub surface_settings : Retention → List ℤ
surface_settings k = pos k.greatest ∷ pos k.full ∷ k.shape.c1 ∷ pos k.shape.c2 ∷ []

-- wilting point, field capacity, water, percolation, lateral and demand share
abbrev pub layer_settings : List Layer → List ℤ
layer_settings [] = []
layer_settings (l ∷ ls) = pos l.wilting ∷ pos l.capacity ∷ pos l.water ∷ pos l.percolation.millionths ∷ pos l.lateral.millionths ∷ pos l.demand.millionths ∷ layer_settings ls

-- own water, deep share, flow threshold, flow share
abbrev pub aquifer_settings : Aquifer → List ℤ
aquifer_settings a = pos a.water ∷ pos a.deep.millionths ∷ pos a.threshold ∷ pos a.recession.millionths ∷ []

abbrev pub column_settings : Snowpack (Surface (Profile Aquifer)) → List ℤ
column_settings s = pack_settings s.pack ++ (surface_settings s.lower.retention ++ (layer_settings (layers_of s.lower.lower.soil) ++ aquifer_settings s.lower.lower.lower))

-- three layers of loam, wet in early spring
abbrev pub loam_layers : List ℤ
loam_layers =
    pos 30000 ∷ pos 90000 ∷ pos 95000 ∷ pos 400000 ∷ pos 50000 ∷ pos 600000 ∷
    pos 60000 ∷ pos 160000 ∷ pos 165000 ∷ pos 300000 ∷ pos 30000 ∷ pos 700000 ∷
    pos 80000 ∷ pos 200000 ∷ pos 204000 ∷ pos 200000 ∷ pos 20000 ∷ pos 1000000 ∷ []

-- snowpack, surface, layers and a slow aquifer
abbrev pub loam_settings : List ℤ
loam_settings =
    (pos 0 ∷ pos 0 ∷ pos 100 ∷ pos 50 ∷ pos 1000 ∷ pos 4500 ∷ []) ++
    ((pos 150000 ∷ pos 280000 ∷ pos 1024 ∷ pos 4096 ∷ []) ++
    (loam_layers ++
    (pos 50000 ∷ pos 50000 ∷ pos 40000 ∷ pos 20000 ∷ [])))
