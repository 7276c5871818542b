use Rattle.std.proofs.Common.{replicate, refl, ap}
use Rattle.fixed.proofs.Bounds.{share_same}
use Rattle.profile.specs.Soils.{bare_layer, empty_soil, no_share}
use Rattle.profile.specs.Alike.{layer_same, soil_same}
use Rattle.profile.proofs.soil.Soil.empty.Goals as goal

pub returns : goal.returns
returns c = soil_same _ empty_soil (ap (replicate 10) (layer_same _ bare_layer refl refl refl (share_same _ no_share refl) (share_same _ no_share refl) (share_same _ no_share refl))) refl
