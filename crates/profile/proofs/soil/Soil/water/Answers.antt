use Rattle.std.proofs.Common.{◌≡◌, arith, rules}
use Rattle.profile.specs.Soils.{layers_water}
use Rattle.profile.specs.Downward.{water_le}
use Rattle.profile.proofs.soil.Soil.water.Goals as goal

pub returns-clause-bound : goal.returns-clause-bound
returns-clause-bound c =
    let ls = c.layers.result.now in
    let sum : c.sum.result ≡ layers_water ls = search rules in
    omega (arith, sum, water_le ls, c.layers.ensures.few)
