use Rattle.std.proofs.Common.{◌≡◌, arith, rules}
use Rattle.profile.specs.Soils.{layers_root}
use Rattle.profile.specs.Downward.{root_le, water_le}
use Rattle.profile.proofs.soil.Soil.root_water.Goals as goal

pub returns-clause-bound : goal.returns-clause-bound
returns-clause-bound c =
    let ls = c.layers.result.now in
    let sum : c.sum.result ≡ layers_root ls = search rules in
    omega (arith, sum, root_le ls, water_le ls, c.layers.ensures.few)
