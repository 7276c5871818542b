use Rattle.std.proofs.Common.{◌≡◌, ◌+◌, ◌*◌, sym, ◌∙◌, arith, rules}
use Rattle.std.specs.List.{zip}
use Rattle.std.proofs.lemmas.Iterator.{YieldsList-from_slice, YieldsList-from_map, YieldsList-from_zip}
use Rattle.std.proofs.lemmas.Iterator.Adapters.{total_from_yields_List}
use Rattle.std.proofs.lemmas.List.Sums.{sum-map}
use Rattle.weather.specs.declared.day.Day.{Day}
use Rattle.network.specs.declared.site.Site.{Site}
use Rattle.basin.specs.Loops.{rain_fallen}
use Rattle.basin.proofs.Areas.{over_area_sum, rain_most}
use Rattle.basin.proofs.limits.rain_fallen.Goals as goal

pub returns : goal.returns
returns c =
    let e : c.sum.result ≡ rain_fallen c.args.sites.now c.args.weather.now =
    total_from_yields_List (λ a x. a + x) 0 c.sum.result c.sum.ensures.ran
    (YieldsList-from_map _ (λ (p : Site × Day). p.0.area * p.1.rain) (YieldsList-from_zip (YieldsList-from_slice c.args.sites.now cc) (YieldsList-from_slice c.args.weather.now cc)) c.map.ensures.closure (λ x r q k. search rules))
    ∙ sum-map (λ (p : Site × Day). p.0.area * p.1.rain) (zip c.args.sites.now c.args.weather.now)
    ∙ sym (over_area_sum (λ (w : Day). w.rain) c.args.sites.now c.args.weather.now) in
    let most = rain_most c.args.sites.now c.args.weather.now (omega arith) in
    record { value = e; small = omega arith }
