use Rattle.std.proofs.Common.{◌≡◌, ◌<◌, ◌≤◌, length, get_or, ap, arith, rules}
use Rattle.weather.specs.declared.day.Day.{Day}
use Rattle.basin.proofs.Watering.{rain_here}
use Rattle.basin.proofs.Turning.{turning_more}
use Rattle.basin.proofs.units.turn_units.Goals as goal

pub unwrap-left-requires : goal.unwrap-left-requires
unwrap-left-requires g c =
    let water = g.S.Store.water in
    let ws = c.args.weather.now in
    let i = c.loop-i.i in
    let x = c.index-units-i.result in
    let d = c.index-weather-i.result in
    let le : i ≤ i = omega arith in
    let was : water (get_or c.loop-i.units i x) ≡ water (get_or c.args.units.now i x) = ap water (c.loop-i.invariant.rest i x le) in
    let there : i < length ws = omega arith in
    let fell = rain_here ws i d there in
    let same : d.rain ≡ (get_or ws i d).rain = ap (λ (w : Day). w.rain) c.index-weather-i.is in
    let room = c.requires.room i x (omega arith) in
    let turned = c.turn.ensures in
    search rules

pub loop-i-preserved : goal.loop-i-preserved
loop-i-preserved g c =
    turning_more c.index-units-i.result c.turn.new.self c.index-weather-i.result c.unit_flow.result c.loop-i.invariant (omega arith) (omega arith) (omega arith) c.index-weather-i.is
    (record { rain_is = search rules; kept = search rules; turned = search rules })
