use Rattle.std.proofs.Common.{sym, refl, ap, ◌∙◌, arith, w16, SFits, rules}
use Rattle.weather.specs.Meaning.{seen}
use Rattle.sources.specs.Records.{figures_at}
use Rattle.sources.proofs.Skies.{handed, sky_missing, sky_made}
use Rattle.sources.proofs.records.day_of.Goals as goal

pub returns-then-rain : goal.returns-then-rain
returns-then-rain c =
    let f = figures_at c.args.date c.args.bytes.now 0 in
    ap (seen c.args.station c.args.index) (sym (sky_missing f (sym c.word-rain.ensures ∙ c.if-rain.true)))

pub returns : goal.returns
returns c =
    let f = figures_at c.args.date c.args.bytes.now 0 in
    let high : SFits w16 c.half-highest.result = search rules in
    let low : SFits w16 c.half-lowest.result = search rules in
    let made = handed c.new.result f _ _ _ _ _ (omega arith) c.word-rain.type_inv high low c.word-demand.type_inv refl c.word-rain.ensures c.half-highest.ensures c.half-lowest.ensures c.word-demand.ensures c.new.ensures in
    sky_made c.args.station c.args.index f c.new.result c.map_err.result (λ e. c.if-rain.false (c.word-rain.ensures ∙ e)) made (search rules)
