use Rattle.std.proofs.Common.{ℕ, List, ap, ◌∙◌}
use Rattle.sources.specs.Records.{record_of}
use Rattle.sources.proofs.Answered.{record_answers}
use Rattle.sources.proofs.table_source.WeatherTableWeatherSource.day.Goals as goal

pub returns : goal.returns
returns c =
    let within = c.record_of.ensures.value ∙ ap (λ (l : List ℕ). record_of l c.args.index) c.block-block.ensures.value in
    record_answers c.args.self.now c.args.station c.args.index c.in_ok-date.date _ _ c.in_ok-date.ensures within c.day_of.ensures
