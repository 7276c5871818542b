use Rattle.std.proofs.Common.{◌<◌, length, ap, ◌∙◌, arith, rules}
use Rattle.sources.specs.Calendar.{date_within}
use Rattle.sources.specs.NormalYears.{on_date}
use Rattle.sources.proofs.Answered.{found, month_read, month_answers}
use Rattle.sources.proofs.normal_year_source.NormalYearWeatherSource.day.Goals as goal

pub on_date-requires : goal.on_date-requires
on_date-requires c =
    let p = c.args.self.now.span in
    let f = found p c.args.station c.args.index c.in_ok-date.date c.in_ok-date.ensures in
    let d = date_within p.first c.args.index in
    record { first = omega (arith, f.dated, d); last = omega (arith, f.dated, d) }

pub returns : goal.returns
returns c =
    let y = c.args.self.now in
    let d = c.in_ok-date.date in
    let h : c.month_of.result < length y.months = search rules in
    let month = month_read y.months c.month_of.result d _ h c.month_of.ensures.value in
    month_answers y c.args.station c.args.index d _ c.in_ok-date.ensures (c.on_date.ensures ∙ ap (on_date d) month)
