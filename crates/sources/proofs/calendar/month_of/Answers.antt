use Rattle.std.proofs.Common.{◌∙◌, nat_lt, arith}
use Rattle.std.proofs.lemmas.List.Sums.{count_by-le-length}
use Rattle.sources.specs.Calendar.{month_of, month_ends}
use Rattle.sources.proofs.Months.{ended_count}
use Rattle.sources.proofs.calendar.month_of.Goals as goal

pub returns : goal.returns
unfolding month_of
returns c = record {
  value = c.ended_before.ensures ∙ ended_count month_ends c.args.date;
  bound = omega (arith, c.ended_before.ensures, count_by-le-length (λ end. nat_lt end c.args.date) month_ends);
}
