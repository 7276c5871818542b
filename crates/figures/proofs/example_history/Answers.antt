use Rattle.std.proofs.Common.{refl, arith}
use Rattle.sources.specs.Bytes.{word_at, half_at}
use Rattle.sources.specs.Calendar.{date_at}
use Rattle.sources.specs.Records.{sky_of}
use Rattle.fixed.specs.Limits.{outside}
use Rattle.basin.proofs.Balance.{balanced}
use Rattle.figures.proofs.SmallRuns.{four_calls_lem}
use Rattle.figures.proofs.example_history.Goals as goal

pub returns : goal.returns
unfolding word_at half_at date_at sky_of outside
returns c = record {
  history = four_calls_lem;
  stop_told = refl;
  denied_told = refl;
  rain_fallen = refl;
  rain_told = refl;
  pour_sum = refl;
  stream_sum = refl;
  vapour_sum = refl;
  deep_sum = refl;
  draw_sum = refl;
  water_before = refl;
  water_after = refl;
  law = balanced four_calls_lem;
  by_the_law = λ b h. omega (arith, (balanced h).whole);
}
