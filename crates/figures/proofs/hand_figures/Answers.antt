use Rattle.std.proofs.Common.{refl, ap}
use Rattle.fixed.specs.Decay.{decay_below, decay_bit}
use Rattle.fixed.specs.Moisture.{exponent_at, moisture_by, moisture_above}
use Rattle.fixed.specs.Shares.{part_of}
use Rattle.snow.specs.Pack.{warmed_to, snow_of, melt_at}
use Rattle.snow.specs.declared.snowpack.Snowpack.{Snowpack}
use Rattle.stores.specs.declared.rock.Rock.{Rock}
use Rattle.surface.specs.Runoff.{runoff_of}
use Rattle.basin.specs.Tables.{View}
use Rattle.basin.specs.Calls.{stored_in}
use Rattle.figures.specs.TwoDays.{TwoDays}
use Rattle.figures.specs.Worked.{WorkedFigures}
use Rattle.figures.proofs.SmallDays.{table_opens, table_means_lem}
use Rattle.figures.proofs.SmallRuns.{runs_two_days, only_two_days}
use Rattle.figures.proofs.NineRuns.{two_days_log, nine_lines_lem}
use Rattle.figures.proofs.hand_figures.Goals as goal

-- every figure, by computing it
worked : WorkedFigures
unfolding decay_below decay_bit exponent_at moisture_by moisture_above part_of warmed_to snow_of melt_at runoff_of
worked = record {
  decay = refl;
  moisture = refl;
  runoff = refl;
  wet_seepage = refl;
  wet_side = refl;
  wet_vapour = refl;
  dry_vapour = refl;
  melt = refl;
  snow_vapour = refl;
  reach_outflow = λ s h. refl;
  reach_vapour = λ s h. refl;
  reach_deep = λ s h. refl;
  reach_stored = λ s h. refl;
  draw_allowed = refl;
  draw_all = λ r b s. (s.refused, ap (λ (v : View (Snowpack Rock)). stored_in v 0) s.after);
  draw_refused = refl;
  draw_more = λ r b s. (s.refused, s.after);
}

-- the two-day run
two_days_run : TwoDays
two_days_run = record { opens = table_opens; means = table_means_lem; happens = runs_two_days; two_days = only_two_days; log_is = two_days_log }

pub returns : goal.returns
returns c = record { figures = worked; two_days = two_days_run; nine_lines = nine_lines_lem }
