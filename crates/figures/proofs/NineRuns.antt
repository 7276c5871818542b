-- The program's run over the small table tells the nine lines. Assumes nothing.
use Rattle.std.proofs.Common.{◌≡◌, ℕ, ◌≤◌, List, [], ◌∷◌, Some, None, Option, sym, refl, ap, ◌∙◌, subst, arith}
use Rattle.std.specs.Option.{option_map}
use Rattle.std.specs.Fmt.{digits}
use Rattle.fixed.specs.Limits.{outside}
use Rattle.refusals.specs.Refusals.{basin_refusal}
use Rattle.refusals.specs.declared.basin.BasinFault.{BasinFault}
use Rattle.weather.specs.Meaning.{Meaning}
use Rattle.sources.specs.Bytes.{word_at}
use Rattle.stores.specs.declared.rock.Rock.{Rock}
use Rattle.snow.specs.declared.snowpack.Snowpack.{Snowpack}
use Rattle.columns.specs.Columns.{rock_water, rock_turns}
use Rattle.network.specs.declared.flows.UnitFlow.{UnitFlow}
use Rattle.network.specs.declared.flows.ReachFlow.{ReachFlow}
use Rattle.basin.specs.declared.answer.Answer.{Answer}
use Rattle.basin.specs.Tables.{View}
use Rattle.basin.specs.Law.{stop_number}
use Rattle.basin.specs.Run.{ReadingsWithin}
use Rattle.basin.specs.Calls.{run, Step}
use Rattle.law.specs.Agreement.{Fixed, fixed}
use Rattle.run_log.specs.Answers.{told_of}
use Rattle.run_log.specs.Log.{log_bytes}
use Rattle.run_log.specs.declared.figures.LogFigures.{LogFigures}
use Rattle.trial.specs.Bare.{Bare}
use Rattle.trial.specs.TableRuns.{TableRun, TableRunBy, open_fault}
use Rattle.figures.specs.Small.{dry_basin, table_bytes, one_station, lasts_two_days, small_weather}
use Rattle.figures.specs.TwoDays.{two_units, two_reaches, two_days_on, two_answer, nine_lines, NineFigures, NineLines}
use Rattle.figures.proofs.SmallDays.{bytes_mean}
use Rattle.figures.proofs.SmallRuns.{runs_two_days, only_two_days}
use Rattle.figures.proofs.BareBasin.{bare_dry, bare_is}

-- ---- the log
-- of the answer, by computing it
pub two_days_log : log_bytes (told_of two_answer) ≡ nine_lines
unfolding log_bytes digits
two_days_log = refl

-- figures with these readings
abbrev figures_with : ℕ → LogFigures
figures_with n = record { days = 2; readings = n; rain = 50000; stream = 37500; vapour = 0; deep = 0; start = 0; end = 12500; stop = 0 }

-- figures that are those with four readings have that log
four_readings : (x : LogFigures) → x ≡ figures_with x.readings → x.readings ≡ 4 → log_bytes x ≡ nine_lines
four_readings x e n = ap log_bytes (e ∙ ap figures_with n) ∙ two_days_log

-- ---- what an answer tells
-- a stop without a refusal is shown as 0
no_stop : (o : Option BasinFault) → option_map basin_refusal o ≡ None → stop_number o ≡ 0
no_stop None e = refl
no_stop (Some x) e = cc

-- an answer that the rules fix so tells these figures
figures_told : (r : Answer) → fixed r ≡ fixed two_answer → told_of r ≡ figures_with r.readings
figures_told r e =
    let stop = no_stop r.stop (ap (λ (x : Fixed). x.stop) e) in
    λ j. record { days = (e j).days; readings = r.readings; rain = (e j).sums.rain; stream = (e j).sums.stream; vapour = (e j).sums.vapour; deep = (e j).sums.deep; start = (e j).start; end = (e j).end; stop = stop j }

-- ---- the run
module _ (b : View (Snowpack Rock)) (u : UnitFlow) (f : ReachFlow) (us : List UnitFlow) (rs : List ReachFlow) where
  -- of the bytes over the small basin is the run of two days
  same_step : (x : LogFigures) (t : TableRun rock_water rock_turns table_bytes (u ∷ []) us (f ∷ []) rs dry_basin b x) → Step rock_water rock_turns dry_basin (run small_weather 2 (u ∷ []) (f ∷ []) us rs t.answer) b
  unfolding word_at
  same_step x t = subst (λ (m : Meaning). Step rock_water rock_turns dry_basin (run m 2 (u ∷ []) (f ∷ []) us rs t.answer) b) (bytes_mean table_bytes refl t.stationed t.lasting) t.step

  -- one unit and one reach were asked for on each of two days, and at most once more
  readings_told : (r : Answer) → r.days ≡ 2 → Step rock_water rock_turns dry_basin (run small_weather 2 (u ∷ []) (f ∷ []) us rs r) b → (4 ≤ r.readings) × (r.readings ≤ 6)
  readings_told r d s =
      let within : ReadingsWithin 2 r.days r.readings = s.ran.readings_are in
      (omega arith, omega arith)

  -- so it tells the nine lines
  dry_lines : (x : LogFigures) → TableRun rock_water rock_turns table_bytes (u ∷ []) us (f ∷ []) rs dry_basin b x → NineFigures x
  dry_lines x t =
      let r = t.answer in
      let step = same_step x t in
      let same = (only_two_days u f us rs r b step).told in
      let readings : r.readings ≡ x.readings = ap (λ (y : LogFigures). y.readings) (sym t.figures_are) in
      let all : x ≡ figures_with x.readings = t.figures_are ∙ figures_told r same ∙ ap figures_with readings in
      let within = readings_told r (ap (λ (y : Fixed). y.days) same) step in
      record { told = all; asked = (omega arith, omega arith); log_is = four_readings x all }

-- over every basin of the program's settings
lines_told : (a b : View (Snowpack Rock)) (u : UnitFlow) (f : ReachFlow) (us : List UnitFlow) (rs : List ReachFlow) (x : LogFigures) → Bare a → TableRunBy (open_fault table_bytes) rock_water rock_turns table_bytes (u ∷ []) us (f ∷ []) rs a b x → NineFigures x
unfolding word_at outside
lines_told a b u f us rs x h t = dry_lines b u f us rs x (subst (λ (v : View (Snowpack Rock)). TableRun rock_water rock_turns table_bytes (u ∷ []) us (f ∷ []) rs v b x) (bare_is a h) t)

-- and it happens
lines_happen : (u : UnitFlow) (f : ReachFlow) → TableRunBy (open_fault table_bytes) rock_water rock_turns table_bytes (u ∷ []) two_units (f ∷ []) two_reaches dry_basin two_days_on (told_of two_answer)
unfolding word_at outside
lines_happen u f = record { stationed = one_station; lasting = lasts_two_days; answer = two_answer; step = runs_two_days u f; figures_are = refl }

-- the bytes are opened, by computing it
bytes_open : open_fault table_bytes ≡ None
unfolding word_at outside
bytes_open = refl

pub nine_lines_lem : NineLines
nine_lines_lem = record { opens = bytes_open; bare = bare_dry; basin = bare_is; happens = lines_happen; lines = lines_told }
