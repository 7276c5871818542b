-- A run of two days over the small basin: its outcome, and that it has no other. Assumes nothing.
use Rattle.std.specs.Prelude.{◌≡◌, ℕ, ◌≤◌, List, [], ◌∷◌, None, codes}
use Rattle.sources.specs.Header.{table_fault}
use Rattle.sources.specs.Table.{table_means}
use Rattle.sources.specs.declared.table.WeatherTable.{WeatherTable}
use Rattle.stores.specs.declared.rock.Rock.{Rock}
use Rattle.snow.specs.declared.snowpack.Snowpack.{Snowpack}
use Rattle.columns.specs.Columns.{rock_water, rock_turns}
use Rattle.network.specs.declared.flows.UnitFlow.{UnitFlow}
use Rattle.network.specs.declared.flows.ReachFlow.{ReachFlow}
use Rattle.basin.specs.declared.answer.Sums.{Sums}
use Rattle.basin.specs.declared.answer.Answer.{Answer}
use Rattle.basin.specs.Tables.{View}
use Rattle.basin.specs.Calls.{run, Step}
use Rattle.law.specs.Agreement.{fixed}
use Rattle.run_log.specs.Answers.{told_of}
use Rattle.run_log.specs.Log.{log_bytes}
use Rattle.run_log.specs.declared.figures.LogFigures.{LogFigures}
use Rattle.trial.specs.Bare.{Bare}
use Rattle.trial.specs.TableRuns.{TableRunBy, open_fault}
use Rattle.figures.specs.Small.{warm_unit, small_basin, dry_basin, table_bytes, small_weather}

-- what two days move: in the unit, in the reach, and together
abbrev pub two_units : List UnitFlow
two_units = record { rain = 5000; side = 5000; vapour = 0; deep = 0 } ∷ []

abbrev pub two_reaches : List ReachFlow
two_reaches = record { inflow = 50000; outflow = 37500; vapour = 0; deep = 0 } ∷ []

abbrev pub two_sums : Sums
two_sums = record { rain = 50000; stream = 37500; vapour = 0; deep = 0 }

-- the basin after them
abbrev pub two_days_on : View (Snowpack Rock)
two_days_on = small_basin warm_unit 12500 2

-- an answer that asked the source once for each place and day
abbrev pub two_answer : Answer
two_answer = record { days = 2; readings = 4; sums = two_sums; start = 0; end = 12500; stop = None }

-- its log
abbrev pub nine_lines : List ℕ
nine_lines = codes "days 2\nreadings 4\nrain 50000\nstream 37500\nvapour 0\ndeep 0\nstart 0\nend 12500\nstop 0\n"

-- what the rules fix of an outcome
pub record TwoDayOutcome (us : List UnitFlow) (rs : List ReachFlow) (r : Answer) (b : View (Snowpack Rock)) : Type 0 where
  pub told : fixed r ≡ record { days = 2; sums = two_sums; start = 0; end = 12500; stop = None }
  pub unit_list : us ≡ two_units
  pub reach_list : rs ≡ two_reaches
  pub basin : b ≡ two_days_on

pub record TwoDays : Type 0 where
  -- the bytes are a table, and every table of these bytes means the small weather
  pub opens : table_fault table_bytes ≡ None
  pub means : (t : WeatherTable) → t.bytes.now ≡ table_bytes → table_means t ≡ small_weather
  -- whatever stood in the flow lists, the run may end so
  pub happens : (u : UnitFlow) (f : ReachFlow) → Step rock_water rock_turns dry_basin (run small_weather 2 (u ∷ []) (f ∷ []) two_units two_reaches two_answer) two_days_on
  -- and in no other way, readings aside
  pub two_days : (u : UnitFlow) (f : ReachFlow) (us : List UnitFlow) (rs : List ReachFlow) (r : Answer) (b : View (Snowpack Rock)) → Step rock_water rock_turns dry_basin (run small_weather 2 (u ∷ []) (f ∷ []) us rs r) b → TwoDayOutcome us rs r b
  -- the log of that answer
  pub log_is : log_bytes (told_of two_answer) ≡ nine_lines

-- ---- the program: a basin of its settings, run by the bytes
-- what the figures of its log may be: all are fixed but the readings
pub record NineFigures (f : LogFigures) : Type 0 where
  pub told : f ≡ record { days = 2; readings = f.readings; rain = 50000; stream = 37500; vapour = 0; deep = 0; start = 0; end = 12500; stop = 0 }
  pub asked : (4 ≤ f.readings) × (f.readings ≤ 6)
  pub log_is : f.readings ≡ 4 → log_bytes f ≡ nine_lines

pub record NineLines : Type 0 where
  -- the bytes are not too many, and a table
  pub opens : open_fault table_bytes ≡ None
  -- the settings are those of the small basin, and of no other
  pub bare : Bare dry_basin
  pub basin : (a : View (Snowpack Rock)) → Bare a → a ≡ dry_basin
  -- whatever stood in the flow lists, the program may tell these lines
  pub happens : (u : UnitFlow) (f : ReachFlow) → TableRunBy (open_fault table_bytes) rock_water rock_turns table_bytes (u ∷ []) two_units (f ∷ []) two_reaches dry_basin two_days_on (told_of two_answer)
  -- and no others, readings aside
  pub lines : (a b : View (Snowpack Rock)) (u : UnitFlow) (f : ReachFlow) (us : List UnitFlow) (rs : List ReachFlow) (x : LogFigures) → Bare a → TableRunBy (open_fault table_bytes) rock_water rock_turns table_bytes (u ∷ []) us (f ∷ []) rs a b x → NineFigures x
