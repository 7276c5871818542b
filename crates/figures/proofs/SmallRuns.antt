-- The runs over the small basin: one outcome of each written down, and that two days have no other. Assumes nothing.
use Rattle.std.proofs.Common.{◌≡◌, ℕ, List, [], ◌∷◌, refl, lit<, lit≤}
use Rattle.weather.specs.Meaning.{Meaning}
use Rattle.stores.specs.declared.rock.Rock.{Rock}
use Rattle.snow.specs.declared.snowpack.Snowpack.{Snowpack}
use Rattle.columns.specs.Columns.{rock_water, rock_turns}
use Rattle.network.specs.declared.flows.UnitFlow.{UnitFlow}
use Rattle.network.specs.declared.flows.ReachFlow.{ReachFlow}
use Rattle.basin.specs.declared.answer.Answer.{Answer}
use Rattle.basin.specs.Tables.{View}
use Rattle.basin.specs.Day.{Moved}
use Rattle.basin.specs.Run.{Days, none, more}
use Rattle.basin.specs.Calls.{run, Step, History, fresh, then}
use Rattle.law.specs.Agreement.{fixed, SameAnswer, same_run, run_again}
use Rattle.law.proofs.Repeated.{calls_agree}
use Rattle.figures.specs.Small.{small_site, cold_unit, warm_unit, small_basin, dry_basin, small_weather, wet_unit, wet_reach, dry_unit, dry_reach}
use Rattle.figures.specs.TwoDays.{two_units, two_reaches, two_days_on, two_answer, TwoDayOutcome}
use Rattle.figures.specs.Example.{last_basin, four_calls, whole_run, stopped_run}
use Rattle.figures.proofs.Rocks.{rock_single}
use Rattle.figures.proofs.SmallDays.{at_one, tables_with, both_move, wet_day_lem, dry_day_lem, no_third_day_lem}

-- ---- what the days move, the newest first
abbrev wet_moved : List Moved
wet_moved = both_move wet_unit wet_reach ∷ []

abbrev dry_moved : List Moved
dry_moved = both_move dry_unit dry_reach ∷ []

abbrev both_moved : List Moved
both_moved = both_move dry_unit dry_reach ∷ wet_moved

-- ---- the days
-- the first alone
first_day : Days rock_water rock_turns small_weather 0 (small_site ∷ []) (tables_with cold_unit 0) wet_moved (tables_with warm_unit 25000)
first_day = more none wet_day_lem

-- the second alone
second_day : Days rock_water rock_turns small_weather 1 (small_site ∷ []) (tables_with warm_unit 25000) dry_moved (tables_with warm_unit 12500)
second_day = more none dry_day_lem

-- one after the other
both_days : Days rock_water rock_turns small_weather 0 (small_site ∷ []) (tables_with cold_unit 0) both_moved (tables_with warm_unit 12500)
both_days = more first_day dry_day_lem

-- ---- the run of two days
-- one outcome
pub runs_two_days : (u : UnitFlow) (f : ReachFlow) → Step rock_water rock_turns dry_basin (run small_weather 2 (u ∷ []) (f ∷ []) two_units two_reaches two_answer) two_days_on
runs_two_days u f = record {
  ran = record {
    going = record { moved = both_moved; days = both_days; count = refl; sums_are = refl; unit_list = at_one _ refl; reach_list = at_one _ refl };
    ends = refl;
    start_is = refl;
    end_is = refl;
    readings_are = (lit≤ tt, lit≤ tt);
  };
  unit_list = refl;
  reach_list = refl;
  sites = refl;
  day = refl;
}

-- two outcomes of one run that agree
told_alike : {m m' : Meaning} {n n' : ℕ} {us us' vs vs' : List UnitFlow} {rs rs' ts ts' : List ReachFlow} {r q : Answer} → SameAnswer (run m n us rs us' rs' r) (run m' n' vs ts vs' ts' q) → (us' ≡ vs') × (rs' ≡ ts') × (fixed r ≡ fixed q)
told_alike (same_run u f e) = (u, f, e)

-- every outcome is that one
pub only_two_days : (u : UnitFlow) (f : ReachFlow) (us : List UnitFlow) (rs : List ReachFlow) (r : Answer) (b : View (Snowpack Rock)) → Step rock_water rock_turns dry_basin (run small_weather 2 (u ∷ []) (f ∷ []) us rs r) b → TwoDayOutcome us rs r b
only_two_days u f us rs r b s =
    let one = run small_weather 2 (u ∷ []) (f ∷ []) us rs r in
    let other = run small_weather 2 (u ∷ []) (f ∷ []) two_units two_reaches two_answer in
    let both = calls_agree rock_water rock_turns rock_single dry_basin b two_days_on one other run_again s (runs_two_days u f) in
    let alike = told_alike both.1 in
    record { told = alike.2; unit_list = alike.0; reach_list = alike.1; basin = both.0 }

-- ---- the four calls of the example
-- a whole run of one day
whole_run_lem : Step rock_water rock_turns dry_basin whole_run (small_basin warm_unit 25000 1)
whole_run_lem = record {
  ran = record {
    going = record { moved = wet_moved; days = first_day; count = refl; sums_are = refl; unit_list = at_one _ refl; reach_list = at_one _ refl };
    ends = refl;
    start_is = refl;
    end_is = refl;
    readings_are = (lit≤ tt, lit≤ tt);
  };
  unit_list = refl;
  reach_list = refl;
  sites = refl;
  day = refl;
}

-- a run that stops at the day that the source has not
stopped_run_lem : Step rock_water rock_turns (small_basin warm_unit 25000 1) stopped_run (small_basin warm_unit 12500 2)
stopped_run_lem = record {
  ran = record {
    going = record { moved = dry_moved; days = second_day; count = refl; sums_are = refl; unit_list = at_one _ refl; reach_list = at_one _ refl };
    ends = (lit< tt, no_third_day_lem);
    start_is = refl;
    end_is = refl;
    readings_are = (lit≤ tt, lit≤ tt);
  };
  unit_list = refl;
  reach_list = refl;
  sites = refl;
  day = refl;
}

-- both, with a pour that is accepted and a draw that is denied
pub four_calls_lem : History rock_water rock_turns dry_basin four_calls last_basin
four_calls_lem = then (then (then (then fresh whole_run_lem) stopped_run_lem) (record { refused = refl; after = refl })) (record { refused = refl; after = refl })
