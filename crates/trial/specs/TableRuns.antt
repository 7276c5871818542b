-- A weather table in bytes run over a basin. Assumes nothing.
use Rattle.std.specs.Prelude.{◌≡◌, ℕ, ◌≤◌, min, cond, List, length, Some, None, Ok, Err, Option, Result, nat_lt}
use Rattle.refusals.specs.Refusals.{Refusal, refuse, table_refusal}
use Rattle.refusals.specs.declared.table.TableFault.{TableFault}
use Rattle.sources.specs.Bytes.{word_at}
use Rattle.sources.specs.Header.{table_fault, Headed, Stamped}
use Rattle.sources.specs.Table.{table_meaning}
use Rattle.sources.specs.declared.table.WeatherTable.{WeatherTable}
use Rattle.weather.specs.declared.day.Day.{Day}
use Rattle.stores.specs.declared.flows.Flows.{Flows}
use Rattle.network.specs.declared.flows.UnitFlow.{UnitFlow}
use Rattle.network.specs.declared.flows.ReachFlow.{ReachFlow}
use Rattle.basin.specs.declared.answer.Answer.{Answer}
use Rattle.basin.specs.Tables.{View}
use Rattle.basin.specs.Calls.{Step, run}
use Rattle.run_log.specs.Answers.{told_of, only_number}
use Rattle.run_log.specs.declared.figures.LogFigures.{LogFigures}

-- bytes that are too many, or no table
abbrev pub open_fault : List ℕ → Option Refusal
open_fault bytes = cond (nat_lt 60000 (length bytes)) (Some (refuse 21 (length bytes))) (table_fault bytes)

-- a table over bytes that nothing refuses, or that refusal
abbrev pub OpenOr : List ℕ → Result WeatherTable TableFault → Type 0
OpenOr bytes (Ok t) = (open_fault bytes ≡ None) × (t.bytes.now ≡ bytes) × (Headed bytes t.span) × (Stamped bytes)
OpenOr bytes (Err e) = open_fault bytes ≡ Some (table_refusal e)

-- a run of the table's days, 3,660 at most, and the figures that its answer tells
pub record TableRun {S : Type 0} (water : S → ℕ) (turns : S → ℕ → ℕ → Day → S → Flows → Type 0) (bytes : List ℕ) (us us' : List UnitFlow) (rs rs' : List ReachFlow) (a b : View S) (f : LogFigures) : Type 0 where
  pub stationed : (1 ≤ word_at bytes 0) × (word_at bytes 0 ≤ 64)
  pub lasting : (1 ≤ word_at bytes 4) × (word_at bytes 4 ≤ 36500)
  pub answer : Answer
  pub step : Step water turns a (run (table_meaning bytes stationed lasting) (min (word_at bytes 4) 3660) us rs us' rs' answer) b
  pub figures_are : f ≡ told_of answer

-- a table that is not opened: eight zeros and its number, and all else as it was
pub record NoTable {S : Type 0} (e : Refusal) (us us' : List UnitFlow) (rs rs' : List ReachFlow) (a b : View S) (f : LogFigures) : Type 0 where
  pub figures_are : f ≡ only_number e.number
  pub unit_list : us' ≡ us
  pub reach_list : rs' ≡ rs
  pub same : b ≡ a

-- by what refuses the bytes
abbrev pub TableRunBy : {S : Type 0} → Option Refusal → (S → ℕ) → (S → ℕ → ℕ → Day → S → Flows → Type 0) → List ℕ → List UnitFlow → List UnitFlow → List ReachFlow → List ReachFlow → View S → View S → LogFigures → Type 0
TableRunBy (Some e) water turns bytes us us' rs rs' a b f = NoTable e us us' rs rs' a b f
TableRunBy None water turns bytes us us' rs rs' a b f = TableRun water turns bytes us us' rs rs' a b f
