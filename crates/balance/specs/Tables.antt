-- A column of ground taken through a weather table in bytes. Assumes nothing.
use Rattle.std.specs.Prelude.{◌≡◌, ℕ, ◌≤◌, List, Some, None, Option}
use Rattle.refusals.specs.Refusals.{Refusal, table_refusal}
use Rattle.refusals.specs.declared.table.TableFault.{TableFault}
use Rattle.sources.specs.Bytes.{word_at}
use Rattle.sources.specs.Header.{table_fault}
use Rattle.sources.specs.Table.{table_meaning}
use Rattle.stores.specs.declared.flows.Flows.{Flows}
use Rattle.weather.specs.declared.day.Day.{Day}
use Rattle.balance.specs.Course.{Course, stopped}
use Rattle.balance.specs.declared.balance.Balance.{Balance}
use Rattle.balance.specs.declared.balance.Stop.TheVariants.{Table}

-- the bytes are a table: the balance is that of what they mean, at station 0
pub record Opened {S : Type 0} (water : S → ℕ) (turns : S → ℕ → ℕ → Day → S → Flows → Type 0) (bytes : List ℕ) (s t : S) (b : Balance) : Type 0 where
  pub stationed : (1 ≤ word_at bytes 0) × (word_at bytes 0 ≤ 64)
  pub lasting : (1 ≤ word_at bytes 4) × (word_at bytes 4 ≤ 36500)
  pub course : Course water turns (table_meaning bytes stationed lasting) 0 s t b

-- the bytes are none: nothing but that refusal, and the column as it was
pub record Unopened {S : Type 0} (r : Refusal) (s t : S) (b : Balance) : Type 0 where
  pub fault : TableFault
  pub fault_is : table_refusal fault ≡ r
  pub nothing : b ≡ stopped (Table fault)
  pub same : t ≡ s

abbrev pub TableCourseBy : {S : Type 0} → Option Refusal → (S → ℕ) → (S → ℕ → ℕ → Day → S → Flows → Type 0) → List ℕ → S → S → Balance → Type 0
TableCourseBy None water turns bytes s t b = Opened water turns bytes s t b
TableCourseBy (Some r) water turns bytes s t b = Unopened r s t b

-- the balance of the column s over these bytes
abbrev pub TableCourse : {S : Type 0} → (S → ℕ) → (S → ℕ → ℕ → Day → S → Flows → Type 0) → List ℕ → S → S → Balance → Type 0
TableCourse water turns bytes s t b = TableCourseBy (table_fault bytes) water turns bytes s t b
