-- What a weather table means, said of its bytes. Assumes nothing.
use Rattle.std.specs.Prelude.{◌≡◌, ℕ, ◌+◌, ◌*◌, ◌≤◌, List, Ok, Err, Result}
use Rattle.std.proofs.Common.{arith}
use Rattle.refusals.specs.declared.table.TableFault.{TableFault}
use Rattle.weather.specs.Meaning.{Meaning}
use Rattle.sources.specs.Bytes.{word_at}
use Rattle.sources.specs.Calendar.{date_at, date_within}
use Rattle.sources.specs.Header.{HeaderRead}
use Rattle.sources.specs.Records.{sky_at, sky_possible, sky_dated}
use Rattle.sources.specs.declared.table.WeatherTable.{WeatherTable}

-- where the record of a station and an index begins
abbrev pub record_place : List ℕ → ℕ → ℕ → ℕ
record_place bytes s i = 20 + 12 * (word_at bytes 4 * s + i)

-- what bytes mean whose header counts stations and days within the limits
abbrev pub table_meaning : (bytes : List ℕ) → (1 ≤ word_at bytes 0) × (word_at bytes 0 ≤ 64) → (1 ≤ word_at bytes 4) × (word_at bytes 4 ≤ 36500) → Meaning
table_meaning bytes stationed lasting = record {
  stations = word_at bytes 0;
  days = word_at bytes 4;
  date = date_at (word_at bytes 12);
  sky = λ s i. sky_at (date_at (word_at bytes 12) i) bytes (record_place bytes s i);
  some_stations = stationed;
  some_days = lasting;
  dates = date_within (word_at bytes 12);
  known_possible = λ s i. sky_possible (date_at (word_at bytes 12) i) bytes (record_place bytes s i);
  known_dated = λ s i. sky_dated (date_at (word_at bytes 12) i) bytes (record_place bytes s i);
}

abbrev pub table_means : WeatherTable → Meaning
table_means t = table_meaning t.bytes.now (omega (arith, t.headed.0, t.span.stationed), omega (arith, t.headed.0, t.span.stationed)) (omega (arith, t.headed.1, t.span.lasting), omega (arith, t.headed.1, t.span.lasting))

-- the table of these bytes with the span that their header gives, or the refusal
abbrev pub Opened : List ℕ → Result WeatherTable TableFault → Type 0
Opened bytes (Ok t) = (t.bytes.now ≡ bytes) × HeaderRead bytes (Ok t.span)
Opened bytes (Err e) = HeaderRead bytes (Err e)
