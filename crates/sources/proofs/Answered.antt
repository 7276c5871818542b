-- The answers of a source, from its span and the sky of a station and an index. Assumes nothing.
use Rattle.std.proofs.Common.{◌≡◌, ℕ, ◌+◌, ◌*◌, ◌<◌, Bool, true, cond, ltb, List, map, length, get_or, Ok, Err, Result, sym, ap, ◌∙◌, arith}
use Rattle.std.proofs.lemmas.List.{get_or-map}
use Rattle.std.proofs.lemmas.Bool.Decides.{nat_tests}
use Rattle.refusals.specs.Refusals.{Refusal, refuse_at}
use Rattle.weather.specs.declared.day.Day.{Day}
use Rattle.weather.specs.Days.{Figures, figures}
use Rattle.weather.specs.Meaning.{Meaning, known, asked, seen}
use Rattle.sources.specs.Bytes.{word_at}
use Rattle.sources.specs.Calendar.{date_at, month_of}
use Rattle.sources.specs.NormalYears.{calm, on_date, month_figures, year_means}
use Rattle.sources.specs.Records.{block_of, record_of, figures_at, sky_of, sky_at}
use Rattle.sources.specs.Spans.{place_in}
use Rattle.sources.specs.Table.{table_means, record_place}
use Rattle.sources.specs.declared.normal_year.NormalYear.{NormalYear}
use Rattle.sources.specs.declared.span.Span.{Span}
use Rattle.sources.specs.declared.table.WeatherTable.{WeatherTable}
use Rattle.sources.proofs.Places.{record_figures}

-- a place that was found lies in the span
pub record Found (p : Span) (s i d : ℕ) : Type 0 where
  pub station : s < p.stations
  pub day : i < p.days
  pub dated : d ≡ date_at p.first i

pub found : (p : Span) (s i d : ℕ) → Ok d ≡ place_in p s i → Found p s i d
found p s i d e = record { station = grind (arith, nat_tests); day = grind (arith, nat_tests); dated = grind (arith, nat_tests) }

-- a question within the stations and the days is answered by the sky
pub asked_within : (m : Meaning) (s i : ℕ) → s < m.stations → i < m.days → asked m s i ≡ seen s i (m.sky s i)
asked_within m s i h k =
    let a : ltb s m.stations ≡ true = grind (arith, nat_tests) in
    let b : ltb i m.days ≡ true = grind (arith, nat_tests) in
    ap (λ (t : Bool). cond t (cond (ltb i m.days) (seen s i (m.sky s i)) (Err (refuse_at 32 s i))) (Err (refuse_at 31 s i))) a
    ∙ ap (λ (t : Bool). cond t (seen s i (m.sky s i)) (Err (refuse_at 32 s i))) b

-- the record of a table that was read is the one that its meaning speaks of
pub record_answers : (t : WeatherTable) (s i d : ℕ) (bytes : List ℕ) (x : Result Figures Refusal) → Ok d ≡ place_in t.span s i → bytes ≡ record_of (block_of t.bytes.now t.span.days s) i → x ≡ seen s i (sky_at d bytes 0) → x ≡ asked (table_means t) s i
record_answers t s i d bytes x e r h =
    let f = found t.span s i d e in
    let whole = t.bytes.now in
    let dates : d ≡ date_at (word_at whole 12) i = f.dated ∙ ap (λ (n : ℕ). date_at n i) (sym t.headed.2) in
    let same = ap (λ (l : List ℕ). figures_at d l 0) r
    ∙ record_figures d whole t.span.days s i f.day
    ∙ ap (λ (n : ℕ). figures_at d whole (20 + 12 * (n * s + i))) (sym t.headed.1)
    ∙ ap (λ (n : ℕ). figures_at n whole (record_place whole s i)) dates in
    h ∙ ap (λ (g : Figures). seen s i (sky_of g)) same ∙ sym (asked_within (table_means t) s i (omega (arith, f.station, t.headed.0)) (omega (arith, f.day, t.headed.1)))

-- the day of a month that was read, and the answer of a normal year
pub month_read : (months : List Day) (k date : ℕ) (z : Day) → k < length months → k ≡ month_of date → figures (get_or months k z) ≡ month_figures months date
unfolding month_figures
month_read months k date z h e = sym (get_or-map figures months k z calm h) ∙ ap (λ (n : ℕ). get_or (map figures months) n calm) e

pub month_answers : (y : NormalYear) (s i d : ℕ) (f : Figures) → Ok d ≡ place_in y.span s i → f ≡ on_date d (month_figures y.months d) → Ok f ≡ asked (year_means y) s i
month_answers y s i d f e h =
    let g = found y.span s i d e in
    ap (λ (x : Figures). seen s i (known x)) (h ∙ ap (λ (n : ℕ). on_date n (month_figures y.months n)) g.dated)
    ∙ sym (asked_within (year_means y) s i g.station (omega (arith, g.day, y.whole)))
