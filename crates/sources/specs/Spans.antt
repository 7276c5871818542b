-- The date of an index, and of a station at an index, of a source's span. Assumes nothing.
use Rattle.std.specs.Prelude.{ℕ, cond, Ok, Err, Result, nat_lt}
use Rattle.refusals.specs.Refusals.{Refusal, refuse_at}
use Rattle.sources.specs.Calendar.{date_at}
use Rattle.sources.specs.declared.span.Span.{Span}

-- the day of the year of an index; no station is asked, and 0 is told
abbrev pub date_in : Span → ℕ → Result ℕ Refusal
date_in p i = cond (nat_lt i p.days) (Ok (date_at p.first i)) (Err (refuse_at 32 0 i))

-- the day of the year of a station's index, where both exist
abbrev pub place_in : Span → ℕ → ℕ → Result ℕ Refusal
place_in p s i = cond (nat_lt s p.stations) (cond (nat_lt i p.days) (Ok (date_at p.first i)) (Err (refuse_at 32 s i))) (Err (refuse_at 31 s i))
