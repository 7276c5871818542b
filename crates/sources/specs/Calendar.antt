-- Dates and months of a year of 365 days, and the laws by which everything else uses them. Assumes nothing.
use Rattle.std.specs.Prelude.{ℕ, ◌+◌, ◌-◌, ◌%◌, ◌≤◌, cond, List, [], ◌∷◌, nat_lt}
use Rattle.std.proofs.Common.{arith}

-- the day of the year of an index, where index 0 is the first
unfoldable pub date_at : ℕ → ℕ → ℕ
date_at first index = (first - 1 + index) % 365 + 1

-- every date is one of the year's days
pub date_within : (first index : ℕ) → (1 ≤ date_at first index) × (date_at first index ≤ 365)
unfolding date_at
date_within first index = (omega arith, omega arith)

-- the last days of the months of a common year, but for December's
abbrev pub month_ends : List ℕ
month_ends = 31 ∷ 59 ∷ 90 ∷ 120 ∷ 151 ∷ 181 ∷ 212 ∷ 243 ∷ 273 ∷ 304 ∷ 334 ∷ []

-- how many of these days lie before a date
abbrev pub ended_before : List ℕ → ℕ → ℕ
ended_before [] date = 0
ended_before (end ∷ ends) date = cond (nat_lt end date) 1 0 + ended_before ends date

-- the month of a date, from 0
unfoldable pub month_of : ℕ → ℕ
month_of date = ended_before month_ends date
