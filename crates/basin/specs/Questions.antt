-- The questions of a day, and when a day is not accepted. Assumes nothing.
use Rattle.std.specs.Prelude.{ℕ, suc, ◌+◌, ◌*◌, List, [], ◌∷◌, Some, None, Ok, Err, Option, Result, slice_index_or}
use Rattle.refusals.specs.Refusals.{Refusal, at_place}
use Rattle.weather.specs.Days.{Figures}
use Rattle.weather.specs.Meaning.{Meaning, asked}
use Rattle.network.specs.Records.{site0}
use Rattle.network.specs.declared.site.Site.{Site}
use Rattle.network.specs.declared.reach.Reach.{Reach}
use Rattle.basin.specs.Tables.{State, or_else}
use Rattle.basin.specs.Limits.{limit_fault}

-- ---- 57: the first question that the source refuses, with its place; sites are counted from i, reaches from j
abbrev pub answer_fault : ℕ → Result Figures Refusal → Option Refusal
answer_fault place (Ok f) = None
answer_fault place (Err e) = Some (at_place place e)

abbrev pub site_questions : Meaning → ℕ → ℕ → List Site → Option Refusal
site_questions m index i [] = None
site_questions m index i (s ∷ ss) = or_else (answer_fault i (asked m s.station index)) (site_questions m index (suc i) ss)

abbrev pub reach_questions : Meaning → ℕ → ℕ → List Reach → Option Refusal
reach_questions m index j [] = None
reach_questions m index j (r ∷ rs) = or_else (answer_fault (1024 + j) (asked m r.channel.station index)) (reach_questions m index (suc j) rs)

-- of places that each have a station, numbered from `first` on
abbrev pub place_questions : {P : Type 0} → (P → ℕ) → ℕ → Meaning → ℕ → ℕ → List P → Option Refusal
place_questions station first m index i [] = None
place_questions station first m index i (p ∷ ps) = or_else (answer_fault (first + i) (asked m (station p) index)) (place_questions station first m index (suc i) ps)

-- the sites in order, then the reaches
abbrev pub questions : Meaning → ℕ → List Site → List Reach → Option Refusal
questions m index ss rs = or_else (site_questions m index 0 ss) (reach_questions m index 0 rs)

-- ---- what the source means for a place
abbrev pub rain_of : Result Figures Refusal → ℕ
rain_of (Ok f) = f.rain
rain_of (Err e) = 0

abbrev pub demand_of : Result Figures Refusal → ℕ
demand_of (Ok f) = f.demand
demand_of (Err e) = 0

abbrev pub rain_at : Meaning → ℕ → ℕ → ℕ
rain_at m station index = rain_of (asked m station index)

abbrev pub demand_at : Meaning → ℕ → ℕ → ℕ
demand_at m station index = demand_of (asked m station index)

-- the rain of the unit at a place, in micrometres
abbrev pub site_rain : Meaning → ℕ → List Site → ℕ → ℕ
site_rain m index ss i = rain_at m (slice_index_or ss i site0).station index

-- the rain of the basin, in millilitres
abbrev pub rain_volume : Meaning → ℕ → List Site → ℕ
rain_volume m index [] = 0
rain_volume m index (s ∷ ss) = s.area * rain_at m s.station index + rain_volume m index ss

-- why the day of an index is not accepted: a question, a unit's limit, the basin's limit, in this order
abbrev pub day_stop : {S : Type 0} → (S → ℕ) → Meaning → ℕ → List Site → State S → Option Refusal
day_stop water m index ss a =
    or_else (questions m index ss a.reaches)
    (limit_fault water (site_rain m index ss) (rain_volume m index ss) ss a)
