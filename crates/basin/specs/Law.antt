-- Nobody makes or loses a millilitre: the balance after every list of calls. Assumes nothing.
use Rattle.std.specs.Prelude.{◌≡◌, ℕ, zero, suc, ◌+◌, ◌<◌, Bool, cond, not, ◌&&◌, List, [], ◌∷◌, length, get_or, Some, None, Ok, Err, sum_by, Option, Result, ◌==◌, nat_le, slice_index_or}
use Rattle.refusals.specs.Refusals.{basin_refusal}
use Rattle.refusals.specs.declared.basin.BasinFault.{BasinFault}
use Rattle.weather.specs.Meaning.{Meaning}
use Rattle.weather.specs.declared.day.Day.{Day}
use Rattle.stores.specs.declared.flows.Flows.{Flows}
use Rattle.network.specs.Records.{site0, unit0, flow0}
use Rattle.network.specs.declared.site.Site.{Site}
use Rattle.network.specs.declared.flows.UnitFlow.{UnitFlow}
use Rattle.network.specs.declared.flows.ReachFlow.{ReachFlow}
use Rattle.basin.specs.declared.answer.Answer.{Answer}
use Rattle.basin.specs.Tables.{View}
use Rattle.basin.specs.Limits.{total}
use Rattle.basin.specs.Questions.{rain_at, rain_volume}
use Rattle.basin.specs.Run.{nothing}
use Rattle.basin.specs.Calls.{Call, run, pour, draw, History, stored_in}

-- the number that a stop shows: 0 where there is none
abbrev pub stop_number : Option BasinFault → ℕ
stop_number None = 0
stop_number (Some e) = (basin_refusal e).number

-- a run refused with 51 to 56 leaves the flow lists, and counts 0 there
abbrev pub writes : Answer → Bool
writes r = not (nat_le 51 (stop_number r.stop) && nat_le (stop_number r.stop) 56)

-- ---- one call
-- the answer of a run; a pour and a draw tell nothing of this kind
abbrev pub answer_of : Call → Answer
answer_of (run m n us rs us' rs' r) = r
answer_of (pour j x r) = record { days = 0; readings = 0; sums = nothing; start = 0; end = 0; stop = None }
answer_of (draw j x r) = record { days = 0; readings = 0; sums = nothing; start = 0; end = 0; stop = None }

abbrev pub days_of : Call → ℕ
days_of c = (answer_of c).days

abbrev pub told_rain : Call → ℕ
told_rain c = (answer_of c).sums.rain

abbrev pub call_stream : Call → ℕ
call_stream c = (answer_of c).sums.stream

abbrev pub call_vapour : Call → ℕ
call_vapour c = (answer_of c).sums.vapour

abbrev pub call_deep : Call → ℕ
call_deep c = (answer_of c).sums.deep

-- an amount, where the call was accepted
abbrev pub accepted : Result (Unit {0}) BasinFault → ℕ → ℕ
accepted (Ok _) x = x
accepted (Err e) x = 0

-- what was poured into, and drawn from, the reach k
abbrev pub poured_to : ℕ → Call → ℕ
poured_to k (run m n us rs us' rs' r) = 0
poured_to k (pour j x r) = cond (j == k) (accepted r x) 0
poured_to k (draw j x r) = 0

abbrev pub drawn_from : ℕ → Call → ℕ
drawn_from k (run m n us rs us' rs' r) = 0
drawn_from k (pour j x r) = 0
drawn_from k (draw j x r) = cond (j == k) (accepted r x) 0

abbrev pub poured : Call → ℕ
poured (run m n us rs us' rs' r) = 0
poured (pour j x r) = accepted r x
poured (draw j x r) = 0

abbrev pub drawn : Call → ℕ
drawn (run m n us rs us' rs' r) = 0
drawn (pour j x r) = 0
drawn (draw j x r) = accepted r x

-- the flow lists' records of a unit and of a reach, where the call wrote them
abbrev pub unit_in : ℕ → Call → UnitFlow
unit_in i (run m n us rs us' rs' r) = cond (writes r) (slice_index_or us' i unit0) unit0
unit_in i (pour j x r) = unit0
unit_in i (draw j x r) = unit0

abbrev pub reach_in : ℕ → Call → ReachFlow
reach_in k (run m n us rs us' rs' r) = cond (writes r) (slice_index_or rs' k flow0) flow0
reach_in k (pour j x r) = flow0
reach_in k (draw j x r) = flow0

-- what leaves a unit, in micrometres, and a reach, in millilitres
abbrev pub unit_loss : UnitFlow → ℕ
unit_loss f = f.side + f.vapour + f.deep

abbrev pub reach_loss : ReachFlow → ℕ
reach_loss f = f.outflow + f.vapour + f.deep

-- ---- rain, by what the sources mean
-- on n days from the index `from`, over the basin in millilitres
abbrev pub rain_over : Meaning → ℕ → ℕ → List Site → ℕ
rain_over m from zero ss = 0
rain_over m from (suc n) ss = rain_volume m (from + n) ss + rain_over m from n ss

-- at one station, in micrometres
abbrev pub rain_over_at : Meaning → ℕ → ℕ → ℕ → ℕ
rain_over_at m from zero station = 0
rain_over_at m from (suc n) station = rain_at m station (from + n) + rain_over_at m from n station

-- of a call that begins at the day count `from`
abbrev pub call_rain : ℕ → List Site → Call → ℕ
call_rain from ss (run m n us rs us' rs' r) = rain_over m from r.days ss
call_rain from ss (pour j x r) = 0
call_rain from ss (draw j x r) = 0

abbrev pub call_rain_at : ℕ → ℕ → Call → ℕ
call_rain_at from station (run m n us rs us' rs' r) = rain_over_at m from r.days station
call_rain_at from station (pour j x r) = 0
call_rain_at from station (draw j x r) = 0

-- of all calls from the day count `from` on, the newest first
abbrev pub rained : ℕ → List Site → List Call → ℕ
rained from ss [] = 0
rained from ss (c ∷ cs) = call_rain (from + sum_by days_of cs) ss c + rained from ss cs

abbrev pub rained_at : ℕ → ℕ → List Call → ℕ
rained_at from station [] = 0
rained_at from station (c ∷ cs) = call_rain_at (from + sum_by days_of cs) station c + rained_at from station cs

-- ---- the balance after the calls cs, which took the basin a to b: of the whole, of each unit and of each reach
pub record Balanced {S : Type 0} (water : S → ℕ) (a : View S) (cs : List Call) (b : View S) : Type 0 where
  pub whole : total water b.sites b.state + (sum_by call_stream cs + sum_by call_vapour cs + sum_by call_deep cs + sum_by drawn cs) ≡ total water a.sites a.state + (rained a.day a.sites cs + sum_by poured cs)
  pub rain_told : sum_by told_rain cs ≡ rained a.day a.sites cs
  pub unit_rain : (i : ℕ) → i < length a.state.units → sum_by (λ c. (unit_in i c).rain) cs ≡ rained_at a.day (get_or a.sites i site0).station cs
  pub unit : (i : ℕ) (z : S) → i < length a.state.units → water (slice_index_or b.state.units i z) + sum_by (λ c. unit_loss (unit_in i c)) cs ≡ water (slice_index_or a.state.units i z) + rained_at a.day (get_or a.sites i site0).station cs
  pub reach : (j : ℕ) → j < length a.state.reaches → stored_in b j + (sum_by (λ c. reach_loss (reach_in j c)) cs + sum_by (drawn_from j) cs) ≡ stored_in a j + (sum_by (λ c. (reach_in j c).inflow) cs + sum_by (poured_to j) cs)

-- every list of calls balances
abbrev pub Balances : {S : Type 0} → (S → ℕ) → (S → ℕ → ℕ → Day → S → Flows → Type 0) → Type 0
Balances {S} water turns = (a b : View S) (cs : List Call) → History water turns a cs b → Balanced water a cs b
