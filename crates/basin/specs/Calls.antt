-- The three calls on a basin: when each is refused, and what it leaves. Assumes nothing.
use Rattle.std.specs.Prelude.{◌≡◌, ℕ, ◌+◌, ◌-◌, ◌<◌, ◌&&◌, List, [], ◌∷◌, length, get_or, Some, None, Ok, Err, Option, Result, ◌==◌, nat_le, nat_lt, slice_index_or, slice_set}
use Rattle.refusals.specs.Refusals.{Refusal, refuse, basin_refusal}
use Rattle.refusals.specs.declared.basin.BasinFault.{BasinFault}
use Rattle.weather.specs.Meaning.{Meaning}
use Rattle.weather.specs.declared.day.Day.{Day}
use Rattle.stores.specs.declared.flows.Flows.{Flows}
use Rattle.network.specs.Records.{reach0, unit0, flow0}
use Rattle.network.specs.declared.flows.UnitFlow.{UnitFlow}
use Rattle.network.specs.declared.flows.ReachFlow.{ReachFlow}
use Rattle.basin.specs.declared.answer.Answer.{Answer}
use Rattle.basin.specs.declared.basin.Basin.{Basin}
use Rattle.basin.specs.Tables.{View, sites_of, state_of, or_else, refused_unless, refused_by, lengths_fit, tables_fault}
use Rattle.basin.specs.Limits.{limit_fault, no_rain}
use Rattle.basin.specs.Run.{Ran, only_stop}

-- a basin as plain lists
abbrev pub view : {S : Type 0} → Basin S → View S
view b = record { sites = sites_of b.tables; state = state_of b.tables; day = b.day }

-- a call, with the weather that its source means and what it answered; a run with its flow lists before and after
pub data Call : Type 0 where
  run : (m : Meaning) (n : ℕ) (us : List UnitFlow) (rs : List ReachFlow) (us' : List UnitFlow) (rs' : List ReachFlow) (r : Answer) → Call
  pour : (j amount : ℕ) (r : Result (Unit {0}) BasinFault) → Call
  draw : (j amount : ℕ) (r : Result (Unit {0}) BasinFault) → Call

-- ---- run
-- 51 to 54, and 56 for the number of days; the flow lists have the lengths of their tables
abbrev pub run_fault : {S : Type 0} → View S → ℕ → ℕ → ℕ → Option Refusal
run_fault a unit_flows reach_flows n =
    or_else (tables_fault (lengths_fit (length a.sites) (length a.state.units) (length a.state.reaches) && (unit_flows == length a.sites && reach_flows == length a.state.reaches)) a.sites a.state.reaches)
    (refused_unless (nat_le n 3660) (refuse 56 0))

-- 58 and 59 at the start, without rain
abbrev pub start_fault : {S : Type 0} → (S → ℕ) → View S → Option Refusal
start_fault water a = limit_fault water no_rain 0 a.sites a.state

-- a run refused at its start: all is 0 but the stop, and the basin is as it was
pub record Unstarted {S : Type 0} (e : Refusal) (a b : View S) (r : Answer) : Type 0 where
  pub why : BasinFault
  pub why_is : basin_refusal why ≡ e
  pub nothing_else : r ≡ only_stop why
  pub same : b ≡ a

-- a flow list of zeros
abbrev pub Cleared : {X : Type 0} → X → List X → List X → Type 0
Cleared x xs ys = (length ys ≡ length xs) × ((k : ℕ) → k < length ys → slice_index_or ys k x ≡ x)

-- a run refused by its tables or numbers leaves both lists
pub record Denied {S : Type 0} (e : Refusal) (us us' : List UnitFlow) (rs rs' : List ReachFlow) (r : Answer) (a b : View S) : Type 0 where
  pub not_started : Unstarted e a b r
  pub unit_list : us' ≡ us
  pub reach_list : rs' ≡ rs

-- one refused by a limit writes them as zeros
pub record OverLimit {S : Type 0} (e : Refusal) (us us' : List UnitFlow) (rs rs' : List ReachFlow) (r : Answer) (a b : View S) : Type 0 where
  pub not_started : Unstarted e a b r
  pub unit_list : Cleared unit0 us us'
  pub reach_list : Cleared flow0 rs rs'

-- a run that starts
pub record Started {S : Type 0} (water : S → ℕ) (turns : S → ℕ → ℕ → Day → S → Flows → Type 0) (m : Meaning) (n : ℕ) (us us' : List UnitFlow) (rs rs' : List ReachFlow) (r : Answer) (a b : View S) : Type 0 where
  pub ran : Ran water turns m a.day n a.sites a.state b.state us' rs' r
  pub unit_list : length us' ≡ length us
  pub reach_list : length rs' ≡ length rs
  pub sites : b.sites ≡ a.sites
  pub day : b.day ≡ a.day + r.days

-- by what the tables and numbers, and then the limits, refuse
abbrev pub RunBy : {S : Type 0} → Option Refusal → Option Refusal → (S → ℕ) → (S → ℕ → ℕ → Day → S → Flows → Type 0) → Meaning → ℕ → List UnitFlow → List UnitFlow → List ReachFlow → List ReachFlow → Answer → View S → View S → Type 0
RunBy (Some e) limits water turns m n us us' rs rs' r a b = Denied e us us' rs rs' r a b
RunBy None (Some e) water turns m n us us' rs rs' r a b = OverLimit e us us' rs rs' r a b
RunBy None None water turns m n us us' rs rs' r a b = Started water turns m n us us' rs rs' r a b

-- ---- pour and draw
-- the reach j holds x, and nothing else is changed
abbrev pub filled : {S : Type 0} → ℕ → ℕ → View S → View S
filled j x a = record { sites = a.sites; state = record { units = a.state.units; reaches = slice_set a.state.reaches j (record { channel = (get_or a.state.reaches j reach0).channel; stored = x }) }; day = a.day }

-- a refused call leaves the basin
abbrev pub unless : {S : Type 0} → Option Refusal → View S → View S → View S
unless None a b = b
unless (Some e) a b = a

-- the stored water of the reach j
abbrev pub stored_in : {S : Type 0} → View S → ℕ → ℕ
stored_in a j = (get_or a.state.reaches j reach0).stored

-- 51 to 54 for a pour or a draw, 55 for its reach, 56 for its amount
abbrev pub amount_fault : {S : Type 0} → View S → ℕ → ℕ → Option Refusal
amount_fault a j amount =
    or_else (tables_fault (lengths_fit (length a.sites) (length a.state.units) (length a.state.reaches)) a.sites a.state.reaches)
    (or_else (refused_unless (nat_lt j (length a.state.reaches)) (refuse 55 j))
    (refused_unless (nat_le amount 1000000000000000) (refuse 56 0)))

-- then both limits with the pour
abbrev pub pour_fault : {S : Type 0} → (S → ℕ) → View S → ℕ → ℕ → Option Refusal
pour_fault water a j amount = or_else (amount_fault a j amount) (limit_fault water no_rain amount a.sites a.state)

-- or the stored water for the draw
abbrev pub draw_fault : {S : Type 0} → View S → ℕ → ℕ → Option Refusal
draw_fault a j amount = or_else (amount_fault a j amount) (refused_unless (nat_le amount (stored_in a j)) (refuse 60 j))

-- the reach j exists, and x is the water that it is to hold
abbrev pub Holding : {S : Type 0} → View S → ℕ → ℕ → Result ℕ BasinFault → Type 0
Holding a j x (Ok y) = (j < length a.state.reaches) × (y ≡ x)
Holding a j x (Err e) = Unit {0}

-- a pour or a draw: refused exactly so, and the basin after it
pub record Amounted {S : Type 0} (fault : Option Refusal) (j x : ℕ) (r : Result (Unit {0}) BasinFault) (a b : View S) : Type 0 where
  pub refused : refused_by r ≡ fault
  pub after : b ≡ unless fault a (filled j x a)

-- ---- what a call makes of a basin
abbrev pub Step : {S : Type 0} → (S → ℕ) → (S → ℕ → ℕ → Day → S → Flows → Type 0) → View S → Call → View S → Type 0
Step water turns a (run m n us rs us' rs' r) b = RunBy (run_fault a (length us) (length rs) n) (start_fault water a) water turns m n us us' rs rs' r a b
Step water turns a (pour j amount r) b = Amounted (pour_fault water a j amount) j (stored_in a j + amount) r a b
Step water turns a (draw j amount r) b = Amounted (draw_fault a j amount) j (stored_in a j - amount) r a b

-- calls one after another, the newest first
pub data History {S : Type 0} (water : S → ℕ) (turns : S → ℕ → ℕ → Day → S → Flows → Type 0) (a : View S) : List Call → View S → Type 0 where
  fresh : History water turns a [] a
  then : {cs : List Call} {b c : View S} {call : Call} → History water turns a cs b → Step water turns b call c → History water turns a (call ∷ cs) c
