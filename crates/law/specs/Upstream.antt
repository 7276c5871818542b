-- A reach is settled by what drains to it. Assumes nothing.
use Rattle.std.specs.Prelude.{◌≡◌, ℕ, ◌+◌, ◌<◌, ◌⊎◌, List, [], ◌∷◌, length, get_or, Some, Ok, Err, sum_by, slice_index_or}
use Rattle.refusals.specs.declared.basin.BasinFault.{BasinFault}
use Rattle.weather.specs.Meaning.{Meaning, asked}
use Rattle.weather.specs.declared.day.Day.{Day}
use Rattle.stores.specs.declared.flows.Flows.{Flows}
use Rattle.network.specs.Records.{site0, reach0}
use Rattle.network.specs.declared.reach.Reach.{Reach}
use Rattle.network.specs.declared.flows.UnitFlow.{UnitFlow}
use Rattle.network.specs.declared.flows.ReachFlow.{ReachFlow}
use Rattle.basin.specs.declared.answer.Answer.{Answer}
use Rattle.basin.specs.Tables.{View}
use Rattle.basin.specs.Calls.{Call, run, pour, draw, History, stored_in}
use Rattle.basin.specs.Law.{days_of, reach_in}

-- the reach j itself, and the reaches that drain to it
pub data Drains (rs : List Reach) (j : ℕ) : ℕ → Type 0 where
  itself : Drains rs j j
  through : {k l : ℕ} → k < length rs → (get_or rs k reach0).channel.next ≡ Some l → Drains rs j l → Drains rs j k

-- in one basin or in the other
abbrev pub Either : {S T : Type 0} → ℕ → View S → View T → ℕ → Type 0
Either j a a' k = Drains a.state.reaches j k ⊎ Drains a'.state.reaches j k

-- two basins with equal fields in the reach j and in all that drains to it in either; `same` says when two units are equal
pub record Alike {S T : Type 0} (same : S → T → Type 0) (j : ℕ) (a : View S) (a' : View T) : Type 0 where
  pub sites_long : length a'.sites ≡ length a.sites
  pub reaches_long : length a'.state.reaches ≡ length a.state.reaches
  pub day : a'.day ≡ a.day
  pub reach : (k : ℕ) → k < length a.state.reaches → Either j a a' k → slice_index_or a.state.reaches k reach0 ≡ slice_index_or a'.state.reaches k reach0
  pub site : (i : ℕ) → i < length a.sites → Either j a a' (get_or a.sites i site0).reach ⊎ Either j a a' (get_or a'.sites i site0).reach → slice_index_or a.sites i site0 ≡ slice_index_or a'.sites i site0
  pub unit : (i : ℕ) (y : S) (z : T) → i < length a.sites → i < length a.state.units → i < length a'.state.units → Either j a a' (get_or a.sites i site0).reach → same (slice_index_or a.state.units i y) (slice_index_or a'.state.units i z)

-- two sources mean the same weather on n days from the index `from`, for the stations that these sites and reaches name
pub record SameWeather {S T : Type 0} (j : ℕ) (a : View S) (a' : View T) (m m' : Meaning) (from n : ℕ) : Type 0 where
  pub at_sites : (i d : ℕ) → i < length a.sites → d < n → Either j a a' (get_or a.sites i site0).reach → asked m (get_or a.sites i site0).station (from + d) ≡ asked m' (get_or a.sites i site0).station (from + d)
  pub at_reaches : (k d : ℕ) → k < length a.state.reaches → d < n → Either j a a' k → asked m (get_or a.state.reaches k reach0).channel.station (from + d) ≡ asked m' (get_or a.state.reaches k reach0).channel.station (from + d)

-- one list of calls for two basins, each run with a source for each: equally many days accepted, the same pours and draws denied
pub data Paired {S T : Type 0} (j : ℕ) (a : View S) (a' : View T) : List Call → List Call → Type 0 where
  no_calls : Paired j a a' [] []
  both_run : {cs cs' : List Call} {m m' : Meaning} {n : ℕ} {us us' vs vs' : List UnitFlow} {rs rs' ts ts' : List ReachFlow} {r q : Answer} → Paired j a a' cs cs' → q.days ≡ r.days → SameWeather j a a' m m' (a.day + sum_by days_of cs) r.days → Paired j a a' (run m n us rs us' rs' r ∷ cs) (run m' n vs ts vs' ts' q ∷ cs')
  both_pour : {cs cs' : List Call} (k x : ℕ) {u u' : Unit {0}} → Paired j a a' cs cs' → Paired j a a' (pour k x (Ok u) ∷ cs) (pour k x (Ok u') ∷ cs')
  no_pour : {cs cs' : List Call} (k x : ℕ) {e e' : BasinFault} → Paired j a a' cs cs' → Paired j a a' (pour k x (Err e) ∷ cs) (pour k x (Err e') ∷ cs')
  both_draw : {cs cs' : List Call} (k x : ℕ) {u u' : Unit {0}} → Paired j a a' cs cs' → Paired j a a' (draw k x (Ok u) ∷ cs) (draw k x (Ok u') ∷ cs')
  no_draw : {cs cs' : List Call} (k x : ℕ) {e e' : BasinFault} → Paired j a a' cs cs' → Paired j a a' (draw k x (Err e) ∷ cs) (draw k x (Err e') ∷ cs')

-- the outflow of the reach j in each call
abbrev pub SameOutflow : ℕ → List Call → List Call → Type 0
SameOutflow j [] [] = Unit {0}
SameOutflow j [] (c ∷ cs) = ⊥
SameOutflow j (c ∷ cs) [] = ⊥
SameOutflow j (c ∷ cs) (c' ∷ cs') = ((reach_in j c).outflow ≡ (reach_in j c').outflow) × SameOutflow j cs cs'

-- the reach's water after the calls, and its outflow in each run, are equal
abbrev pub FollowsUpstream : {S T : Type 0} → (S → T → Type 0) → (S → ℕ) → (S → ℕ → ℕ → Day → S → Flows → Type 0) → (T → ℕ) → (T → ℕ → ℕ → Day → T → Flows → Type 0) → Type 0
FollowsUpstream {S} {T} same water turns water' turns' =
    (j : ℕ) (a b : View S) (a' b' : View T) (cs cs' : List Call) → j < length a.state.reaches → Alike same j a a' → Paired j a a' cs cs' →
    History water turns a cs b → History water' turns' a' cs' b' → (stored_in b j ≡ stored_in b' j) × SameOutflow j cs cs'

-- units of two kinds are never equal: basins of two kinds are alike only where no unit drains
abbrev pub Never : {S T : Type 0} → S → T → Type 0
Never s t = ⊥
