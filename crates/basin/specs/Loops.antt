-- What the steps of a day and of a run promise each other. Assumes nothing.
use Rattle.std.specs.Prelude.{◌≡◌, ℕ, zero, suc, ◌+◌, ◌*◌, ◌<◌, ◌≤◌, List, [], ◌∷◌, length, get_or, take, Some, None, Ok, Err, Option, Result, slice_index, slice_index_or, slice_set}
use Rattle.refusals.specs.Refusals.{Refusal, basin_refusal}
use Rattle.refusals.specs.declared.basin.BasinFault.{BasinFault}
use Rattle.weather.specs.Days.{figures}
use Rattle.weather.specs.Meaning.{Meaning, asked}
use Rattle.weather.specs.declared.day.Day.{Day}
use Rattle.stores.specs.Meaning.{Kept, limit}
use Rattle.stores.specs.declared.flows.Flows.{Flows}
use Rattle.network.specs.Records.{site0, reach0, unit0, flow0}
use Rattle.network.specs.declared.site.Site.{Site}
use Rattle.network.specs.declared.reach.Reach.{Reach}
use Rattle.network.specs.declared.flows.UnitFlow.{UnitFlow}
use Rattle.network.specs.declared.flows.ReachFlow.{ReachFlow}
use Rattle.basin.specs.declared.answer.Sums.{Sums}
use Rattle.basin.specs.declared.answer.Answer.{Answer}
use Rattle.basin.specs.declared.tables.Tables.{Tables}
use Rattle.basin.specs.Tables.{State, sites_of, state_of}
use Rattle.basin.specs.Limits.{over_area, unit_water, unit_fault, limit_fault, total, most}
use Rattle.basin.specs.Questions.{site_questions, reach_questions, place_questions, demand_at, day_stop}
use Rattle.basin.specs.Day.{flows_of}
use Rattle.basin.specs.Run.{Ran, only_stop}

-- ---- tables that fit together
-- the next reach, if there is one, lies further on
abbrev pub Ahead : Option ℕ → ℕ → ℕ → Type 0
Ahead None j n = Unit {0}
Ahead (Some k) j n = (j < k) × (k < n)

-- as many units as sites, every reach that is named exists, and a next one lies further on
pub record Sound (units : ℕ) (ss : List Site) (rs : List Reach) : Type 0 where
  pub some : 1 ≤ length ss
  pub few : length ss ≤ 1024
  pub many : units ≡ length ss
  pub few_reaches : length rs ≤ 256
  pub site : (i : ℕ) → i < length ss → (get_or ss i site0).reach < length rs
  pub next : (j : ℕ) → j < length rs → Ahead (get_or rs j reach0).channel.next j (length rs)

-- the tables of a basin that fit together
abbrev pub SoundTables : {S : Type 0} → Tables S → Type 0
SoundTables t = Sound (length (state_of t).units) (sites_of t) (state_of t).reaches

-- how many questions a day has
abbrev pub places : {S : Type 0} → Tables S → ℕ
places t = length (sites_of t) + length (state_of t).reaches

-- the flow lists with which a run begins: a record for each place, and all of it zero
pub record Blank {S : Type 0} (t : Tables S) (us : List UnitFlow) (rs : List ReachFlow) : Type 0 where
  pub units_long : length us ≡ length (sites_of t)
  pub reaches_long : length rs ≡ length (state_of t).reaches
  pub units : (k : ℕ) → k < length us → slice_index_or us k unit0 ≡ unit0
  pub reaches : (k : ℕ) → k < length rs → slice_index_or rs k flow0 ≡ flow0

-- ---- questions
-- every site's question is answered, and the weather stands in the table
pub record SitesAsked (m : Meaning) (index : ℕ) (ss : List Site) (ws : List Day) : Type 0 where
  pub no_fault : site_questions m index 0 ss ≡ None
  pub weather : (i : ℕ) (z : Day) → i < length ss → asked m (get_or ss i site0).station index ≡ Ok (figures (slice_index_or ws i z))

-- answered, or the first that is refused
abbrev pub SitesAnswered : Meaning → ℕ → List Site → List Day → Result (Unit {0}) BasinFault → Type 0
SitesAnswered m index ss ws (Ok _) = SitesAsked m index ss ws
SitesAnswered m index ss ws (Err e) = site_questions m index 0 ss ≡ Some (basin_refusal e)

-- the same of the reaches, of which the demand is kept
pub record ReachesAsked (m : Meaning) (index : ℕ) (rs : List Reach) (ds : List ℕ) : Type 0 where
  pub no_fault : reach_questions m index 0 rs ≡ None
  pub demands : (j : ℕ) → j < length rs → demand_at m (get_or rs j reach0).channel.station index ≡ slice_index ds j

abbrev pub ReachesAnswered : Meaning → ℕ → List Reach → List ℕ → Result (Unit {0}) BasinFault → Type 0
ReachesAnswered m index rs ds (Ok _) = ReachesAsked m index rs ds
ReachesAnswered m index rs ds (Err e) = reach_questions m index 0 rs ≡ Some (basin_refusal e)

-- what is kept of the weather at a station
pub record KeptAt {K : Type 0} (kept : Day → K) (m : Meaning) (station index : ℕ) (k : K) : Type 0 where
  pub day : Day
  pub seen : asked m station index ≡ Ok (figures day)
  pub is : k ≡ kept day

-- every question of places that each have a station, numbered from `first` on, is answered, and what is kept stands in the table
pub record PlacesAsked {P K : Type 0} (station : P → ℕ) (kept : Day → K) (first : ℕ) (m : Meaning) (index : ℕ) (ps : List P) (ks : List K) : Type 0 where
  pub no_fault : place_questions station first m index 0 ps ≡ None
  pub told : (i : ℕ) (p : P) (k : K) → i < length ps → KeptAt kept m (station (slice_index_or ps i p)) index (slice_index_or ks i k)

abbrev pub PlacesAnswered : {P K : Type 0} → (P → ℕ) → (Day → K) → ℕ → Meaning → ℕ → List P → List K → Result (Unit {0}) BasinFault → Type 0
PlacesAnswered station kept first m index ps ks (Ok _) = PlacesAsked station kept first m index ps ks
PlacesAnswered station kept first m index ps ks (Err e) = place_questions station first m index 0 ps ≡ Some (basin_refusal e)

-- how a count moves by at most n questions: by all of them where all were answered
pub record Counted {X : Type 0} (n before after : ℕ) (r : Result X BasinFault) : Type 0 where
  pub least : before ≤ after
  pub most : after ≤ before + n
  pub all : (x : X) → r ≡ Ok x → after ≡ before + n

-- ---- limits
-- the rain of the unit at a place; a place beyond the list has none
abbrev pub rain_in : List Day → ℕ → ℕ
rain_in [] i = 0
rain_in (w ∷ ws) zero = w.rain
rain_in (w ∷ ws) (suc i) = rain_in ws i

-- the rain of all units, in millilitres
abbrev pub rain_fallen : List Site → List Day → ℕ
rain_fallen ss ws = over_area (λ (w : Day). w.rain) ss ws

-- the water of the units, where each keeps its limit
abbrev pub UnitsHeld : {S : Type 0} → (S → ℕ) → (ℕ → ℕ) → List Site → List S → Result ℕ BasinFault → Type 0
UnitsHeld water rain ss us (Ok w) = (unit_fault water rain 0 us ≡ None) × (w ≡ unit_water water ss us)
UnitsHeld water rain ss us (Err e) = unit_fault water rain 0 us ≡ Some (basin_refusal e)

-- a number that is told is at most b
abbrev pub AtMost : ℕ → Result ℕ BasinFault → Type 0
AtMost b (Ok w) = w ≤ b
AtMost b (Err e) = Unit {0}

-- the basin's water, where all limits are kept
abbrev pub Held : {S : Type 0} → (S → ℕ) → (ℕ → ℕ) → ℕ → List Site → State S → Result ℕ BasinFault → Type 0
Held water rain added ss a (Ok w) = (limit_fault water rain added ss a ≡ None) × (w ≡ total water ss a)
Held water rain added ss a (Err e) = limit_fault water rain added ss a ≡ Some (basin_refusal e)

-- ---- a day that is accepted, before anything turns
pub record Ready {S : Type 0} (water : S → ℕ) (m : Meaning) (index : ℕ) (ss : List Site) (a : State S) (ws : List Day) (ds : List ℕ) : Type 0 where
  pub no_stop : day_stop water m index ss a ≡ None
  pub weather : (i : ℕ) (z : Day) → i < length ss → asked m (get_or ss i site0).station index ≡ Ok (figures (slice_index_or ws i z))
  pub demands : (j : ℕ) → j < length a.reaches → demand_at m (get_or a.reaches j reach0).channel.station index ≡ slice_index ds j
  pub room : (i : ℕ) (z : S) → i < length a.units → water (slice_index_or a.units i z) + rain_in ws i ≤ limit
  pub fits : total water ss a + rain_fallen ss ws ≤ most

-- accepted, or why not
abbrev pub Accepted : {S : Type 0} → (S → ℕ) → Meaning → ℕ → List Site → State S → List Day → List ℕ → Result (Unit {0}) BasinFault → Type 0
Accepted water m index ss a ws ds (Ok _) = Ready water m index ss a ws ds
Accepted water m index ss a ws ds (Err e) = day_stop water m index ss a ≡ Some (basin_refusal e)

-- the same of the tables of a basin, where the first of the weather is that of the sites and the first demands those of the reaches
abbrev pub AcceptedIn : {S : Type 0} → (S → ℕ) → Meaning → ℕ → Tables S → List Day → List ℕ → Result (Unit {0}) BasinFault → Type 0
AcceptedIn water m index t ws ds r = Accepted water m index (sites_of t) (state_of t) (take (length (sites_of t)) ws) (take (length (state_of t).reaches) ds) r

-- ---- turns
-- a unit turned with the day w, and its day's record
pub record TurnedIn {S : Type 0} (water : S → ℕ) (turns : S → ℕ → ℕ → Day → S → Flows → Type 0) (w : Day) (u v : S) (f : UnitFlow) : Type 0 where
  pub rain_is : f.rain ≡ w.rain
  pub kept : Kept (water u) w.rain w.demand (water v) (flows_of f)
  pub turned : turns u w.rain w.demand w v (flows_of f)

-- ---- routing
-- the inflow of the next reach, one outflow more
abbrev pub passed : Option ℕ → ℕ → List ReachFlow → List ReachFlow
passed None x fs = fs
passed (Some k) x fs = slice_set fs k (record { inflow = (get_or fs k flow0).inflow + x; outflow = (get_or fs k flow0).outflow; vapour = (get_or fs k flow0).vapour; deep = (get_or fs k flow0).deep })

-- all the inflow
abbrev pub due : List ReachFlow → ℕ
due [] = 0
due (f ∷ fs) = f.inflow + due fs

-- ---- sums that fit
-- bounds that no sum of a basin passes: a figure of all units over their areas, the stored water of all reaches
abbrev pub area_sums_most : ℕ
area_sums_most = 1024 * 18446744073709551616

abbrev pub stored_most : ℕ
stored_most = 256 * 18446744073709551616

-- the sums of the units and of the reaches on a day, and of both together
abbrev pub unit_sums_most : ℕ
unit_sums_most = 100000000000000000000000000000000

abbrev pub reach_sums_most : ℕ
reach_sums_most = 256000000000000000000

abbrev pub day_sums_most : ℕ
day_sums_most = 200000000000000000000000000000000

-- readings, and readings before a day's questions
abbrev pub readings_most : ℕ
readings_most = 1000000000000

abbrev pub readings_before : ℕ
readings_before = 900000000000

-- each figure of a record is at most b
pub record UnitAtMost (b : ℕ) (f : UnitFlow) : Type 0 where
  pub rain : f.rain ≤ b
  pub side : f.side ≤ b
  pub vapour : f.vapour ≤ b
  pub deep : f.deep ≤ b

pub record ReachAtMost (b : ℕ) (f : ReachFlow) : Type 0 where
  pub inflow : f.inflow ≤ b
  pub outflow : f.outflow ≤ b
  pub vapour : f.vapour ≤ b
  pub deep : f.deep ≤ b

-- each record of the reaches' flow list is so
abbrev pub EachAtMost : ℕ → List ReachFlow → Type 0
EachAtMost b fs = (k : ℕ) → k < length fs → ReachAtMost b (slice_index_or fs k flow0)

pub record SumsAtMost (b : ℕ) (x : Sums) : Type 0 where
  pub rain : x.rain ≤ b
  pub stream : x.stream ≤ b
  pub vapour : x.vapour ≤ b
  pub deep : x.deep ≤ b

-- ---- a run over the tables of a basin, its flow lists cleared
pub record Standing {S : Type 0} (e : Refusal) (a b : State S) (us us' : List UnitFlow) (rs rs' : List ReachFlow) (r : Answer) : Type 0 where
  pub why : BasinFault
  pub why_is : basin_refusal why ≡ e
  pub nothing_else : r ≡ only_stop why
  pub same : b ≡ a
  pub unit_list : us' ≡ us
  pub reach_list : rs' ≡ rs

-- by what the limits refuse at the start
abbrev pub RanBy : {S : Type 0} → Option Refusal → (S → ℕ) → (S → ℕ → ℕ → Day → S → Flows → Type 0) → Meaning → ℕ → ℕ → List Site → State S → State S → List UnitFlow → List UnitFlow → List ReachFlow → List ReachFlow → Answer → Type 0
RanBy (Some e) water turns m from n ss a b us us' rs rs' r = Standing e a b us us' rs rs' r
RanBy None water turns m from n ss a b us us' rs rs' r = Ran water turns m from n ss a b us' rs' r
