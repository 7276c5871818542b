-- Days one after another: what they sum to, how much that is at most, and what was asked. Assumes nothing.
use Rattle.std.proofs.Common.{◌≡◌, ℕ, suc, ◌+◌, ◌*◌, ◌^◌, ◌<◌, ◌≤◌, Bool, true, false, cond, ltb, leb, List, [], ◌∷◌, length, get_or, Some, None, Ok, Err, sum_by, Option, Result, sym, refl, ap, ◌∙◌, subst, add-mul, arith, rules}
use Rattle.std.proofs.lemmas.List.{get_or_default}
use Rattle.std.specs.Result.{IsOk}
use Rattle.std.proofs.lemmas.Bool.{ltb-true, le-leb}
use Rattle.refusals.specs.Refusals.{Refusal, refuse, refuse_at, basin_refusal}
use Rattle.refusals.specs.declared.basin.BasinFault.{BasinFault}
use Rattle.weather.specs.Days.{Figures}
use Rattle.weather.specs.Meaning.{Meaning, seen, asked}
use Rattle.weather.specs.declared.day.Day.{Day}
use Rattle.stores.specs.Meaning.{limit}
use Rattle.stores.specs.declared.flows.Flows.{Flows}
use Rattle.network.specs.Flows.{UnitsFit, ReachesFit}
use Rattle.network.specs.Records.{unit0, flow0}
use Rattle.network.specs.declared.site.Site.{Site}
use Rattle.network.specs.declared.flows.UnitFlow.{UnitFlow}
use Rattle.network.specs.declared.flows.ReachFlow.{ReachFlow}
use Rattle.basin.specs.declared.answer.Sums.{Sums}
use Rattle.basin.specs.Tables.{State, or_else, refused_unless}
use Rattle.basin.specs.Limits.{over_area, total, unit_fault, limit_fault, most, no_rain}
use Rattle.basin.specs.Questions.{questions, site_rain, rain_volume}
use Rattle.basin.specs.Day.{Moved, DayOf}
use Rattle.basin.specs.Run.{Days, none, more, Going, ReadingsWithin, plus, SumsFit, nothing, sums_of, unit_plus, reach_plus, sums_over}
use Rattle.basin.specs.Loops.{Sound, Held, Counted, UnitAtMost, ReachAtMost, SumsAtMost}
use Rattle.basin.proofs.Refusing.{both_none, some_none}
use Rattle.basin.proofs.Steady.{same_day, same_days, sound_same, stream_steady}
use Rattle.basin.proofs.Conserved.{one_of, day_balance, day_rain}
use Rattle.basin.proofs.OneDay.{limits_keep}

-- ---- how much the days move at most
-- each record of n days, and their sums
pub record Bounded (n : ℕ) (us : List UnitFlow) (rs : List ReachFlow) (x : Sums) : Type 0 where
  pub units : (k : ℕ) → k < length us → UnitAtMost (n * limit) (get_or us k unit0)
  pub reaches : (k : ℕ) → k < length rs → ReachAtMost (n * most) (get_or rs k flow0)
  pub sums : SumsAtMost (n * 200000000000000000000000000000000) x

-- an empty record is bounded by nothing
unit_none : (f : UnitFlow) → f ≡ unit0 → UnitAtMost 0 f
unit_none f e = record {
  rain = omega (arith, ap (λ (x : UnitFlow). x.rain) e);
  side = omega (arith, ap (λ (x : UnitFlow). x.side) e);
  vapour = omega (arith, ap (λ (x : UnitFlow). x.vapour) e);
  deep = omega (arith, ap (λ (x : UnitFlow). x.deep) e);
}

reach_none : (f : ReachFlow) → f ≡ flow0 → ReachAtMost 0 f
reach_none f e = record {
  inflow = omega (arith, ap (λ (x : ReachFlow). x.inflow) e);
  outflow = omega (arith, ap (λ (x : ReachFlow). x.outflow) e);
  vapour = omega (arith, ap (λ (x : ReachFlow). x.vapour) e);
  deep = omega (arith, ap (λ (x : ReachFlow). x.deep) e);
}

-- two records that are bounded, and their sum
unit_more : (a b c : ℕ) (f g : UnitFlow) → UnitAtMost a f → UnitAtMost b g → a + b ≤ c → UnitAtMost c (unit_plus f g)
unit_more a b c f g p q h = record { rain = omega arith; side = omega arith; vapour = omega arith; deep = omega arith }

reach_more : (a b c : ℕ) (f g : ReachFlow) → ReachAtMost a f → ReachAtMost b g → a + b ≤ c → ReachAtMost c (reach_plus f g)
reach_more a b c f g p q h = record { inflow = omega arith; outflow = omega arith; vapour = omega arith; deep = omega arith }

sums_more : (a b c : ℕ) (x y : Sums) → SumsAtMost a x → SumsAtMost b y → a + b ≤ c → SumsAtMost c (plus x y)
sums_more a b c x y p q h = record { rain = omega arith; stream = omega arith; vapour = omega arith; deep = omega arith }

-- records that are bounded can be added, place by place
pub units_fit : {a b : ℕ} (fs gs : List UnitFlow) → ((k : ℕ) → k < length fs → UnitAtMost a (get_or fs k unit0)) → ((k : ℕ) → k < length fs → UnitAtMost b (get_or gs k unit0)) → length gs ≡ length fs → a + b < 2 ^ 64 → (k : ℕ) (d : UnitFlow) → k < length fs → UnitsFit (get_or fs k d) (get_or gs k d)
units_fit {a} {b} fs gs p q long h k d l =
    let f = subst (UnitAtMost a) (get_or_default fs k unit0 d l) (p k l) in
    let g = subst (UnitAtMost b) (get_or_default gs k unit0 d (omega arith)) (q k l) in
    record { rain = omega arith; side = omega arith; vapour = omega arith; deep = omega arith }

pub reaches_fit : {a b : ℕ} (fs gs : List ReachFlow) → ((k : ℕ) → k < length fs → ReachAtMost a (get_or fs k flow0)) → ((k : ℕ) → k < length fs → ReachAtMost b (get_or gs k flow0)) → length gs ≡ length fs → a + b < 2 ^ 128 → (k : ℕ) (d : ReachFlow) → k < length fs → ReachesFit (get_or fs k d) (get_or gs k d)
reaches_fit {a} {b} fs gs p q long h k d l =
    let f = subst (ReachAtMost a) (get_or_default fs k flow0 d l) (p k l) in
    let g = subst (ReachAtMost b) (get_or_default gs k flow0 d (omega arith)) (q k l) in
    record { inflow = omega arith; outflow = omega arith; vapour = omega arith; deep = omega arith }

pub sums_fit : {a b : ℕ} {x y : Sums} → SumsAtMost a x → SumsAtMost b y → a + b < 2 ^ 128 → SumsFit x y
sums_fit p q h = record { rain = omega arith; stream = omega arith; vapour = omega arith; deep = omega arith }

-- nothing is moved before the first day
bounded_none : (us : List UnitFlow) (rs : List ReachFlow) → ((k : ℕ) → k < length us → get_or us k unit0 ≡ unit0) → ((k : ℕ) → k < length rs → get_or rs k flow0 ≡ flow0) → Bounded 0 us rs nothing
bounded_none us rs u r = record {
  units = λ k h. unit_none (get_or us k unit0) (u k h);
  reaches = λ k h. reach_none (get_or rs k flow0) (r k h);
  sums = record { rain = omega arith; stream = omega arith; vapour = omega arith; deep = omega arith };
}

-- and each day moves no more than a day can
bounded_more : {n : ℕ} {us us' : List UnitFlow} {rs rs' : List ReachFlow} {x : Sums} (fs : List UnitFlow) (gs : List ReachFlow) (y : Sums) → Bounded n us rs x → length us' ≡ length us → length rs' ≡ length rs →
    ((k : ℕ) → k < length us' → get_or us' k unit0 ≡ unit_plus (get_or us k unit0) (get_or fs k unit0)) →
    ((k : ℕ) → k < length rs' → get_or rs' k flow0 ≡ reach_plus (get_or rs k flow0) (get_or gs k flow0)) →
    ((k : ℕ) → k < length us → UnitAtMost limit (get_or fs k unit0)) →
    ((k : ℕ) → k < length rs → ReachAtMost most (get_or gs k flow0)) →
    SumsAtMost 200000000000000000000000000000000 y → Bounded (n + 1) us' rs' (plus x y)
bounded_more {n} {us} {us'} {rs} {rs'} {x} fs gs y b lu lr u r du dr dy = record {
  units = λ k h. let l : k < length us = omega arith in subst (UnitAtMost ((n + 1) * limit)) (sym (u k h)) (unit_more (n * limit) limit ((n + 1) * limit) (get_or us k unit0) (get_or fs k unit0) (b.units k l) (du k l) (omega arith));
  reaches = λ k h. let l : k < length rs = omega arith in subst (ReachAtMost ((n + 1) * most)) (sym (r k h)) (reach_more (n * most) most ((n + 1) * most) (get_or rs k flow0) (get_or gs k flow0) (b.reaches k l) (dr k l) (omega arith));
  sums = sums_more (n * 200000000000000000000000000000000) 200000000000000000000000000000000 ((n + 1) * 200000000000000000000000000000000) x y b.sums dy (omega arith);
}

module _ {S : Type 0} {water : S → ℕ} {turns : S → ℕ → ℕ → Day → S → Flows → Type 0} {m : Meaning} {ss : List Site} where
  -- what a day moves in a unit keeps to the unit's limit
  pub unit_small : {index : ℕ} {a b : State S} {f : Moved} → DayOf water turns m index ss a b f → (i : ℕ) → i < length a.units → UnitAtMost limit (get_or f.units i unit0)
  unit_small {index} {a} {b} {f} d i h =
      let u = d.unit i (one_of a.units i h) h in
      let is = u.rain_is in
      let room = u.kept.room in
      let balance = u.kept.balance in
      record { rain = omega arith; side = omega arith; vapour = omega arith; deep = omega arith }

  -- a run's sums before the first day
  going_none : {from : ℕ} {a : State S} {us : List UnitFlow} {rs : List ReachFlow} → ((k : ℕ) → k < length us → get_or us k unit0 ≡ unit0) → ((k : ℕ) → k < length rs → get_or rs k flow0 ≡ flow0) → Going water turns m from ss a a us rs 0 nothing
  going_none u r = record { moved = []; days = none; count = refl; sums_are = refl; unit_list = u; reach_list = r }

  -- and after one more
  going_more : {from : ℕ} {a c b : State S} {us us' : List UnitFlow} {rs rs' : List ReachFlow} {n : ℕ} {x : Sums} {f : Moved} →
      Going water turns m from ss a c us rs n x →
      DayOf water turns m (from + n) ss c b f →
      length us' ≡ length us → length rs' ≡ length rs →
      ((k : ℕ) → k < length us' → get_or us' k unit0 ≡ unit_plus (get_or us k unit0) (get_or f.units k unit0)) →
      ((k : ℕ) → k < length rs' → get_or rs' k flow0 ≡ reach_plus (get_or rs k flow0) (get_or f.reaches k flow0)) →
      Going water turns m from ss a b us' rs' (n + 1) (plus x (sums_of ss b.reaches f))
  going_more {from} {a} {c} {b} {us} {us'} {rs} {rs'} {n} {x} {f} go d lu lr u r =
      let stream = stream_steady f.reaches (same_day d) ∙ stream_steady f.reaches (same_days go.days) in
      record {
        moved = f ∷ go.moved;
        days = more go.days (subst (λ (k : ℕ). DayOf water turns m (from + k) ss c b f) go.count d);
        count = omega (arith, go.count);
        sums_are =
            ap (λ (y : Sums). plus y (sums_of ss b.reaches f)) go.sums_are
            ∙ ap (λ (k : ℕ). plus (sums_over ss a.reaches go.moved) (record { rain = over_area (λ g. g.rain) ss f.units + 0; stream = 0 + k; vapour = over_area (λ g. g.vapour) ss f.units + sum_by (λ g. g.vapour) f.reaches; deep = over_area (λ g. g.deep) ss f.units + sum_by (λ g. g.deep) f.reaches })) stream;
        unit_list = λ i h. u i h ∙ ap (λ (g : UnitFlow). unit_plus g (get_or f.units i unit0)) (go.unit_list i (omega arith));
        reach_list = λ j h. r j h ∙ ap (λ (g : ReachFlow). reach_plus g (get_or f.reaches j flow0)) (go.reach_list j (omega arith));
      }

-- ---- a run on its way: d days are accepted, and every question of each is counted
pub record Underway {S : Type 0} (water : S → ℕ) (turns : S → ℕ → ℕ → Day → S → Flows → Type 0) (m : Meaning) (from : ℕ) (ss : List Site) (a b : State S) (us : List UnitFlow) (rs : List ReachFlow) (d readings : ℕ) (x : Sums) : Type 0 where
  pub going : Going water turns m from ss a b us rs d x
  pub sound : Sound (length b.units) ss b.reaches
  pub bounded : Bounded d us rs x
  pub counted : readings ≡ d * (length ss + length b.reaches)

module _ {S : Type 0} {water : S → ℕ} {turns : S → ℕ → ℕ → Day → S → Flows → Type 0} {m : Meaning} {from : ℕ} {ss : List Site} {a : State S} where
  -- before the first day
  pub underway_none : {us : List UnitFlow} {rs : List ReachFlow} → Sound (length a.units) ss a.reaches → ((k : ℕ) → k < length us → get_or us k unit0 ≡ unit0) → ((k : ℕ) → k < length rs → get_or rs k flow0 ≡ flow0) → Underway water turns m from ss a a us rs 0 0 nothing
  underway_none {us} {rs} s u r = record { going = going_none u r; sound = s; bounded = bounded_none us rs u r; counted = omega arith }

  -- after one more
  pub underway_more : {c b : State S} {us us' : List UnitFlow} {rs rs' : List ReachFlow} {d readings readings' : ℕ} {x y : Sums} {f : Moved} (z : Sums) →
      Underway water turns m from ss a c us rs d readings x →
      DayOf water turns m (from + d) ss c b f →
      length us ≡ length ss → length rs ≡ length c.reaches →
      length us' ≡ length us → length rs' ≡ length rs →
      ((k : ℕ) → k < length us' → get_or us' k unit0 ≡ unit_plus (get_or us k unit0) (get_or f.units k unit0)) →
      ((k : ℕ) → k < length rs' → get_or rs' k flow0 ≡ reach_plus (get_or rs k flow0) (get_or f.reaches k flow0)) →
      ((k : ℕ) → k < length f.reaches → ReachAtMost most (get_or f.reaches k flow0)) →
      SumsAtMost 200000000000000000000000000000000 y →
      y ≡ sums_of ss b.reaches f → z ≡ plus x y →
      Counted {X = Unit {0}} (length ss + length c.reaches) readings readings' (Ok tt) →
      Underway water turns m from ss a b us' rs' (d + 1) readings' z
  underway_more {c} {b} {us} {us'} {rs} {rs'} {d} {readings} {readings'} {x} {y} {f} z w day lus lrs lu lr u r small most-sums ye ze counts =
      let s = w.sound in
      let many = s.many in
      let long = day.reach_flows_long in
      let all = counts.all tt refl in
      let was = w.counted in
      let kept = day.reaches_long in
      let places = length ss + length c.reaches in
      let now : (d + 1) * (length ss + length b.reaches) ≡ (d + 1) * places = ap (λ (n : ℕ). (d + 1) * (length ss + n)) kept in
      let one = add-mul d 1 places in
      record {
        going = subst (Going water turns m from ss a b us' rs' (d + 1)) (sym (ze ∙ ap (plus x) ye)) (going_more w.going day lu lr u r);
        sound = sound_same (same_day day) s;
        bounded = subst (Bounded (d + 1) us' rs') (sym ze) (bounded_more f.units f.reaches y w.bounded lu lr u r (λ k h. unit_small day k (omega arith)) (λ k h. small k (omega arith)) most-sums);
        counted = omega arith;
      }

  -- what was asked when all days are done
  pub asked_all : {b : State S} {us : List UnitFlow} {rs : List ReachFlow} {d readings : ℕ} {x : Sums} → Underway water turns m from ss a b us rs d readings x → ReadingsWithin (length ss + length a.reaches) d readings
  asked_all {b} {us} {rs} {d} {readings} w =
      let places = length ss + length a.reaches in
      let same : d * (length ss + length b.reaches) ≡ d * places = ap (λ (n : ℕ). d * (length ss + n)) (same_days w.going.days).reaches in
      let was = w.counted in
      let one = add-mul d 1 places in
      (omega arith, omega arith)

  -- and when a day more was refused
  pub asked_some : {b : State S} {us : List UnitFlow} {rs : List ReachFlow} {d readings readings' : ℕ} {x : Sums} {r : Result (Unit {0}) BasinFault} → Underway water turns m from ss a b us rs d readings x → Counted (length ss + length b.reaches) readings readings' r → ReadingsWithin (length ss + length a.reaches) d readings'
  asked_some {b} {us} {rs} {d} {readings} w counts =
      let places = length ss + length a.reaches in
      let kept = (same_days w.going.days).reaches in
      let same : d * (length ss + length b.reaches) ≡ d * places = ap (λ (n : ℕ). d * (length ss + n)) kept in
      let was = w.counted in
      let least = counts.least in
      let highest = counts.most in
      let one = add-mul d 1 places in
      (omega arith, omega arith)

  -- a count of days by another name
  pub underway_at : {b : State S} {us : List UnitFlow} {rs : List ReachFlow} {d n readings : ℕ} {x : Sums} → Underway water turns m from ss a b us rs d readings x → d ≡ n → Underway water turns m from ss a b us rs n readings x
  underway_at {b} {us} {rs} {d} {n} {readings} {x} w e = subst (λ (k : ℕ). Underway water turns m from ss a b us rs k readings x) e w

-- ---- the limits after the days
-- units that keep to their limit refuse nothing
units_kept : {S : Type 0} (water : S → ℕ) (i : ℕ) (us : List S) → ((k : ℕ) (z : S) → k < length us → water (get_or us k z) ≤ limit) → unit_fault water no_rain i us ≡ None
units_kept water i [] h = refl
units_kept water i (u ∷ us) h =
    let one : water u ≤ limit = h 0 u (omega arith) in
    ap (λ (b : Bool). cond b (unit_fault water no_rain (suc i) us) (Some (refuse 58 i))) (le-leb (water u + 0) limit (omega arith)) ∙ units_kept water (suc i) us (λ k z l. h (suc k) z (omega arith))

-- an index that a station has weather for is one of the source's days
index_there : (m : Meaning) (s i : ℕ) (x : Figures) → asked m s i ≡ Ok x → i < m.days
index_there m s i x e = by_station (ltb s m.stations) e
  where
    no_error : (y : Refusal) → ◌≡◌ {A = Result Figures Refusal} (Err y) (Ok x) → ⊥
    no_error y e = let z : ◌≡◌ {A = ℕ} 0 1 = cc in omega arith

    by_day : (b : Bool) → ltb i m.days ≡ b → cond b (seen s i (m.sky s i)) (Err (refuse_at 32 s i)) ≡ Ok x → i < m.days
    by_day true p e = ltb-true i m.days p
    by_day false p e = absurd (no_error (refuse_at 32 s i) e)

    by_station : (b : Bool) → cond b (cond (ltb i m.days) (seen s i (m.sky s i)) (Err (refuse_at 32 s i))) (Err (refuse_at 31 s i)) ≡ Ok x → i < m.days
    by_station true e = by_day (ltb i m.days) refl e
    by_station false e = absurd (no_error (refuse_at 31 s i) e)

module _ {S : Type 0} {water : S → ℕ} {turns : S → ℕ → ℕ → Day → S → Flows → Type 0} {m : Meaning} {ss : List Site} where
  -- a basin within its limits with the day's rain is within them after the day
  day_within : {index : ℕ} {a b : State S} {f : Moved} → Sound (length a.units) ss a.reaches → DayOf water turns m index ss a b f → limit_fault water no_rain 0 ss b ≡ None
  day_within {index} {a} {b} {f} s d =
      let limits = (both_none (questions m index ss a.reaches) (limit_fault water (site_rain m index ss) (rain_volume m index ss) ss a) d.no_stop).1 in
      let fits = (limits_keep water (site_rain m index ss) (rain_volume m index ss) ss a limits).1 in
      let units = d.units_long in
      let rain = day_rain s d in
      let balance = day_balance s d in
      let kept = units_kept water 0 b.units (λ k z h.
      let at : k < length a.units = omega arith in
      let u = d.unit k z at in
      let room = u.kept.room in
      let left = u.kept.balance in
      omega arith) in
      let least : total water ss b + 0 ≤ most = omega arith in
      ap (λ (q : Option Refusal). or_else q (refused_unless (leb (total water ss b + 0) most) (refuse 59 0))) kept ∙ ap (λ (q : Bool). refused_unless q (refuse 59 0)) (le-leb (total water ss b + 0) most least)

  -- and so after any days
  pub days_within : {from : ℕ} {a b : State S} {t : List Moved} → Sound (length a.units) ss a.reaches → limit_fault water no_rain 0 ss a ≡ None → Days water turns m from ss a t b → limit_fault water no_rain 0 ss b ≡ None
  days_within s e none = e
  days_within s e (more w d) = day_within (sound_same (same_days w) s) d

  -- the day count stays a count of 32 bits, since a source has few days
  pub days_few : {from : ℕ} {a b : State S} {t : List Moved} → Sound (length a.units) ss a.reaches → from ≤ 4294967295 → Days water turns m from ss a t b → from + length t ≤ 4294967295
  days_few s h none = omega arith
  days_few {from} {a} {b} s h (more {t = t} {c = c} w d) =
      let many = (sound_same (same_days w) s).many in
      let some = s.some in
      let at : 0 < length c.units = omega arith in
      let there = index_there m _ _ _ (d.unit 0 (one_of c.units 0 at) at).seen in
      let few = m.some_days.1 in
      omega arith

-- limits that refuse nothing tell the basin's water
pub held_ok : {S : Type 0} (water : S → ℕ) (ss : List Site) (a : State S) (r : Result ℕ BasinFault) → Held water no_rain 0 ss a r → limit_fault water no_rain 0 ss a ≡ None → IsOk r
held_ok water ss a (Ok w) h e = search rules
held_ok water ss a (Err x) h e = absurd (some_none (basin_refusal x) (sym h ∙ e))
