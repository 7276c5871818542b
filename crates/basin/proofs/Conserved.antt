-- Accepted days keep the water of a basin, of each unit and of each reach. Assumes nothing.
use Rattle.std.proofs.Common.{◌≡◌, ℕ, ◌+◌, ◌-◌, ◌*◌, ◌<◌, ◌≤◌, min, List, [], ◌∷◌, length, get_or, sum_by, Option, sym, refl, ap, ◌∙◌, subst, arith}
use Rattle.std.proofs.lemmas.List.{get_or_default}
use Rattle.fixed.specs.Shares.{part_of, part_le}
use Rattle.weather.specs.Meaning.{Meaning}
use Rattle.weather.specs.declared.day.Day.{Day}
use Rattle.stores.specs.declared.flows.Flows.{Flows}
use Rattle.network.specs.Records.{site0, reach0, unit0, flow0}
use Rattle.network.specs.Routing.{ReachDay, arriving, gross_of, reach_flow, sides}
use Rattle.network.specs.declared.site.Site.{Site}
use Rattle.network.specs.declared.reach.Reach.{Reach}
use Rattle.network.specs.declared.flows.UnitFlow.{UnitFlow}
use Rattle.network.specs.declared.flows.ReachFlow.{ReachFlow}
use Rattle.basin.specs.Tables.{State}
use Rattle.basin.specs.Limits.{reach_water, total}
use Rattle.basin.specs.Day.{Moved, UnitDay, DayOf}
use Rattle.basin.specs.Questions.{rain_of, rain_at, rain_volume}
use Rattle.basin.specs.Run.{Days, none, more, sums_of, sums_over, unit_over, reach_over}
use Rattle.basin.specs.Law.{unit_loss, reach_loss, rain_over, rain_over_at}
use Rattle.basin.specs.Loops.{Ahead, Sound}
use Rattle.basin.proofs.Steady.{same_days, sound_same, stream_steady}
use Rattle.basin.proofs.Totals.{sum_to, sum_add, sum_ext, list_sum_to, reach_sum, sides_all, arriving_all, units_balance}
use Rattle.basin.proofs.Areas.{over_area_rain}

-- what leaves a reach is the gross outflow, divided in three
flow_divides : (inflow demand : ℕ) (r : Reach) → (reach_flow inflow demand r).outflow + (reach_flow inflow demand r).vapour + (reach_flow inflow demand r).deep ≡ gross_of r.channel (r.stored + inflow)
flow_divides inflow demand r =
    divided (gross_of r.channel (r.stored + inflow)) r.channel.loss (part_of (demand * r.channel.surface) r.channel.evaporation.millionths)
  where
    divided : (gross loss drunk : ℕ) → (gross - min loss gross - min drunk (gross - min loss gross)) + min drunk (gross - min loss gross) + min loss gross ≡ gross
    divided gross loss drunk = omega arith

-- a reach over a day: what it holds after and what left it is what it held and what came
pub reach_balance : {inflow demand : ℕ} {r s : Reach} {f : ReachFlow} → ReachDay inflow demand r s f → s.stored + (f.outflow + f.vapour + f.deep) ≡ r.stored + inflow
reach_balance {inflow} {demand} {r} {s} {f} d =
    let gross = gross_of r.channel (r.stored + inflow) in
    let most : gross ≤ r.stored + inflow = part_le (r.stored + inflow) r.channel.outflow.millionths r.channel.outflow.within in
    let left : f.outflow + f.vapour + f.deep ≡ gross = ap (λ (x : ReachFlow). x.outflow + x.vapour + x.deep) d.flow_is ∙ flow_divides inflow demand r in
    let kept : s.stored ≡ r.stored + inflow - gross = ap (λ (x : Reach). x.stored) d.after_is in
    omega arith

-- and its inflow is written down
pub reach_came : {inflow demand : ℕ} {r s : Reach} {f : ReachFlow} → ReachDay inflow demand r s f → f.inflow ≡ inflow
reach_came d = ap (λ (x : ReachFlow). x.inflow) d.flow_is

-- a unit over a day: what it holds after and what left it is what it held and its rain
unit_balance : {S : Type 0} {water : S → ℕ} {turns : S → ℕ → ℕ → Day → S → Flows → Type 0} {m : Meaning} {station index : ℕ} {u v : S} {f : UnitFlow} → UnitDay water turns m station index u v f → water v + unit_loss f ≡ water u + f.rain
unit_balance d = omega (arith, d.kept.balance, d.rain_is)

-- and its rain is what the source means
pub unit_rain : {S : Type 0} {water : S → ℕ} {turns : S → ℕ → ℕ → Day → S → Flows → Type 0} {m : Meaning} {station index : ℕ} {u v : S} {f : UnitFlow} → UnitDay water turns m station index u v f → f.rain ≡ rain_at m station index
unit_rain d = d.rain_is ∙ sym (ap rain_of d.seen)

-- an element of a list that has one
pub one_of : {X : Type 0} (xs : List X) (i : ℕ) → i < length xs → X
one_of [] i h = absurd (let z : ⊥ = omega arith in z)
one_of (x ∷ xs) i h = x

module _ {S : Type 0} {water : S → ℕ} {turns : S → ℕ → ℕ → Day → S → Flows → Type 0} {m : Meaning} {index : ℕ} {ss : List Site} where
  -- the basin over a day: what it holds after and what left it is what it held and its rain
  pub day_balance : {a b : State S} {f : Moved} → Sound (length a.units) ss a.reaches → DayOf water turns m index ss a b f → total water ss b + ((sums_of ss a.reaches f).stream + (sums_of ss a.reaches f).vapour + (sums_of ss a.reaches f).deep) ≡ total water ss a + (sums_of ss a.reaches f).rain
  day_balance {a} {b} {f} s d =
      let n = length a.reaches in
      let us = units_balance water ss a.units b.units f.units d.units_long d.flows_long (λ i z h. unit_balance (d.unit i z h)) in
      let came = λ (j : ℕ). sides j ss f.units + arriving j a.reaches f.reaches in
      let was = λ (j : ℕ). (get_or a.reaches j reach0).stored in
      let is = λ (j : ℕ). (get_or b.reaches j reach0).stored in
      let out = λ (j : ℕ). (get_or f.reaches j flow0).outflow in
      let vapour = λ (j : ℕ). (get_or f.reaches j flow0).vapour in
      let deep = λ (j : ℕ). (get_or f.reaches j flow0).deep in
      let sd = sides_all n ss f.units s.site in
      let ar = arriving_all n a.reaches f.reaches d.reach_flows_long (λ j k h q. (subst (λ (o : Option ℕ). Ahead o j n) q (s.next j h)).1) in
      let wa = reach_sum a.reaches ∙ list_sum_to (λ r. r.stored) reach0 a.reaches in
      let wb : reach_water b.reaches ≡ sum_to n is = reach_sum b.reaches ∙ list_sum_to (λ r. r.stored) reach0 b.reaches ∙ ap (λ k. sum_to k is) d.reaches_long in
      let wo : sum_by (λ x. x.outflow) f.reaches ≡ sum_to n out = list_sum_to (λ x. x.outflow) flow0 f.reaches ∙ ap (λ k. sum_to k out) d.reach_flows_long in
      let wv : sum_by (λ x. x.vapour) f.reaches ≡ sum_to n vapour = list_sum_to (λ x. x.vapour) flow0 f.reaches ∙ ap (λ k. sum_to k vapour) d.reach_flows_long in
      let wd : sum_by (λ x. x.deep) f.reaches ≡ sum_to n deep = list_sum_to (λ x. x.deep) flow0 f.reaches ∙ ap (λ k. sum_to k deep) d.reach_flows_long in
      let two = sum_add n out vapour in
      let three = sum_add n (λ j. out j + vapour j) deep in
      let left = sum_add n is (λ j. out j + vapour j + deep j) in
      let in_all = sum_add n (λ j. sides j ss f.units) (λ j. arriving j a.reaches f.reaches) in
      let right = sum_add n was came in
      let each = sum_ext n (λ j. is j + (out j + vapour j + deep j)) (λ j. was j + came j) (λ j h. reach_balance (d.reach j h)) in
      omega arith

  -- the rain of a day is the source's
  pub day_rain : {a b : State S} {f : Moved} → Sound (length a.units) ss a.reaches → DayOf water turns m index ss a b f → (sums_of ss a.reaches f).rain ≡ rain_volume m index ss
  day_rain {a} {b} {f} s d =
      let all = over_area_rain (λ f. f.rain) m index ss f.units (d.flows_long ∙ s.many) (λ i z h.
      let l : i < length a.units = omega (arith, s.many) in
      ap (λ (x : UnitFlow). x.rain) (get_or_default f.units i z unit0 (omega (arith, d.flows_long))) ∙ unit_rain (d.unit i (one_of a.units i l) l)) in
      omega arith

-- ---- days one after another
module _ {S : Type 0} {water : S → ℕ} {turns : S → ℕ → ℕ → Day → S → Flows → Type 0} {m : Meaning} {from : ℕ} {ss : List Site} where
  -- the whole basin, whose tables fit together where there is a day
  pub days_balance : {a b : State S} {t : List Moved} → (1 ≤ length t → Sound (length a.units) ss a.reaches) → Days water turns m from ss a t b → total water ss b + ((sums_over ss a.reaches t).stream + (sums_over ss a.reaches t).vapour + (sums_over ss a.reaches t).deep) ≡ total water ss a + (sums_over ss a.reaches t).rain
  days_balance s none = omega arith
  days_balance {a} s (more {t} {c} {b} {f} w d) =
      let fit = s (omega arith) in
      let rest = days_balance (λ h. fit) w in
      let kept = same_days w in
      let one = day_balance (sound_same kept fit) d in
      let same = stream_steady f.reaches kept in
      omega arith

  -- its rain
  pub days_rain : {a b : State S} {t : List Moved} → (1 ≤ length t → Sound (length a.units) ss a.reaches) → Days water turns m from ss a t b → (sums_over ss a.reaches t).rain ≡ rain_over m from (length t) ss
  days_rain s none = refl
  days_rain {a} s (more {t} {c} {b} {f} w d) =
      let fit = s (omega arith) in
      let rest = days_rain (λ h. fit) w in
      let one = day_rain (sound_same (same_days w) fit) d in
      omega arith

  -- each unit
  pub unit_days : {a b : State S} {t : List Moved} → Days water turns m from ss a t b → (i : ℕ) (z : S) → i < length a.units → water (get_or b.units i z) + unit_loss (unit_over i t) ≡ water (get_or a.units i z) + (unit_over i t).rain
  unit_days none i z h = omega arith
  unit_days (more w d) i z h =
      let rest = unit_days w i z h in
      let one = unit_balance (d.unit i z (omega (arith, (same_days w).units))) in
      omega arith

  -- its rain
  pub unit_rain_days : {a b : State S} {t : List Moved} → Days water turns m from ss a t b → (i : ℕ) → i < length a.units → (unit_over i t).rain ≡ rain_over_at m from (length t) (get_or ss i site0).station
  unit_rain_days none i h = refl
  unit_rain_days {a} (more {t} {c} {b} {f} w d) i h =
      let rest = unit_rain_days w i h in
      let one = unit_rain (d.unit i (one_of a.units i h) (omega (arith, (same_days w).units))) in
      omega arith

  -- each reach
  pub reach_days : {a b : State S} {t : List Moved} → Days water turns m from ss a t b → (j : ℕ) → j < length a.reaches → (get_or b.reaches j reach0).stored + reach_loss (reach_over j t) ≡ (get_or a.reaches j reach0).stored + (reach_over j t).inflow
  reach_days none j h = omega arith
  reach_days (more w d) j h =
      let rest = reach_days w j h in
      let day = d.reach j (omega (arith, (same_days w).reaches)) in
      let one = reach_balance day in
      let came = reach_came day in
      omega arith
