-- What one call does to the water of a basin, entered as the balance counts it. Assumes nothing.
use Rattle.std.proofs.Common.{◌≡◌, ℕ, ◌+◌, ◌-◌, ◌<◌, ◌≤◌, Bool, true, false, cond, eqb, leb, ◌≢◌, List, length, get_or, set, None, Ok, Err, Result, sym, refl, ap, ◌∙◌, subst, arith, get_or-set_other, get_or-set_same}
use Rattle.std.proofs.lemmas.Bool.{eqb-true, eqb-false, leb-true}
use Rattle.refusals.specs.Refusals.{refuse}
use Rattle.refusals.specs.declared.basin.BasinFault.{BasinFault}
use Rattle.weather.specs.Meaning.{Meaning}
use Rattle.weather.specs.declared.day.Day.{Day}
use Rattle.stores.specs.declared.flows.Flows.{Flows}
use Rattle.network.specs.Records.{site0, reach0}
use Rattle.network.specs.declared.reach.Reach.{Reach}
use Rattle.network.specs.declared.flows.UnitFlow.{UnitFlow}
use Rattle.network.specs.declared.flows.ReachFlow.{ReachFlow}
use Rattle.basin.specs.declared.answer.Sums.{Sums}
use Rattle.basin.specs.declared.answer.Answer.{Answer}
use Rattle.basin.specs.Tables.{View, refused_unless}
use Rattle.basin.specs.Limits.{total, limit_fault, no_rain}
use Rattle.basin.specs.Calls.{Call, run, pour, draw, stored_in, amount_fault, pour_fault, draw_fault, Amounted, Step}
use Rattle.basin.specs.Law.{days_of, call_stream, call_vapour, call_deep, told_rain, poured_to, drawn_from, poured, drawn, unit_in, reach_in, unit_loss, reach_loss, rain_over, rain_over_at, call_rain, call_rain_at}
use Rattle.basin.proofs.Refusing.{both_none, unless_none}
use Rattle.basin.proofs.Steady.{Steady, same_days, steady_here, steady_set}
use Rattle.basin.proofs.Conserved.{days_balance, days_rain, unit_days, unit_rain_days, reach_days}
use Rattle.basin.proofs.Totals.{reach_set}
use Rattle.basin.proofs.Amounts.{reach_there, taken, left}
use Rattle.basin.proofs.Went.{Went, went, pick_same}

-- one call from b to c: the balance over it, and what it leaves as it was
pub record Booked {S : Type 0} (water : S → ℕ) (b : View S) (call : Call) (c : View S) : Type 0 where
  pub whole : total water c.sites c.state + (call_stream call + call_vapour call + call_deep call + drawn call) ≡ total water b.sites b.state + (call_rain b.day b.sites call + poured call)
  pub rain_told : told_rain call ≡ call_rain b.day b.sites call
  pub unit_rain : (i : ℕ) → i < length b.state.units → (unit_in i call).rain ≡ call_rain_at b.day (get_or b.sites i site0).station call
  pub unit : (i : ℕ) (z : S) → i < length b.state.units → water (get_or c.state.units i z) + unit_loss (unit_in i call) ≡ water (get_or b.state.units i z) + call_rain_at b.day (get_or b.sites i site0).station call
  pub reach : (j : ℕ) → j < length b.state.reaches → stored_in c j + (reach_loss (reach_in j call) + drawn_from j call) ≡ stored_in b j + ((reach_in j call).inflow + poured_to j call)
  pub sites : c.sites ≡ b.sites
  pub steady : Steady b.state c.state
  pub day : c.day ≡ b.day + days_of call

-- ---- a run: what its days moved is what it answers
run_booked : {S : Type 0} (water : S → ℕ) {turns : S → ℕ → ℕ → Day → S → Flows → Type 0} {m : Meaning} (n : ℕ) (us us' : List UnitFlow) (rs rs' : List ReachFlow) {r : Answer} {b c : View S} → Went water turns m us' rs' r b c → Booked water b (run m n us rs us' rs' r) c
run_booked water {turns} {m} n us us' rs rs' {r} {b} {c} w =
    let all = days_balance w.sound w.days in
    let fell = days_rain w.sound w.days in
    let rain : r.sums.rain ≡ _ = ap (λ (x : Sums). x.rain) w.sums_are in
    let stream : r.sums.stream ≡ _ = ap (λ (x : Sums). x.stream) w.sums_are in
    let vapour : r.sums.vapour ≡ _ = ap (λ (x : Sums). x.vapour) w.sums_are in
    let deep : r.sums.deep ≡ _ = ap (λ (x : Sums). x.deep) w.sums_are in
    let count : rain_over m b.day r.days b.sites ≡ rain_over m b.day (length w.moved) b.sites = ap (λ k. rain_over m b.day k b.sites) w.count in
    let count_at : (i : ℕ) → rain_over_at m b.day r.days (get_or b.sites i site0).station ≡ rain_over_at m b.day (length w.moved) (get_or b.sites i site0).station = λ i. ap (λ k. rain_over_at m b.day k (get_or b.sites i site0).station) w.count in
    let here : total water c.sites c.state ≡ total water b.sites c.state = ap (λ l. total water l c.state) w.sites in
    record {
      whole = omega arith;
      rain_told = omega arith;
      unit_rain = λ i h. ap (λ (f : UnitFlow). f.rain) (w.unit_told i h) ∙ unit_rain_days w.days i h ∙ sym (count_at i);
      unit = λ i z h.
          let one = unit_days w.days i z h in
          let wet = unit_rain_days w.days i h in
          let same = count_at i in
          let lost = ap unit_loss (w.unit_told i h) in
          omega arith;
      reach = λ j h.
          let one = reach_days w.days j h in
          let lost = ap reach_loss (w.reach_told j h) in
          let came = ap (λ (f : ReachFlow). f.inflow) (w.reach_told j h) in
          omega arith;
      sites = w.sites;
      steady = same_days w.days;
      day = w.day;
    }

-- ---- a pour or a draw
-- the reach k after the reach j was written with x more and y less
stored_set : (rs : List Reach) (j k x y : ℕ) (r : Reach) → j < length rs → r.stored + y ≡ (get_or rs j reach0).stored + x → (get_or (set rs j r) k reach0).stored + cond (eqb j k) y 0 ≡ (get_or rs k reach0).stored + cond (eqb j k) x 0
stored_set rs j k x y r h e = go (eqb j k) refl
  where
    go : (t : Bool) → eqb j k ≡ t → (get_or (set rs j r) k reach0).stored + cond t y 0 ≡ (get_or rs k reach0).stored + cond t x 0
    go true q =
        let same : j ≡ k = eqb-true j k q in
        let one : (get_or (set rs j r) k reach0).stored ≡ r.stored = ap (λ i. (get_or (set rs j r) i reach0).stored) (sym same) ∙ ap (λ (z : Reach). z.stored) (get_or-set_same rs j r reach0 h) in
        let two : (get_or rs j reach0).stored ≡ (get_or rs k reach0).stored = ap (λ i. (get_or rs i reach0).stored) same in
        omega arith
    go false q =
        let ne : k ≢ j = λ p. eqb-false j k q (sym p) in
        let one : (get_or (set rs j r) k reach0).stored ≡ (get_or rs k reach0).stored = ap (λ (z : Reach). z.stored) (get_or-set_other rs j k r reach0 ne) in
        omega arith

-- a draw that is not refused is of water that is there
drawn_there : {S : Type 0} (a : View S) (j amount : ℕ) → draw_fault a j amount ≡ None → (j < length a.state.reaches) × (amount ≤ stored_in a j)
drawn_there a j amount e =
    let both = both_none (amount_fault a j amount) (refused_unless (leb amount (stored_in a j)) (refuse 60 j)) e in
    (reach_there a j amount both.0, leb-true amount (stored_in a j) (unless_none (leb amount (stored_in a j)) (refuse 60 j) both.1))

module _ {S : Type 0} (water : S → ℕ) where
  -- a pour, accepted or refused
  pour_booked : (j x : ℕ) (r : Result (Unit {0}) BasinFault) (b c : View S) → Amounted (pour_fault water b j x) j (stored_in b j + x) r b c → Booked water b (pour j x r) c
  pour_booked j x (Ok u) b c d =
      let y = stored_in b j + x in
      let q : Reach = record { channel = (get_or b.state.reaches j reach0).channel; stored = y } in
      let free : pour_fault water b j x ≡ None = sym d.refused in
      let there = reach_there b j x (both_none (amount_fault b j x) (limit_fault water no_rain x b.sites b.state) free).0 in
      let all = reach_set b.state.reaches j q there in
      subst (Booked water b (pour j x (Ok u))) (sym (taken d)) (record {
        whole = omega arith;
        rain_told = refl;
        unit_rain = λ i h. refl;
        unit = λ i z h. refl;
        reach = λ k h. let one = stored_set b.state.reaches j k x 0 q there (omega arith) in let none = pick_same {X = ℕ} (eqb j k) 0 0 refl in omega arith;
        sites = refl;
        steady = steady_set j y b;
        day = omega arith;
      })
  pour_booked j x (Err e) b c d =
      subst (Booked water b (pour j x (Err e))) (sym (left d)) (record {
        whole = refl;
        rain_told = refl;
        unit_rain = λ i h. refl;
        unit = λ i z h. refl;
        reach = λ k h. let none = pick_same {X = ℕ} (eqb j k) 0 0 refl in omega arith;
        sites = refl;
        steady = steady_here b.state;
        day = omega arith;
      })

  -- a draw, accepted or refused
  draw_booked : (j x : ℕ) (r : Result (Unit {0}) BasinFault) (b c : View S) → Amounted (draw_fault b j x) j (stored_in b j - x) r b c → Booked water b (draw j x r) c
  draw_booked j x (Ok u) b c d =
      let y = stored_in b j - x in
      let q : Reach = record { channel = (get_or b.state.reaches j reach0).channel; stored = y } in
      let free : draw_fault b j x ≡ None = sym d.refused in
      let there = drawn_there b j x free in
      let all = reach_set b.state.reaches j q there.0 in
      subst (Booked water b (draw j x (Ok u))) (sym (taken d)) (record {
        whole = omega arith;
        rain_told = refl;
        unit_rain = λ i h. refl;
        unit = λ i z h. refl;
        reach = λ k h. let one = stored_set b.state.reaches j k 0 x q there.0 (omega arith) in let none = pick_same {X = ℕ} (eqb j k) 0 0 refl in omega arith;
        sites = refl;
        steady = steady_set j y b;
        day = omega arith;
      })
  draw_booked j x (Err e) b c d =
      subst (Booked water b (draw j x (Err e))) (sym (left d)) (record {
        whole = refl;
        rain_told = refl;
        unit_rain = λ i h. refl;
        unit = λ i z h. refl;
        reach = λ k h. let none = pick_same {X = ℕ} (eqb j k) 0 0 refl in omega arith;
        sites = refl;
        steady = steady_here b.state;
        day = omega arith;
      })

  -- every call
  pub booked : (turns : S → ℕ → ℕ → Day → S → Flows → Type 0) {b c : View S} (call : Call) → Step water turns b call c → Booked water b call c
  booked turns {b} {c} (run m n us rs us' rs' r) s = run_booked water n us us' rs rs' (went water turns n us us' rs rs' s)
  booked turns {b} {c} (pour j x r) s = pour_booked j x r b c s
  booked turns {b} {c} (draw j x r) s = draw_booked j x r b c s
