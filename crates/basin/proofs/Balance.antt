-- Every list of calls balances. Assumes nothing.
use Rattle.std.proofs.Common.{◌≡◌, ℕ, ◌+◌, List, ◌∷◌, get_or, sum_by, refl, ap, ◌∙◌, arith}
use Rattle.std.proofs.lemmas.List.Sums.{sum_by-cons}
use Rattle.weather.specs.declared.day.Day.{Day}
use Rattle.stores.specs.declared.flows.Flows.{Flows}
use Rattle.network.specs.Records.{site0}
use Rattle.basin.specs.Tables.{View}
use Rattle.basin.specs.Calls.{Call, Step, History, fresh, then}
use Rattle.basin.specs.Law.{Balanced, days_of, call_stream, call_vapour, call_deep, told_rain, poured_to, drawn_from, poured, drawn, unit_in, reach_in, unit_loss, reach_loss, call_rain, call_rain_at}
use Rattle.basin.proofs.Booked.{Booked, booked}
use Rattle.basin.proofs.Steady.{Steady, steady_here, steady_on}

-- what stays over calls
pub record Lasting {S : Type 0} (a : View S) (cs : List Call) (b : View S) : Type 0 where
  pub sites : b.sites ≡ a.sites
  pub steady : Steady a.state b.state
  pub day : b.day ≡ a.day + sum_by days_of cs

module _ {S : Type 0} {water : S → ℕ} where
  -- over one call more
  more_lasting : {a b c : View S} {cs : List Call} {call : Call} → Lasting a cs b → Booked water b call c → Lasting a (call ∷ cs) c
  more_lasting {a} {b} {c} {cs} {call} k s = record {
    sites = s.sites ∙ k.sites;
    steady = steady_on k.steady s.steady;
    day = omega (arith, s.day, k.day, sum_by-cons days_of call cs);
  }

  -- the balance with one call more
  more_balanced : {a b c : View S} {cs : List Call} {call : Call} → Lasting a cs b → Balanced water a cs b → Booked water b call c → Balanced water a (call ∷ cs) c
  more_balanced {a} {b} {c} {cs} {call} k o s =
      let fell : call_rain b.day b.sites call ≡ call_rain (a.day + sum_by days_of cs) a.sites call = ap (λ d. call_rain d b.sites call) k.day ∙ ap (λ l. call_rain (a.day + sum_by days_of cs) l call) k.sites in
      let fell-at : (i : ℕ) → call_rain_at b.day (get_or b.sites i site0).station call ≡ call_rain_at (a.day + sum_by days_of cs) (get_or a.sites i site0).station call = λ i. ap (λ d. call_rain_at d (get_or b.sites i site0).station call) k.day ∙ ap (λ l. call_rain_at (a.day + sum_by days_of cs) (get_or l i site0).station call) k.sites in
      record {
        whole =
            let now = s.whole in
            let old = o.whole in
            omega (arith, sum_by-cons call_stream call cs, sum_by-cons call_vapour call cs, sum_by-cons call_deep call cs, sum_by-cons drawn call cs, sum_by-cons poured call cs);
        rain_told =
            let now = s.rain_told in
            let old = o.rain_told in
            omega (arith, sum_by-cons told_rain call cs);
        unit_rain = λ i h.
            let now = s.unit_rain i (omega (arith, k.steady.units)) in
            let old = o.unit_rain i h in
            omega (arith, fell-at i, sum_by-cons (λ (x : Call). (unit_in i x).rain) call cs);
        unit = λ i z h.
            let now = s.unit i z (omega (arith, k.steady.units)) in
            let old = o.unit i z h in
            omega (arith, fell-at i, sum_by-cons (λ (x : Call). unit_loss (unit_in i x)) call cs);
        reach = λ j h.
            let now = s.reach j (omega (arith, k.steady.reaches)) in
            let old = o.reach j h in
            omega (arith, sum_by-cons (λ (x : Call). reach_loss (reach_in j x)) call cs, sum_by-cons (drawn_from j) call cs, sum_by-cons (λ (x : Call). (reach_in j x).inflow) call cs, sum_by-cons (poured_to j) call cs);
      }

-- a history keeps the sites and the settings, and counts the days
pub lasting : {S : Type 0} {water : S → ℕ} {turns : S → ℕ → ℕ → Day → S → Flows → Type 0} {a b : View S} {cs : List Call} → History water turns a cs b → Lasting a cs b
lasting {a = a} fresh = record { sites = refl; steady = steady_here a.state; day = omega arith }
lasting {S} {water} {turns} (then {call = call} h s) = more_lasting (lasting h) (booked water turns call s)

-- and it balances
pub balanced : {S : Type 0} {water : S → ℕ} {turns : S → ℕ → ℕ → Day → S → Flows → Type 0} {a b : View S} {cs : List Call} → History water turns a cs b → Balanced water a cs b
balanced fresh = record { whole = omega arith; rain_told = refl; unit_rain = λ i h. refl; unit = λ i z h. omega arith; reach = λ j h. omega arith }
balanced {S} {water} {turns} (then {call = call} h s) = more_balanced (lasting h) (balanced h) (booked water turns call s)

-- one call more, and the balance after it
pub balanced_on : {S : Type 0} (water : S → ℕ) (turns : S → ℕ → ℕ → Day → S → Flows → Type 0) {b c : View S} (call : Call) → Step water turns b call c → (a : View S) (cs : List Call) → History water turns a cs b → Balanced water a (call ∷ cs) c
balanced_on water turns call s a cs h = balanced (then {call = call} h s)
