-- Accepted days keep the water: the balance, and how far its sums can grow. Assumes nothing.
use Rattle.std.proofs.Common.{◌≡◌, ℕ, ◌+◌, ◌*◌, ◌<◌, ◌≤◌, List, [], ◌∷◌, length, sum_by, refl, arith}
use Rattle.std.proofs.lemmas.List.Sums.{sum_by-cons}
use Rattle.weather.specs.Meaning.{Meaning}
use Rattle.weather.specs.declared.day.Day.{Day}
use Rattle.stores.specs.Meaning.{limit}
use Rattle.stores.specs.declared.flows.Flows.{Flows}
use Rattle.balance.specs.Course.{Accepted, Days, none, more, Going, Fitting, added, no_sums}
use Rattle.balance.specs.declared.balance.Moved.{Moved}
use Rattle.balance.specs.declared.balance.Sums.{Sums}

abbrev pub rains : List Moved → ℕ
rains = sum_by (λ (d : Moved). d.rain)

abbrev pub sides : List Moved → ℕ
sides = sum_by (λ (d : Moved). d.flows.side)

abbrev pub vapours : List Moved → ℕ
vapours = sum_by (λ (d : Moved). d.flows.vapour)

abbrev pub deeps : List Moved → ℕ
deeps = sum_by (λ (d : Moved). d.flows.deep)

module _ {S : Type 0} (water : S → ℕ) (turns : S → ℕ → ℕ → Day → S → Flows → Type 0) (m : Meaning) (station : ℕ) where
  -- what the days left and what they moved is what there was and what fell
  days_balance : {s t : S} {ds : List Moved} → Days water turns m station s ds t → water t + sides ds + vapours ds + deeps ds ≡ water s + rains ds
  days_balance none = omega arith
  days_balance (more p a) = omega (arith, days_balance p, sum_by-cons)

  days_rain : {s t : S} {ds : List Moved} → Days water turns m station s ds t → rains ds ≤ 1000000 * length ds
  days_rain none = omega arith
  days_rain (more p a) = omega (arith, days_rain p, sum_by-cons)

  days_room : {s t : S} {ds : List Moved} → Days water turns m station s ds t → water s ≤ limit → water t ≤ limit
  days_room none h = h
  days_room (more p a) h = omega (arith, a.kept.balance, a.kept.room)

  module _ {s t : S} {n : ℕ} {a : Sums} (p : Going water turns m station s t n a) where
    pub going_balance : water t + a.side + a.vapour + a.deep ≡ water s + a.rain
    going_balance = omega (arith, days_balance p.days)

    pub going_rain : a.rain ≤ 1000000 * n
    going_rain = omega (arith, days_rain p.days)

    -- the days leave room
    pub going_room : water s ≤ limit → water t ≤ limit
    going_room = days_room p.days

    -- one day more
    pub going_more : {u : S} {d : Moved} → Accepted water turns m station n t u d → Going water turns m station s u (n + 1) (added a d)
    going_more {u} {d} x = record {
      moved = d ∷ p.moved;
      days = more p.days (rw p.count at x);
      count = omega arith;
      rain_is = omega (arith, sum_by-cons);
      side_is = omega (arith, sum_by-cons);
      vapour_is = omega (arith, sum_by-cons);
      deep_is = omega (arith, sum_by-cons);
    }

    -- the sums of a day more are far under 64 bits
    pub going_fits : {u : S} {d : Moved} → Accepted water turns m station n t u d → water s ≤ limit → n < m.days → Fitting (added a d)
    going_fits x h k =
        let rain = going_rain in
        let whole = going_balance in
        record { rain_fits = omega arith; side_fits = omega arith; vapour_fits = omega arith; deep_fits = omega arith }

  pub going_none : (s : S) → Going water turns m station s s 0 no_sums
  going_none s = record { moved = []; days = none; count = refl; rain_is = refl; side_is = refl; vapour_is = refl; deep_is = refl }
