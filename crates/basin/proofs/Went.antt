-- What a run makes of a basin, refused or not. Assumes nothing.
use Rattle.std.proofs.Common.{◌≡◌, ℕ, ◌+◌, ◌<◌, ◌≤◌, Bool, true, false, cond, List, [], length, get_or, Some, None, Option, sym, refl, ap, ◌∙◌, subst, inl, inr, arith}
use Rattle.std.proofs.lemmas.List.{get_or_past}
use Rattle.std.proofs.lemmas.Bool.{cases_lt}
use Rattle.refusals.specs.Refusals.{Refusal}
use Rattle.weather.specs.Meaning.{Meaning}
use Rattle.weather.specs.declared.day.Day.{Day}
use Rattle.stores.specs.declared.flows.Flows.{Flows}
use Rattle.network.specs.Records.{unit0, flow0}
use Rattle.network.specs.declared.flows.UnitFlow.{UnitFlow}
use Rattle.network.specs.declared.flows.ReachFlow.{ReachFlow}
use Rattle.basin.specs.declared.answer.Answer.{Answer}
use Rattle.basin.specs.Tables.{View}
use Rattle.basin.specs.Day.{Moved}
use Rattle.basin.specs.Run.{Days, none, sums_over, unit_over, reach_over}
use Rattle.basin.specs.Loops.{Sound}
use Rattle.basin.specs.Calls.{run, run_fault, start_fault, RunBy, Unstarted, Step}
use Rattle.basin.specs.Law.{writes}
use Rattle.basin.proofs.Starting.{run_passed}
use Rattle.basin.proofs.Stops.{ends_listed, unlisted}

-- the days that a run accepted, and what it tells of them
pub record Went {S : Type 0} (water : S → ℕ) (turns : S → ℕ → ℕ → Day → S → Flows → Type 0) (m : Meaning) (us' : List UnitFlow) (rs' : List ReachFlow) (r : Answer) (a b : View S) : Type 0 where
  pub moved : List Moved
  pub days : Days water turns m a.day a.sites a.state moved b.state
  pub count : r.days ≡ length moved
  pub sums_are : r.sums ≡ sums_over a.sites a.state.reaches moved
  pub unit_told : (i : ℕ) → i < length a.state.units → cond (writes r) (get_or us' i unit0) unit0 ≡ unit_over i moved
  pub reach_told : (j : ℕ) → j < length a.state.reaches → cond (writes r) (get_or rs' j flow0) flow0 ≡ reach_over j moved
  pub sites : b.sites ≡ a.sites
  pub day : b.day ≡ a.day + r.days
  pub sound : 1 ≤ length moved → Sound (length a.state.units) a.sites a.state.reaches

-- equal things, whichever is picked
pub pick_same : {X : Type 0} (t : Bool) (x y : X) → x ≡ y → cond t x y ≡ y
pick_same true x y e = e
pick_same false x y e = refl

-- a cleared list holds nothing, and beyond its end too
cleared_at : {X : Type 0} (x : X) (xs : List X) → ((k : ℕ) → k < length xs → get_or xs k x ≡ x) → (k : ℕ) → get_or xs k x ≡ x
cleared_at x xs h k = elim (cases_lt k (length xs)) [ inl l ↦ h k l | inr l ↦ get_or_past xs k x l ]

module _ {S : Type 0} (water : S → ℕ) (turns : S → ℕ → ℕ → Day → S → Flows → Type 0) {m : Meaning} (n : ℕ) (us us' : List UnitFlow) (rs rs' : List ReachFlow) {r : Answer} {a b : View S} where
  -- a run that did not start went no day
  stayed : {e : Refusal} → Unstarted e a b r → ((i : ℕ) → cond (writes r) (get_or us' i unit0) unit0 ≡ unit0) → ((j : ℕ) → cond (writes r) (get_or rs' j flow0) flow0 ≡ flow0) → Went water turns m us' rs' r a b
  stayed u units reaches =
      let zero-days : r.days ≡ 0 = ap (λ (x : Answer). x.days) u.nothing_else in
      let count : b.day ≡ a.day = ap (λ (v : View S). v.day) u.same in
      record {
        moved = [];
        days = subst (λ (v : View S). Days water turns m a.day a.sites a.state [] v.state) (sym u.same) none;
        count = zero-days;
        sums_are = ap (λ (x : Answer). x.sums) u.nothing_else;
        unit_told = λ i h. units i;
        reach_told = λ j h. reaches j;
        sites = ap (λ (v : View S). v.sites) u.same;
        day = omega (arith, zero-days, count);
        sound = λ h. absurd (let z : ⊥ = omega (arith, h) in z);
      }

  -- by what the tables and the limits refuse
  went_by : (p q : Option Refusal) → run_fault a (length us) (length rs) n ≡ p → RunBy p q water turns m n us us' rs rs' r a b → Went water turns m us' rs' r a b
  went_by (Some e) q is s =
      let off : writes r ≡ false = unlisted a (length us) (length rs) n is s.not_started in
      stayed s.not_started (λ i. ap (λ (t : Bool). cond t (get_or us' i unit0) unit0) off) (λ j. ap (λ (t : Bool). cond t (get_or rs' j flow0) flow0) off)
  went_by None (Some e) is s = stayed s.not_started (λ i. pick_same (writes r) (get_or us' i unit0) unit0 (cleared_at unit0 us' s.unit_list.1 i)) (λ j. pick_same (writes r) (get_or rs' j flow0) flow0 (cleared_at flow0 rs' s.reach_list.1 j))
  went_by None None is s =
      let go = s.ran.going in
      let fit = run_passed a (length us) (length rs) n is in
      let on : writes r ≡ true = ends_listed water m a.day n a.sites b.state r.days r.stop s.ran.ends in
      record {
        moved = go.moved;
        days = go.days;
        count = go.count;
        sums_are = go.sums_are;
        unit_told = λ i h. ap (λ (t : Bool). cond t (get_or us' i unit0) unit0) on ∙ go.unit_list i (omega (arith, h, s.unit_list, fit.unit_flows, fit.sound.many));
        reach_told = λ j h. ap (λ (t : Bool). cond t (get_or rs' j flow0) flow0) on ∙ go.reach_list j (omega (arith, h, s.reach_list, fit.reach_flows));
        sites = s.sites;
        day = s.day;
        sound = λ h. fit.sound;
      }

  -- every run
  pub went : Step water turns a (run m n us rs us' rs' r) b → Went water turns m us' rs' r a b
  went s = went_by (run_fault a (length us) (length rs) n) (start_fault water a) refl s
