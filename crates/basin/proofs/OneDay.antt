-- A day that is accepted, and a day put together from its parts. Assumes nothing.
use Rattle.std.proofs.Common.{◌≡◌, ℕ, zero, suc, ◌+◌, ◌*◌, ◌<◌, ◌≤◌, Bool, true, false, cond, eqb, leb, List, [], ◌∷◌, length, get_or, Some, None, sym, refl, ap, ◌∙◌, subst, mul-le-mul_left, mul-add, arith}
use Rattle.std.proofs.lemmas.Bool.{leb-true}
use Rattle.refusals.specs.Refusals.{Refusal, refuse}
use Rattle.weather.specs.Meaning.{Meaning}
use Rattle.weather.specs.declared.day.Day.{Day}
use Rattle.stores.specs.Meaning.{limit}
use Rattle.stores.specs.declared.flows.Flows.{Flows}
use Rattle.network.specs.Records.{site0, reach0, unit0, flow0}
use Rattle.network.specs.Routing.{ReachDay, arriving, sides}
use Rattle.network.specs.declared.site.Site.{Site}
use Rattle.network.specs.declared.reach.Reach.{Reach}
use Rattle.network.specs.declared.flows.UnitFlow.{UnitFlow}
use Rattle.network.specs.declared.flows.ReachFlow.{ReachFlow}
use Rattle.basin.specs.Tables.{State, or_else, refused_unless}
use Rattle.basin.specs.Limits.{over_area, unit_water, reach_water, total, unit_fault, limit_fault, most}
use Rattle.basin.specs.Questions.{reach_questions, rain_of, site_rain, rain_volume, day_stop}
use Rattle.basin.specs.Day.{Moved, DayOf}
use Rattle.basin.specs.Loops.{Sound, SitesAsked, ReachesAsked, Ready, ReachAtMost, TurnedIn, due, rain_fallen, rain_in}
use Rattle.basin.proofs.Refusing.{both_none, unless_none, cond_none}
use Rattle.basin.proofs.Totals.{sum_ext, sides_all, as_sum, list_sum_to}
use Rattle.basin.proofs.Conserved.{reach_came, one_of, reach_balance}
use Rattle.basin.proofs.Areas.{over_area_rain}
use Rattle.basin.proofs.Watering.{rain_here}

-- ---- questions and limits
-- the first unit that passes its limit is a matter of the rain at the units' places alone
unit_fault_same : {S : Type 0} (water : S → ℕ) (r s : ℕ → ℕ) (i : ℕ) (us : List S) → ((k : ℕ) → i ≤ k → k < i + length us → r k ≡ s k) → unit_fault water r i us ≡ unit_fault water s i us
unit_fault_same water r s i [] h = refl
unit_fault_same water r s i (u ∷ us) h =
    let here : r i ≡ s i = h i (omega arith) (omega arith) in
    let rest = unit_fault_same water r s (suc i) us (λ k a b. h k (omega arith) (omega arith)) in
    ap (λ n. cond (leb (water u + n) limit) (unit_fault water r (suc i) us) (Some (refuse 58 i))) here ∙ ap (λ o. cond (leb (water u + s i) limit) o (Some (refuse 58 i))) rest

-- where none passes it, each unit has room for its rain
units_within : {S : Type 0} (water : S → ℕ) (r : ℕ → ℕ) (i : ℕ) (us : List S) → unit_fault water r i us ≡ None → (k n : ℕ) (z : S) → n ≡ i + k → k < length us → water (get_or us k z) + r n ≤ limit
units_within water r i [] e k n z q h = absurd (let z : ⊥ = omega arith in z)
units_within water r i (u ∷ us) e zero n z q h =
    let same : i ≡ n = omega arith in
    subst (λ (p : ℕ). water u + r p ≤ limit) same (leb-true (water u + r i) limit (cond_none (leb (water u + r i) limit) (unit_fault water r (suc i) us) (refuse 58 i) e).0)
units_within water r i (u ∷ us) e (suc k) n z q h = units_within water r (suc i) us (cond_none (leb (water u + r i) limit) (unit_fault water r (suc i) us) (refuse 58 i) e).1 k n z (omega arith) (omega arith)

-- where no limit is passed, each unit has room for its rain and the basin for what is added
pub limits_keep : {S : Type 0} (water : S → ℕ) (r : ℕ → ℕ) (added : ℕ) (ss : List Site) (a : State S) → limit_fault water r added ss a ≡ None → ((i : ℕ) (z : S) → i < length a.units → water (get_or a.units i z) + r i ≤ limit) × (total water ss a + added ≤ most)
limits_keep water r added ss a e =
    let p = both_none (unit_fault water r 0 a.units) (refused_unless (leb (total water ss a + added) most) (refuse 59 0)) e in
    (λ i z h. units_within water r 0 a.units p.0 i i z (omega arith) h, leb-true (total water ss a + added) most (unless_none (leb (total water ss a + added) most) (refuse 59 0) p.1))

module _ {S : Type 0} (water : S → ℕ) (m : Meaning) (index : ℕ) (ss : List Site) (a : State S) (ws : List Day) (ds : List ℕ) (lu : length a.units ≡ length ss) (lw : length ws ≡ length ss) (sites : SitesAsked m index ss ws) (reaches : ReachesAsked m index a.reaches ds) (fallen : ℕ) (is : fallen ≡ rain_fallen ss ws) where
  -- where every question is answered, the day stops at a limit alone
  stop_is : day_stop water m index ss a ≡ limit_fault water (rain_in ws) fallen ss a
  stop_is =
      let rain = unit_fault_same water (site_rain m index ss) (rain_in ws) 0 a.units (λ k p h.
      let l : k < length ss = omega arith in
      let w = one_of ws k (omega arith) in
      ap rain_of (sites.weather k w l) ∙ sym (rain_here ws k w (omega arith))) in
      let volume : rain_volume m index ss ≡ fallen = sym (is ∙ over_area_rain (λ (w : Day). w.rain) m index ss ws lw (λ i z h. sym (ap rain_of (sites.weather i z h)))) in
      ap (λ q. or_else (or_else q (reach_questions m index 0 a.reaches)) (limit_fault water (site_rain m index ss) (rain_volume m index ss) ss a)) sites.no_fault
      ∙ ap (λ q. or_else q (limit_fault water (site_rain m index ss) (rain_volume m index ss) ss a)) reaches.no_fault
      ∙ ap (λ q. or_else q (refused_unless (leb (total water ss a + rain_volume m index ss) most) (refuse 59 0))) rain
      ∙ ap (λ x. limit_fault water (rain_in ws) x ss a) volume

  -- a day within the limits is ready
  pub ready : limit_fault water (rain_in ws) fallen ss a ≡ None → Ready water m index ss a ws ds
  ready e =
      let p = limits_keep water (rain_in ws) fallen ss a e in
      let fits = p.1 in
      record {
        no_stop = stop_is ∙ e;
        weather = sites.weather;
        demands = reaches.demands;
        room = p.0;
        fits = omega arith;
      }

  -- and one beyond them is refused so
  pub refused : (x : Refusal) → limit_fault water (rain_in ws) fallen ss a ≡ Some x → day_stop water m index ss a ≡ Some x
  refused x e = stop_is ∙ e

-- ---- turns and routing
-- a number or nothing
at_most : (b : Bool) (x : ℕ) → cond b x 0 ≤ x
at_most true x = omega arith
at_most false x = omega arith

-- no reach has more than all the side flow
sides_most : (j : ℕ) (ss : List Site) (fs : List UnitFlow) → sides j ss fs ≤ over_area (λ f. f.side) ss fs
sides_most j [] fs = omega arith
sides_most j (s ∷ ss) [] = omega arith
sides_most j (s ∷ ss) (f ∷ fs) = let e = sides_most j ss fs in let c = at_most (eqb s.reach j) (s.area * f.side) in omega arith

-- the side flow is no more than what the units held and their rain
side_most : {S : Type 0} (water : S → ℕ) (ss : List Site) (us : List S) (ws : List Day) (fs : List UnitFlow) → length us ≡ length ss → length ws ≡ length ss → length fs ≡ length ss → ((i : ℕ) (z : S) (w : Day) → i < length us → (get_or fs i unit0).side ≤ water (get_or us i z) + (get_or ws i w).rain) → over_area (λ f. f.side) ss fs ≤ unit_water water ss us + rain_fallen ss ws
side_most water [] us ws fs lu lw lf h = omega arith
side_most water (s ∷ ss) [] ws fs lu lw lf h = absurd (let z : ⊥ = omega arith in z)
side_most water (s ∷ ss) (u ∷ us) [] fs lu lw lf h = absurd (let z : ⊥ = omega arith in z)
side_most water (s ∷ ss) (u ∷ us) (w ∷ ws) [] lu lw lf h = absurd (let z : ⊥ = omega arith in z)
side_most water (s ∷ ss) (u ∷ us) (w ∷ ws) (f ∷ fs) lu lw lf h =
    let one : f.side ≤ water u + w.rain = h 0 u w (omega arith) in
    let here = mul-le-mul_left s.area one in
    let parts = mul-add s.area (water u) w.rain in
    let rest = side_most water ss us ws fs (omega arith) (omega arith) (omega arith) (λ i z w l. h (suc i) z w (omega arith)) in
    omega arith

-- what was gathered is all the side flow
due_side : (ss : List Site) (fs : List UnitFlow) (gs : List ReachFlow) → ((i : ℕ) → i < length ss → (get_or ss i site0).reach < length gs) → ((j : ℕ) → j < length gs → (get_or gs j flow0).inflow ≡ sides j ss fs) → due gs ≡ over_area (λ f. f.side) ss fs
due_side ss fs gs h g = as_sum due (λ f. f.inflow) refl (λ f fs. refl) gs ∙ list_sum_to (λ f. f.inflow) flow0 gs ∙ sum_ext (length gs) (λ j. (get_or gs j flow0).inflow) (λ j. sides j ss fs) g ∙ sides_all (length gs) ss fs h

-- what moves through a reach is no more than what it held and what came
pub reach_small : {inflow demand : ℕ} {r s : Reach} {f : ReachFlow} (b : ℕ) → ReachDay inflow demand r s f → r.stored + f.inflow ≤ b → ReachAtMost b f
reach_small {inflow} {demand} {r} {s} {f} b d h =
    let came = reach_came d in
    let keeps = reach_balance d in
    record { inflow = omega arith; outflow = omega arith; vapour = omega arith; deep = omega arith }

-- the tables of a day, and what it moved
abbrev pub state : {S : Type 0} → List S → List Reach → State S
state us rs = record { units = us; reaches = rs }

abbrev pub moved : List UnitFlow → List ReachFlow → Moved
moved fs gs = record { units = fs; reaches = gs }

module _ {S : Type 0} (water : S → ℕ) (turns : S → ℕ → ℕ → Day → S → Flows → Type 0) (m : Meaning) (index : ℕ) (ss : List Site) (us : List S) (rs : List Reach) (ws : List Day) (ds : List ℕ) (s : Sound (length us) ss rs) (lw : length ws ≡ length ss) (ready : Ready water m index ss (state us rs) ws ds) (vs : List S) (fs : List UnitFlow) (lf : length fs ≡ length ss) (turned : (i : ℕ) (z : S) (w : Day) → i < length us → TurnedIn water turns (get_or ws i w) (get_or us i z) (get_or vs i z) (get_or fs i unit0)) where
  -- all the side flow and what the reaches hold fit the basin
  side_low : over_area (λ f. f.side) ss fs + reach_water rs ≤ most
  side_low =
      let e = side_most water ss us ws fs s.many lw lf (λ i z w h. let b = (turned i z w h).kept.balance in omega arith) in
      let fits = ready.fits in
      omega arith

  -- so no reach is given more than fits it
  pub sides_low : (j : ℕ) → sides j ss fs ≤ most
  sides_low j = let low = side_low in let e = sides_most j ss fs in omega arith

  -- nor are all together
  pub due_low : (gs : List ReachFlow) → length gs ≡ length rs → ((j : ℕ) → j < length gs → (get_or gs j flow0).inflow ≡ sides j ss fs) → reach_water rs + due gs ≤ most
  due_low gs lg gathered =
      let low = side_low in
      let all = due_side ss fs gs (λ i l. let e = s.site i l in omega (arith, lg)) gathered in
      omega arith

  -- the day, from its turns and its routing
  pub day_made : (qs : List Reach) (hs ks : List ReachFlow) → length vs ≡ length us → length qs ≡ length rs → length hs ≡ length rs → length ks ≡ length rs →
      ((j : ℕ) → j < length hs → (get_or hs j flow0).inflow ≡ sides j ss fs) →
      ((j : ℕ) → j < length rs → ReachDay ((get_or hs j flow0).inflow + arriving j rs ks) (get_or ds j 0) (get_or rs j reach0) (get_or qs j reach0) (get_or ks j flow0)) →
      DayOf water turns m index ss (state us rs) (state vs qs) (moved fs ks)
  day_made qs hs ks lv lq lh lk gathered routed = record {
    no_stop = ready.no_stop;
    units_long = lv;
    flows_long = lf ∙ sym s.many;
    reaches_long = lq;
    reach_flows_long = lk;
    unit = λ i z h.
        let w = one_of ws i (omega (arith, s.many)) in
        let t = turned i z w h in
        record { day = get_or ws i w; seen = ready.weather i w (omega (arith, s.many)); rain_is = t.rain_is; kept = t.kept; turned = t.turned };
    reach = λ j h.
        subst (λ (n : ℕ). ReachDay (sides j ss fs + arriving j rs ks) n (get_or rs j reach0) (get_or qs j reach0) (get_or ks j flow0)) (sym (ready.demands j h))
        (subst (λ (n : ℕ). ReachDay (n + arriving j rs ks) (get_or ds j 0) (get_or rs j reach0) (get_or qs j reach0) (get_or ks j flow0)) (gathered j (omega arith)) (routed j h));
  }
