-- What the lists of a day sum to, and the reaches routed in place, one after another. Assumes nothing.
use Rattle.std.proofs.Common.{◌≡◌, ℕ, zero, suc, ◌+◌, ◌*◌, ◌<◌, ◌≤◌, Bool, true, false, cond, eqb, ◌≢◌, List, [], ◌∷◌, ◌++◌, length, get_or, take, drop, set, Some, None, sum_by, Option, sym, refl, ap, ◌∙◌, subst, arith, length-set, get_or-set_other, get_or-set_same, below_more, eq-eqb, eqb-true}
use Rattle.std.proofs.lemmas.List.{at_drop_more, drop-set-lt, get_or_default, length-take-le, take_all, take_more, take_more_set, take-set-le}
use Rattle.std.proofs.lemmas.List.Sums.{sum_by-drop_more}
use Rattle.network.specs.Records.{flow0, reach0}
use Rattle.network.specs.declared.site.Site.{Site}
use Rattle.network.specs.declared.reach.Reach.{Reach}
use Rattle.network.specs.declared.flows.UnitFlow.{UnitFlow}
use Rattle.network.specs.declared.flows.ReachFlow.{ReachFlow}
use Rattle.network.specs.Routing.{ReachDay, arriving, names, sides}
use Rattle.basin.specs.declared.answer.Sums.{Sums}
use Rattle.basin.specs.Limits.{over_area, most, reach_water}
use Rattle.basin.specs.Loops.{Ahead, ReachAtMost, SumsAtMost, due, passed}
use Rattle.basin.specs.Run.{leaving, stream_flow}
use Rattle.basin.proofs.Conserved.{reach_balance, reach_came}
use Rattle.basin.proofs.Areas.{at_drops}
use Rattle.basin.proofs.Totals.{reach_set, stored_within}

-- ---- the sums of a day
-- no more leaves a reach than flows out of it
leaving_le : (o : Option ℕ) (x : ℕ) → leaving o x ≤ x
leaving_le None x = omega arith
leaving_le (Some k) x = omega arith

-- the units below i are summed, and what is left gives the rest
pub record UnitsSummed (ss : List Site) (fs : List UnitFlow) (i : ℕ) (x : Sums) : Type 0 where
  pub rain : x.rain + over_area (λ f. f.rain) (drop i ss) (drop i fs) ≡ over_area (λ f. f.rain) ss fs
  pub stream : x.stream ≡ 0
  pub vapour : x.vapour + over_area (λ f. f.vapour) (drop i ss) (drop i fs) ≡ over_area (λ f. f.vapour) ss fs
  pub deep : x.deep + over_area (λ f. f.deep) (drop i ss) (drop i fs) ≡ over_area (λ f. f.deep) ss fs
  pub small : SumsAtMost (i * 20000000000000000000000000000) x

-- the reaches below j are summed, and what is left gives the rest
pub record ReachesSummed (rs : List Reach) (fs : List ReachFlow) (j : ℕ) (x : Sums) : Type 0 where
  pub rain : x.rain ≡ 0
  pub stream : x.stream + stream_flow (drop j rs) (drop j fs) ≡ stream_flow rs fs
  pub vapour : x.vapour + sum_by (λ f. f.vapour) (drop j fs) ≡ sum_by (λ f. f.vapour) fs
  pub deep : x.deep + sum_by (λ f. f.deep) (drop j fs) ≡ sum_by (λ f. f.deep) fs
  pub small : SumsAtMost (j * most) x

-- one reach more is summed
pub reaches_summed_more : {rs : List Reach} {fs : List ReachFlow} {j : ℕ} {x : Sums} (r : Reach) (f : ReachFlow) (y : ℕ) → ReachesSummed rs fs j x → j < length rs → j < length fs → r ≡ get_or rs j r → f ≡ get_or fs j f → ReachAtMost most f → y ≡ leaving r.channel.next f.outflow → ReachesSummed rs fs (j + 1) (record { rain = x.rain; stream = x.stream + y; vapour = x.vapour + f.vapour; deep = x.deep + f.deep })
reaches_summed_more {rs} {fs} {j} {x} r f y t h k is_r is_f b l =
    let low = t.small in
    let less = leaving_le r.channel.next f.outflow in
    let leaves : y ≡ leaving (get_or rs j r).channel.next (get_or fs j f).outflow = l ∙ ap (λ (z : Reach). leaving z.channel.next f.outflow) is_r ∙ ap (λ (g : ReachFlow). leaving (get_or rs j r).channel.next g.outflow) is_f in
    record {
      rain = t.rain;
      stream = let n = at_drops stream_flow rs fs j r f h k in let o = t.stream in omega arith;
      vapour = let n = sum_by-drop_more (λ g. g.vapour) fs j f k in let e = ap (λ (g : ReachFlow). g.vapour) is_f in let o = t.vapour in omega arith;
      deep = let n = sum_by-drop_more (λ g. g.deep) fs j f k in let e = ap (λ (g : ReachFlow). g.deep) is_f in let o = t.deep in omega arith;
      small = record { rain = omega arith; stream = omega arith; vapour = omega arith; deep = omega arith };
    }

-- ---- what is due, and what is stored
-- what is due from i on, after a write at k
due_set : (fs : List ReachFlow) (i k : ℕ) (f : ReachFlow) → k < length fs → i ≤ k → due (drop i (set fs k f)) + (get_or fs k flow0).inflow ≡ due (drop i fs) + f.inflow
due_set [] i k f h l = absurd (let z : ⊥ = omega arith in z)
due_set (x ∷ fs) zero zero f h l = omega arith
due_set (x ∷ fs) zero (suc k) f h l = let e = due_set fs 0 k f (omega arith) (omega arith) in omega arith
due_set (x ∷ fs) (suc i) zero f h l = absurd (let z : ⊥ = omega arith in z)
due_set (x ∷ fs) (suc i) (suc k) f h l = due_set fs i k f (omega arith) (omega arith)

-- one reach more of what is due
due_next : (fs : List ReachFlow) (i : ℕ) → i < length fs → due (drop i fs) ≡ (get_or fs i flow0).inflow + due (drop (i + 1) fs)
due_next fs i h = at_drop_more due fs i flow0 h

-- one inflow is at most all that is due
due_one : (fs : List ReachFlow) (i k : ℕ) → i ≤ k → (get_or fs k flow0).inflow ≤ due (drop i fs)
due_one [] zero k l = omega arith
due_one [] (suc i) k l = omega arith
due_one (x ∷ fs) zero zero l = omega arith
due_one (x ∷ fs) zero (suc k) l = let e = due_one fs 0 k (omega arith) in omega arith
due_one (x ∷ fs) (suc i) zero l = absurd (let z : ⊥ = omega arith in z)
due_one (x ∷ fs) (suc i) (suc k) l = due_one fs i k (omega arith)

-- one reach more of what arrives
arriving_push : (m : ℕ) (rs : List Reach) (fs : List ReachFlow) (r : Reach) (f : ReachFlow) → length rs ≡ length fs → arriving m (rs ++ r ∷ []) (fs ++ f ∷ []) ≡ arriving m rs fs + cond (names r.channel.next m) f.outflow 0
arriving_push m [] [] r f e = omega arith
arriving_push m [] (g ∷ fs) r f e = absurd (let z : ⊥ = omega arith in z)
arriving_push m (s ∷ rs) [] r f e = absurd (let z : ⊥ = omega arith in z)
arriving_push m (s ∷ rs) (g ∷ fs) r f e = let h = arriving_push m rs fs r f (omega arith) in omega arith

-- ---- what an outflow handed on does to each place
-- nothing before the next reach is changed
passed_low : (o : Option ℕ) (x j : ℕ) (fs : List ReachFlow) → Ahead o j (length fs) → (m : ℕ) → m ≤ j → get_or (passed o x fs) m flow0 ≡ get_or fs m flow0
passed_low None x j fs a m h = refl
passed_low (Some k) x j fs a m h = let ne : m ≢ k = omega arith in get_or-set_other fs k m _ flow0 ne

passed_take : (o : Option ℕ) (x j : ℕ) (fs : List ReachFlow) → Ahead o j (length fs) → take (j + 1) (passed o x fs) ≡ take (j + 1) fs
passed_take None x j fs a = refl
passed_take (Some k) x j fs a = take-set-le (j + 1) fs k _ (omega arith)

-- the reach k has x more inflow, and no other has
added_in : (fs : List ReachFlow) (k x : ℕ) → k < length fs → (m : ℕ) → (get_or (passed (Some k) x fs) m flow0).inflow ≡ (get_or fs m flow0).inflow + cond (eqb k m) x 0
added_in fs k x there m = go (eqb k m) refl
  where
    go : (b : Bool) → eqb k m ≡ b → (get_or (passed (Some k) x fs) m flow0).inflow ≡ (get_or fs m flow0).inflow + cond b x 0
    go true e =
        let same : k ≡ m = eqb-true k m e in
        ap (λ i. (get_or (passed (Some k) x fs) i flow0).inflow) (sym same) ∙ ap (λ y. y.inflow) (get_or-set_same fs k _ flow0 there) ∙ ap (λ i. (get_or fs i flow0).inflow + x) same
    go false e =
        let ne : m ≢ k = λ q. (let z : ◌≡◌ {A = Bool} true false = sym (eq-eqb k m (sym q)) ∙ e in let y : ◌≡◌ {A = ℕ} 0 1 = cc in let w : ⊥ = omega arith in w) in
        ap (λ y. y.inflow) (get_or-set_other fs k m _ flow0 ne) ∙ omega arith

passed_in : (o : Option ℕ) (x j : ℕ) (fs : List ReachFlow) → Ahead o j (length fs) → (m : ℕ) → (get_or (passed o x fs) m flow0).inflow ≡ (get_or fs m flow0).inflow + cond (names o m) x 0
passed_in None x j fs a m = omega arith
passed_in (Some k) x j fs a m = added_in fs k x a.1 m

-- at most the outflow more is due from the next place on
passed_due : (o : Option ℕ) (x j : ℕ) (fs : List ReachFlow) → Ahead o j (length fs) → due (drop (j + 1) (passed o x fs)) ≤ due (drop (j + 1) fs) + x
passed_due None x j fs a = omega arith
passed_due (Some k) x j fs a =
    let e = due_set fs (j + 1) k (record { inflow = (get_or fs k flow0).inflow + x; outflow = (get_or fs k flow0).outflow; vapour = (get_or fs k flow0).vapour; deep = (get_or fs k flow0).deep }) a.1 (omega arith) in
    omega arith

-- ---- the reaches below j are routed
pub record Routing (rs0 : List Reach) (ds : List ℕ) (fs0 : List ReachFlow) (j : ℕ) (rs : List Reach) (fs : List ReachFlow) : Type 0 where
  pub arrived : (m : ℕ) → m < length rs0 → (get_or fs m flow0).inflow ≡ (get_or fs0 m flow0).inflow + arriving m (take j rs0) (take j fs)
  pub done : (k : ℕ) → k < j → ReachDay (get_or fs k flow0).inflow (get_or ds k 0) (get_or rs0 k reach0) (get_or rs k reach0) (get_or fs k flow0)
  pub fit : (k : ℕ) → k < j → (get_or rs0 k reach0).stored + (get_or fs k flow0).inflow ≤ most
  pub rest : (k : ℕ) → j ≤ k → get_or rs k reach0 ≡ get_or rs0 k reach0
  pub low : reach_water rs + due (drop j fs) ≤ most

module _ {rs0 : List Reach} {ds : List ℕ} {fs0 : List ReachFlow} {j : ℕ} {rs : List Reach} {fs : List ReachFlow} (t : Routing rs0 ds fs0 j rs fs) (lr : length rs ≡ length rs0) (lf : length fs ≡ length rs0) (h : j < length rs0) where
  -- the reach j is as it was
  still : (z : Reach) → get_or rs j z ≡ get_or rs0 j reach0
  still z = get_or_default rs j z reach0 (omega arith) ∙ t.rest j (omega arith)

  -- what the reach j holds with what came to it
  pub at_most : (z : Reach) → (get_or rs j z).stored + (get_or fs j flow0).inflow ≤ most
  at_most z =
      let l = t.low in
      let e = due_next fs j (omega arith) in
      let w = stored_within rs j (omega arith) in
      let same = ap (λ y. y.stored) (get_or_default rs j z reach0 (omega arith)) in
      omega arith

  -- the next reach of the reach j lies further on
  pub ahead_now : (y : Reach) (f : ReachFlow) → Ahead (get_or rs0 j reach0).channel.next j (length rs0) → Ahead (get_or rs j y).channel.next j (length (set fs j f))
  ahead_now y f ahead0 = subst (λ n. Ahead (get_or rs j y).channel.next j n) (sym (length-set fs j f ∙ lf)) (subst (λ q. Ahead q.channel.next j (length rs0)) (sym (still y)) ahead0)

  module _ (z : Reach) {r : Reach} {f : ReachFlow} (o : ReachDay (get_or fs j flow0).inflow (get_or ds j 0) (get_or rs j z) r f) where
    -- what the reach j keeps and hands on comes out of what it held and what came
    within : r.stored + f.outflow ≤ (get_or rs j reach0).stored + (get_or fs j flow0).inflow
    within =
        let keeps = reach_balance o in
        let same = ap (λ y. y.stored) (get_or_default rs j z reach0 (omega arith)) in
        omega arith

    -- the write at j leaves every inflow
    set_in : (m : ℕ) → (get_or (set fs j f) m flow0).inflow ≡ (get_or fs m flow0).inflow
    set_in m = by (eqb m j) refl
      where
        by : (b : Bool) → eqb m j ≡ b → (get_or (set fs j f) m flow0).inflow ≡ (get_or fs m flow0).inflow
        by true e =
            let same : m ≡ j = eqb-true m j e in
            let jf : j < length fs = omega arith in
            ap (λ i. (get_or (set fs j f) i flow0).inflow) same ∙ ap (λ y. y.inflow) (get_or-set_same fs j f flow0 jf) ∙ reach_came o ∙ ap (λ i. (get_or fs i flow0).inflow) (sym same)
        by false e =
            let ne : m ≢ j = λ q. (let z : ◌≡◌ {A = Bool} true false = sym (eq-eqb m j q) ∙ e in let y : ◌≡◌ {A = ℕ} 0 1 = cc in let w : ⊥ = omega arith in w) in
            ap (λ y. y.inflow) (get_or-set_other fs j m f flow0 ne)

    -- what another reach may still be passed
    pub room : (k : ℕ) → j < k → k < length fs → (get_or (set fs j f) k flow0).inflow + f.outflow ≤ most
    room k less there =
        let l = t.low in
        let e = due_next fs j (omega arith) in
        let d = due_one fs (j + 1) k (omega arith) in
        let w = stored_within rs j (omega arith) in
        let same = set_in k in
        let keeps = within in
        omega arith

    -- one reach more is routed
    pub routing_more : (y : Reach) → Ahead (get_or rs0 j reach0).channel.next j (length rs0) → Routing rs0 ds fs0 (j + 1) (set rs j r) (passed (get_or rs j y).channel.next f.outflow (set fs j f))
    routing_more y ahead0 =
        let x = f.outflow in
        let nx = (get_or rs j y).channel.next in
        let jf : j < length fs = omega arith in
        let jr : j < length rs = omega arith in
        let ahead : Ahead nx j (length (set fs j f)) = ahead_now y f ahead0 in
        let fs1 = passed nx x (set fs j f) in
        let cut-f : take (j + 1) fs1 ≡ take j fs ++ f ∷ [] = passed_take nx x j (set fs j f) ahead ∙ take_more_set fs j f jf in
        let cut-r : take (j + 1) rs0 ≡ take j rs0 ++ get_or rs0 j reach0 ∷ [] = take_more rs0 j reach0 h in
        let even : length (take j rs0) ≡ length (take j fs) = length-take-le j rs0 (omega arith) ∙ sym (length-take-le j fs (omega arith)) in
        record {
          arrived = λ m l.
              let old = t.arrived m l in
              let pushed : arriving m (take (j + 1) rs0) (take (j + 1) fs1) ≡ arriving m (take j rs0) (take j fs) + cond (names (get_or rs0 j reach0).channel.next m) x 0 = ap (λ y. arriving m y (take (j + 1) fs1)) cut-r ∙ ap (λ y. arriving m (take j rs0 ++ get_or rs0 j reach0 ∷ []) y) cut-f ∙ arriving_push m (take j rs0) (take j fs) (get_or rs0 j reach0) f even in
              let named : cond (names nx m) x 0 ≡ cond (names (get_or rs0 j reach0).channel.next m) x 0 = ap (λ q. cond (names q.channel.next m) x 0) (still y) in
              let come = passed_in nx x j (set fs j f) ahead m in
              let kept = set_in m in
              omega arith;
          done = below_more (λ k. ReachDay (get_or fs1 k flow0).inflow (get_or ds k 0) (get_or rs0 k reach0) (get_or (set rs j r) k reach0) (get_or fs1 k flow0)) j
              (λ k l.
              let ne : k ≢ j = omega arith in
              let fk : get_or fs1 k flow0 ≡ get_or fs k flow0 = passed_low nx x j (set fs j f) ahead k (omega arith) ∙ get_or-set_other fs j k f flow0 ne in
              subst (λ y. ReachDay y.inflow (get_or ds k 0) (get_or rs0 k reach0) (get_or (set rs j r) k reach0) y) (sym fk)
              (subst (λ y. ReachDay (get_or fs k flow0).inflow (get_or ds k 0) (get_or rs0 k reach0) y (get_or fs k flow0)) (sym (get_or-set_other rs j k r reach0 ne)) (t.done k l)))
              (let fj : get_or fs1 j flow0 ≡ f = passed_low nx x j (set fs j f) ahead j (omega arith) ∙ get_or-set_same fs j f flow0 jf in
              let here : ReachDay (get_or fs j flow0).inflow (get_or ds j 0) (get_or rs0 j reach0) r f = subst (λ y. ReachDay (get_or fs j flow0).inflow (get_or ds j 0) y r f) (still z) o in
              subst (λ y. ReachDay y.inflow (get_or ds j 0) (get_or rs0 j reach0) (get_or (set rs j r) j reach0) y) (sym fj)
              (subst (λ y. ReachDay f.inflow (get_or ds j 0) (get_or rs0 j reach0) y f) (sym (get_or-set_same rs j r reach0 jr))
              (subst (λ n. ReachDay n (get_or ds j 0) (get_or rs0 j reach0) r f) (sym (reach_came o)) here)));
          fit = below_more (λ k. (get_or rs0 k reach0).stored + (get_or fs1 k flow0).inflow ≤ most) j
              (λ k l.
              let e : (get_or fs1 k flow0).inflow ≡ (get_or fs k flow0).inflow = ap (λ y. y.inflow) (passed_low nx x j (set fs j f) ahead k (omega arith)) ∙ set_in k in
              let b = t.fit k l in
              omega arith)
              (let e : (get_or fs1 j flow0).inflow ≡ (get_or fs j flow0).inflow = ap (λ y. y.inflow) (passed_low nx x j (set fs j f) ahead j (omega arith)) ∙ set_in j in
              let b = at_most z in
              let w = ap (λ y. y.stored) (still z) in
              omega arith);
          rest = λ k l. let ne : k ≢ j = omega arith in get_or-set_other rs j k r reach0 ne ∙ t.rest k (omega arith);
          low =
              let l = t.low in
              let e = due_next fs j jf in
              let p = passed_due nx x j (set fs j f) ahead in
              let q : due (drop (j + 1) (set fs j f)) ≡ due (drop (j + 1) fs) = ap due (drop-set-lt (j + 1) fs j f (omega arith)) in
              let w = reach_set rs j r jr in
              let keeps = within in
              omega arith;
        }

-- all reaches are routed
pub routing_all : {rs0 : List Reach} {ds : List ℕ} {fs0 : List ReachFlow} {j : ℕ} {rs : List Reach} {fs : List ReachFlow} → Routing rs0 ds fs0 j rs fs → length fs ≡ length rs0 → length rs0 ≤ j → (k : ℕ) → k < length rs0 → ReachDay ((get_or fs0 k flow0).inflow + arriving k rs0 fs) (get_or ds k 0) (get_or rs0 k reach0) (get_or rs k reach0) (get_or fs k flow0)
routing_all {rs0} {ds} {fs0} {j} {rs} {fs} t lf h k l =
    let e : (get_or fs k flow0).inflow ≡ (get_or fs0 k flow0).inflow + arriving k rs0 fs = t.arrived k l ∙ ap (λ y. (get_or fs0 k flow0).inflow + arriving k y (take j fs)) (take_all j rs0 h) ∙ ap (λ y. (get_or fs0 k flow0).inflow + arriving k rs0 y) (take_all j fs (omega arith)) in
    subst (λ n. ReachDay n (get_or ds k 0) (get_or rs0 k reach0) (get_or rs k reach0) (get_or fs k flow0)) e (t.done k (omega arith))

-- ---- the side flow that comes to a reach
-- the sites below i are gathered, and what is left gives the rest
pub record Gathering (ss : List Site) (fs : List UnitFlow) (i : ℕ) (list : List ReachFlow) : Type 0 where
  pub come : (j : ℕ) → j < length list → (get_or list j flow0).inflow + sides j (drop i ss) (drop i fs) ≡ sides j ss fs

-- one site more is gathered
pub gathering_more : {ss : List Site} {fs : List UnitFlow} {i : ℕ} {list : List ReachFlow} (s : Site) (f : UnitFlow) → Gathering ss fs i list → i < length ss → i < length fs → s ≡ get_or ss i s → f ≡ get_or fs i f → s.reach < length list → Gathering ss fs (i + 1) (passed (Some s.reach) (s.area * f.side) list)
gathering_more {ss} {fs} {i} {list} s f t h k is_s is_f there = record {
  come = λ j l.
      let within : j < length list = simp length-set at l in
      let o = t.come j within in
      let a = added_in list s.reach (s.area * f.side) there j in
      let both : sides j (drop i ss) (drop i fs) ≡ cond (eqb s.reach j) (s.area * f.side) 0 + sides j (drop (i + 1) ss) (drop (i + 1) fs) =
      subst (λ y. sides j (drop i ss) (drop i fs) ≡ cond (eqb y.reach j) (y.area * f.side) 0 + sides j (drop (i + 1) ss) (drop (i + 1) fs)) (sym is_s)
      (subst (λ g. sides j (drop i ss) (drop i fs) ≡ cond (eqb (get_or ss i s).reach j) ((get_or ss i s).area * g.side) 0 + sides j (drop (i + 1) ss) (drop (i + 1) fs)) (sym is_f) (at_drops (sides j) ss fs i s f h k)) in
      omega arith;
}
