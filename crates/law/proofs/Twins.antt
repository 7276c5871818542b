-- Two basins, maybe of two kinds of unit, that are alike in some reaches and in all that drains to them: days keep them so. Assumes nothing.
use Rattle.std.proofs.Common.{◌≡◌, ℕ, zero, suc, ◌+◌, ◌*◌, ◌<◌, Bool, true, false, cond, eqb, ◌⊎◌, List, [], ◌∷◌, length, get_or, set, Some, None, Option, sym, refl, ap, ◌∙◌, subst, inl, inr, arith, length-set, get_or-set_other, get_or-set_same, eqb-true}
use borrow.Author.Tests.{both_ways}
use Rattle.std.proofs.lemmas.Bool.{cases_eq}
use Rattle.weather.specs.Meaning.{Meaning, asked}
use Rattle.weather.specs.declared.day.Day.{Day}
use Rattle.weather.proofs.Same.{answer_same}
use Rattle.stores.specs.declared.flows.Flows.{Flows}
use Rattle.stores.specs.Outcome.{Single}
use Rattle.network.specs.Records.{site0, reach0, unit0, flow0}
use Rattle.network.specs.Routing.{arriving, names, reach_after, reach_flow, sides}
use Rattle.network.specs.declared.channel.Channel.{Channel}
use Rattle.network.specs.declared.site.Site.{Site}
use Rattle.network.specs.declared.reach.Reach.{Reach}
use Rattle.network.specs.declared.flows.UnitFlow.{UnitFlow}
use Rattle.network.specs.declared.flows.ReachFlow.{ReachFlow}
use Rattle.basin.specs.Tables.{State}
use Rattle.basin.specs.Questions.{demand_of, demand_at}
use Rattle.basin.specs.Day.{Moved, DayOf, flows_of}
use Rattle.basin.specs.Run.{Days, none, more, reach_over}
use Rattle.basin.specs.Loops.{Ahead, Sound}
use Rattle.basin.proofs.Conserved.{one_of}
use Rattle.basin.proofs.Steady.{same_day, same_days, sound_same, set_channel}

-- ---- sums over places that are alike
-- the side flow that comes to a reach
sides_same : (k : ℕ) (ss ss' : List Site) (fs fs' : List UnitFlow) → length fs ≡ length ss → length ss' ≡ length ss → length fs' ≡ length ss →
    ((i : ℕ) → i < length ss → cond (eqb (get_or ss i site0).reach k) ((get_or ss i site0).area * (get_or fs i unit0).side) 0 ≡ cond (eqb (get_or ss' i site0).reach k) ((get_or ss' i site0).area * (get_or fs' i unit0).side) 0) → sides k ss fs ≡ sides k ss' fs'
sides_same k [] [] fs fs' e1 e2 e3 h = refl
sides_same k [] (s' ∷ ss') fs fs' e1 e2 e3 h = absurd (omega arith)
sides_same k (s ∷ ss) [] fs fs' e1 e2 e3 h = absurd (omega arith)
sides_same k (s ∷ ss) (s' ∷ ss') [] fs' e1 e2 e3 h = absurd (omega arith)
sides_same k (s ∷ ss) (s' ∷ ss') (f ∷ fs) [] e1 e2 e3 h = absurd (omega arith)
sides_same k (s ∷ ss) (s' ∷ ss') (f ∷ fs) (f' ∷ fs') e1 e2 e3 h =
    let one : cond (eqb s.reach k) (s.area * f.side) 0 ≡ cond (eqb s'.reach k) (s'.area * f'.side) 0 = h 0 (omega arith) in
    let rest = sides_same k ss ss' fs fs' (omega arith) (omega arith) (omega arith) (λ i l. h (suc i) (omega arith)) in
    λ j. one j + rest j

-- the outflow that comes to it from other reaches
arriving_same : (k : ℕ) (rs rs' : List Reach) (fs fs' : List ReachFlow) → length fs ≡ length rs → length rs' ≡ length rs → length fs' ≡ length rs →
    ((i : ℕ) → i < length rs → cond (names (get_or rs i reach0).channel.next k) (get_or fs i flow0).outflow 0 ≡ cond (names (get_or rs' i reach0).channel.next k) (get_or fs' i flow0).outflow 0) → arriving k rs fs ≡ arriving k rs' fs'
arriving_same k [] [] fs fs' e1 e2 e3 h = refl
arriving_same k [] (r' ∷ rs') fs fs' e1 e2 e3 h = absurd (omega arith)
arriving_same k (r ∷ rs) [] fs fs' e1 e2 e3 h = absurd (omega arith)
arriving_same k (r ∷ rs) (r' ∷ rs') [] fs' e1 e2 e3 h = absurd (omega arith)
arriving_same k (r ∷ rs) (r' ∷ rs') (f ∷ fs) [] e1 e2 e3 h = absurd (omega arith)
arriving_same k (r ∷ rs) (r' ∷ rs') (f ∷ fs) (f' ∷ fs') e1 e2 e3 h =
    let one : cond (names r.channel.next k) f.outflow 0 ≡ cond (names r'.channel.next k) f'.outflow 0 = h 0 (omega arith) in
    let rest = arriving_same k rs rs' fs fs' (omega arith) (omega arith) (omega arith) (λ i l. h (suc i) (omega arith)) in
    λ j. one j + rest j

-- a next reach that is named is that one
names_true : (o : Option ℕ) (k : ℕ) → names o k ≡ true → o ≡ Some k
names_true None k e = absurd (both_ways false refl e)
names_true (Some l) k e = ap {B = Option ℕ} Some (eqb-true l k e)

-- two tests that agree wherever one of them is true give equal figures, where both are true
pick : {X : Type 0} (t t' : Bool) (x x' y : X) → (t ≡ true → t ≡ t') → (t' ≡ true → t ≡ t') → (t ≡ true → x ≡ x') → cond t x y ≡ cond t' x' y
pick true true x x' y f g h = h refl
pick true false x x' y f g h = absurd (both_ways false refl (sym (f refl)))
pick false true x x' y f g h = absurd (both_ways false refl (g refl))
pick false false x x' y f g h = refl

-- ---- alike in the reaches of P, and in the units that name them; what drains to a reach of P, in either, is of P
pub record Like {S T : Type 0} (same : S → T → Type 0) (P : ℕ → Type 0) (ss : List Site) (a : State S) (a' : State T) : Type 0 where
  pub reaches_long : length a'.reaches ≡ length a.reaches
  pub reach : (k : ℕ) → k < length a.reaches → P k → get_or a.reaches k reach0 ≡ get_or a'.reaches k reach0
  pub unit : (i : ℕ) (y : S) (z : T) → i < length ss → i < length a.units → i < length a'.units → P (get_or ss i site0).reach → same (get_or a.units i y) (get_or a'.units i z)
  pub up : (k l : ℕ) → k < length a.reaches → (get_or a.reaches k reach0).channel.next ≡ Some l → P l → P k
  pub up' : (k l : ℕ) → k < length a.reaches → (get_or a'.reaches k reach0).channel.next ≡ Some l → P l → P k

-- two tables of sites that are alike where they name a reach of P
pub record Places (P : ℕ → Type 0) (ss ss' : List Site) : Type 0 where
  pub long : length ss' ≡ length ss
  pub site : (i : ℕ) → i < length ss → P (get_or ss i site0).reach ⊎ P (get_or ss' i site0).reach → get_or ss i site0 ≡ get_or ss' i site0

-- the weather of an index, at the sites and the reaches of P
pub record Skies (P : ℕ → Type 0) (ss : List Site) (rs : List Reach) (m m' : Meaning) (index : ℕ) : Type 0 where
  pub sites : (i : ℕ) → i < length ss → P (get_or ss i site0).reach → asked m (get_or ss i site0).station index ≡ asked m' (get_or ss i site0).station index
  pub reaches : (k : ℕ) → k < length rs → P k → asked m (get_or rs k reach0).channel.station index ≡ asked m' (get_or rs k reach0).channel.station index

-- units that are the same turn to the same, with the same flows
abbrev pub TurnAlike : {S T : Type 0} → (S → T → Type 0) → (S → ℕ → ℕ → Day → S → Flows → Type 0) → (T → ℕ → ℕ → Day → T → Flows → Type 0) → Type 0
TurnAlike {S} {T} same turns turns' = (s : S) (t : T) (i d : ℕ) (w : Day) (s' : S) (t' : T) (f g : Flows) → same s t → turns s i d w s' f → turns' t i d w t' g → same s' t' × (f ≡ g)

-- equal units of a kind with one outcome turn alike
pub equal_alike : {S : Type 0} (turns : S → ℕ → ℕ → Day → S → Flows → Type 0) → Single turns → TurnAlike (λ (s t : S). s ≡ t) turns turns
equal_alike {S} turns single s t i d w s' t' f g e x y = single s i d w s' t' f g x (subst (λ (u : S). turns u i d w t' g) (sym e) y)

module _ {S T : Type 0} {water : S → ℕ} {turns : S → ℕ → ℕ → Day → S → Flows → Type 0} {water' : T → ℕ} {turns' : T → ℕ → ℕ → Day → T → Flows → Type 0} {same : S → T → Type 0} (alike : TurnAlike same turns turns') {P : ℕ → Type 0} {ss ss' : List Site} (pl : Places P ss ss') where
  module _ {a b : State S} {a' b' : State T} {f f' : Moved} {m m' : Meaning} {index : ℕ} (like : Like same P ss a a') (s : Sound (length a.units) ss a.reaches) (s' : Sound (length a'.units) ss' a'.reaches)
      (d : DayOf water turns m index ss a b f) (d' : DayOf water' turns' m' index ss' a' b' f') (skies : Skies P ss a.reaches m m' index) where
    -- each site has its unit, in both
    inside : (i : ℕ) → i < length ss → i < length a.units
    inside i h = omega arith

    inside' : (i : ℕ) → i < length ss → i < length a'.units
    inside' i h = omega arith

    -- a unit of P turns alike in both
    pub unit_like : (i : ℕ) (y : S) (z : T) → i < length ss → P (get_or ss i site0).reach → same (get_or b.units i y) (get_or b'.units i z) × (flows_of (get_or f.units i unit0) ≡ flows_of (get_or f'.units i unit0))
    unit_like i y z h p =
        let one = d.unit i y (inside i h) in
        let two = d'.unit i z (inside' i h) in
        let there : asked m (get_or ss i site0).station index ≡ asked m' (get_or ss' i site0).station index = skies.sites i h p ∙ ap (λ (x : Site). asked m' x.station index) (pl.site i h (inl p)) in
        let day : one.day ≡ two.day = answer_same (asked m (get_or ss i site0).station index) one.day two.day one.seen (there ∙ two.seen) in
        let u' = get_or a'.units i z in
        let v' = get_or b'.units i z in
        let g = flows_of (get_or f'.units i unit0) in
        let turned : turns' u' one.day.rain one.day.demand one.day v' g = subst (λ (w : Day). turns' u' w.rain w.demand w v' g) (sym day) two.turned in
        alike (get_or a.units i y) u' one.day.rain one.day.demand one.day (get_or b.units i y) v' (flows_of (get_or f.units i unit0)) g (like.unit i y z h (inside i h) (inside' i h) p) one.turned turned

    -- the side flow that comes to a reach of P
    side_like : (k : ℕ) → P k → sides k ss f.units ≡ sides k ss' f'.units
    side_like k p = sides_same k ss ss' f.units f'.units (d.flows_long ∙ s.many) pl.long (d'.flows_long ∙ s'.many ∙ pl.long) each
      where
        each : (i : ℕ) → i < length ss → cond (eqb (get_or ss i site0).reach k) ((get_or ss i site0).area * (get_or f.units i unit0).side) 0 ≡ cond (eqb (get_or ss' i site0).reach k) ((get_or ss' i site0).area * (get_or f'.units i unit0).side) 0
        each i h =
            let here : eqb (get_or ss i site0).reach k ≡ true → P (get_or ss i site0).reach = λ e. subst P (sym (eqb-true (get_or ss i site0).reach k e)) p in
            let there : eqb (get_or ss' i site0).reach k ≡ true → P (get_or ss' i site0).reach = λ e. subst P (sym (eqb-true (get_or ss' i site0).reach k e)) p in
            pick (eqb (get_or ss i site0).reach k) (eqb (get_or ss' i site0).reach k) ((get_or ss i site0).area * (get_or f.units i unit0).side) ((get_or ss' i site0).area * (get_or f'.units i unit0).side) 0
            (λ e. ap (λ (x : Site). eqb x.reach k) (pl.site i h (inl (here e))))
            (λ e. ap (λ (x : Site). eqb x.reach k) (pl.site i h (inr (there e))))
            (λ e.
            let q = here e in
            let both = unit_like i (one_of a.units i (inside i h)) (one_of a'.units i (inside' i h)) h q in
            let area = ap (λ (x : Site). x.area) (pl.site i h (inl q)) in
            let side = ap (λ (x : Flows). x.side) both.1 in
            λ j. area j * side j)

    -- what comes to a reach of P from those above it, where the earlier ones of P give the same
    arrive_like : (k : ℕ) → P k → ((l : ℕ) → l < k → l < length a.reaches → P l → get_or f.reaches l flow0 ≡ get_or f'.reaches l flow0) → arriving k a.reaches f.reaches ≡ arriving k a'.reaches f'.reaches
    arrive_like k p earlier = arriving_same k a.reaches a'.reaches f.reaches f'.reaches d.reach_flows_long like.reaches_long (d'.reach_flows_long ∙ like.reaches_long) each
      where
        each : (i : ℕ) → i < length a.reaches → cond (names (get_or a.reaches i reach0).channel.next k) (get_or f.reaches i flow0).outflow 0 ≡ cond (names (get_or a'.reaches i reach0).channel.next k) (get_or f'.reaches i flow0).outflow 0
        each i h =
            let n = (get_or a.reaches i reach0).channel.next in
            let n' = (get_or a'.reaches i reach0).channel.next in
            let agree : P i → names n k ≡ names n' k = λ q. ap (λ (x : Reach). names x.channel.next k) (like.reach i h q) in
            pick (names n k) (names n' k) (get_or f.reaches i flow0).outflow (get_or f'.reaches i flow0).outflow 0
            (λ e. agree (like.up i k h (names_true n k e) p))
            (λ e. agree (like.up' i k h (names_true n' k e) p))
            (λ e.
            let is = names_true n k e in
            let less = (subst (λ (o : Option ℕ). Ahead o i (length a.reaches)) is (s.next i h)).0 in
            ap (λ (x : ReachFlow). x.outflow) (earlier i less h (like.up i k h is p)))

    -- both together
    inflow_like : (k : ℕ) → P k → ((l : ℕ) → l < k → l < length a.reaches → P l → get_or f.reaches l flow0 ≡ get_or f'.reaches l flow0) → sides k ss f.units + arriving k a.reaches f.reaches ≡ sides k ss' f'.units + arriving k a'.reaches f'.reaches
    inflow_like k p earlier = let x = side_like k p in let y = arrive_like k p earlier in λ j. x j + y j

    -- each reach is there in both
    inside_reach : (k : ℕ) → k < length a.reaches → k < length a'.reaches
    inside_reach k h = omega arith

    -- a reach of P flows alike, where the earlier ones do
    flow_at : (k : ℕ) → k < length a.reaches → P k → ((l : ℕ) → l < k → l < length a.reaches → P l → get_or f.reaches l flow0 ≡ get_or f'.reaches l flow0) → get_or f.reaches k flow0 ≡ get_or f'.reaches k flow0
    flow_at k h p earlier =
        let inflow = inflow_like k p earlier in
        let r = like.reach k h p in
        let demand : demand_at m (get_or a.reaches k reach0).channel.station index ≡ demand_at m' (get_or a'.reaches k reach0).channel.station index = ap demand_of (skies.reaches k h p) ∙ ap (λ (x : Reach). demand_at m' x.channel.station index) r in
        (d.reach k h).flow_is ∙ (λ j. reach_flow (inflow j) (demand j) (r j)) ∙ sym (d'.reach k (inside_reach k h)).flow_is

    -- and so do all below n
    flow_below : (n k : ℕ) → k < n → k < length a.reaches → P k → get_or f.reaches k flow0 ≡ get_or f'.reaches k flow0
    flow_below zero k l h p = absurd (omega arith)
    flow_below (suc n) k l h p = flow_at k h p (λ i li hi pi. flow_below n i (omega arith) hi pi)

    -- every reach of P has the same flows
    pub flow_like : (k : ℕ) → k < length a.reaches → P k → get_or f.reaches k flow0 ≡ get_or f'.reaches k flow0
    flow_like k h p = flow_below (suc k) k (omega arith) h p

    -- and after the day both are still alike
    pub like_more : Like same P ss b b'
    like_more = record {
      reaches_long = d'.reaches_long ∙ like.reaches_long ∙ sym d.reaches_long;
      reach = λ k h p.
          let h0 : k < length a.reaches = omega arith in
          let inflow = inflow_like k p (λ l _ hl q. flow_like l hl q) in
          let r = like.reach k h0 p in
          (d.reach k h0).after_is ∙ (λ j. reach_after (inflow j) (r j)) ∙ sym (d'.reach k (inside_reach k h0)).after_is;
      unit = λ i y z h _ _ p. (unit_like i y z h p).0;
      up = λ k l h e p.
          let h0 : k < length a.reaches = omega arith in
          like.up k l h0 (sym (ap (λ (c : Channel). c.next) ((same_day d).channel k h0)) ∙ e) p;
      up' = λ k l h e p.
          let h0 : k < length a.reaches = omega arith in
          like.up' k l h0 (sym (ap (λ (c : Channel). c.next) ((same_day d').channel k (inside_reach k h0))) ∙ e) p;
    }

  -- equally many days of two runs
  module _ {m m' : Meaning} {from : ℕ} {a : State S} {a' : State T} (like : Like same P ss a a') (s : Sound (length a.units) ss a.reaches) (s' : Sound (length a'.units) ss' a'.reaches) where
    pub days_like : {t t' : List Moved} {b : State S} {b' : State T} → Days water turns m from ss a t b → Days water' turns' m' from ss' a' t' b' → length t' ≡ length t →
        ((d : ℕ) → d < length t → Skies P ss a.reaches m m' (from + d)) → Like same P ss b b' × ((k : ℕ) → k < length a.reaches → P k → (reach_over k t).outflow ≡ (reach_over k t').outflow)
    days_like none none e w = (like, λ k h p. refl)
    days_like none (more x y) e w = absurd (omega arith)
    days_like (more x y) none e w = absurd (omega arith)
    days_like (more {t = t} {c = c} {b = b} {f = f} x d) (more {t = t'} {c = c'} {b = b'} {f = f'} x' d') e w =
        let rest = days_like x x' (omega arith) (λ k l. w k (omega arith)) in
        let kept = same_days x in
        let sc = sound_same kept s in
        let sc' = sound_same (same_days x') s' in
        let long : length t' ≡ length t = omega arith in
        let d2 : DayOf water' turns' m' (from + length t) ss' c' b' f' = subst (λ (n : ℕ). DayOf water' turns' m' (from + n) ss' c' b' f') long d' in
        let w0 = w (length t) (omega arith) in
        let sky : Skies P ss c.reaches m m' (from + length t) = record {
          sites = w0.sites;
          reaches = λ k h p.
              let h0 : k < length a.reaches = omega arith in
              subst (λ (q : Channel). asked m q.station (from + length t) ≡ asked m' q.station (from + length t)) (sym (kept.channel k h0)) (w0.reaches k h0 p);
        } in (
          like_more rest.0 sc sc' d d2 sky,
          λ k h p.
              let old = rest.1 k h p in
              let new = ap (λ (q : ReachFlow). q.outflow) (flow_like rest.0 sc sc' d d2 sky k (omega arith) p) in
              λ j. old j + new j,
        )

-- a reach with other water
abbrev holding : List Reach → ℕ → ℕ → Reach
holding rs k x = record { channel = (get_or rs k reach0).channel; stored = x }

-- one reach written in both, with equal water where it had equal water
pub like_set : {S T : Type 0} {same : S → T → Type 0} {P : ℕ → Type 0} {ss : List Site} {a : State S} {a' : State T} (k x x' : ℕ) → Like same P ss a a' → ((get_or a.reaches k reach0).stored ≡ (get_or a'.reaches k reach0).stored → x ≡ x') →
    Like same P ss (record { units = a.units; reaches = set a.reaches k (holding a.reaches k x) }) (record { units = a'.units; reaches = set a'.reaches k (holding a'.reaches k x') })
like_set {S} {T} {same} {P} {ss} {a} {a'} k x x' like so =
    record {
      reaches_long = length-set a'.reaches k r' ∙ like.reaches_long ∙ sym (length-set a.reaches k r);
      reach = λ i l p. go i (simp length-set at l) p;
      unit = like.unit;
      up = λ i l h e p.
          let h0 : i < length a.reaches = (simp length-set at h) in
          like.up i l h0 (sym (ap (λ (c : Channel). c.next) (set_channel a.reaches k x i h0)) ∙ e) p;
      up' = λ i l h e p.
          let h0 : i < length a.reaches = (simp length-set at h) in
          like.up' i l h0 (sym (ap (λ (c : Channel). c.next) (set_channel a'.reaches k x' i (omega arith))) ∙ e) p;
    }
  where
    r : Reach
    r = holding a.reaches k x

    r' : Reach
    r' = holding a'.reaches k x'

    go : (i : ℕ) → i < length a.reaches → P i → get_or (set a.reaches k r) i reach0 ≡ get_or (set a'.reaches k r') i reach0
    go i l p =
        elim (cases_eq i k) [
          | inl w ↦
              let h : k < length a.reaches = omega arith in
              let h' : k < length a'.reaches = omega arith in
              let one = like.reach k h (subst P w p) in
              let two = so (ap (λ (q : Reach). q.stored) one) in
              let equal : r ≡ r' = λ j. record { channel = (one j).channel; stored = two j } in
              ap (λ (y : ℕ). get_or (set a.reaches k r) y reach0) w ∙ get_or-set_same a.reaches k r reach0 h ∙ equal ∙ sym (get_or-set_same a'.reaches k r' reach0 h') ∙ ap (λ (y : ℕ). get_or (set a'.reaches k r') y reach0) (sym w)
          | inr ne ↦ get_or-set_other a.reaches k i r reach0 ne ∙ like.reach i l p ∙ sym (get_or-set_other a'.reaches k i r' reach0 ne)
        ]
