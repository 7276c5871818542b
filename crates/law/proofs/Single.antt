-- Over units with one outcome a run has one. Assumes nothing.
use Rattle.std.proofs.Common.{◌≡◌, ℕ, ◌+◌, ◌<◌, ◌≤◌, List, ◌∷◌, length, get_or, Some, None, Option, sym, refl, ap, ◌∙◌, subst, inl, inr, arith}
use Rattle.std.specs.Option.{option_map}
use Rattle.std.proofs.lemmas.List.{ext_get_or, same_lists, get_or_default}
use Rattle.std.proofs.lemmas.Bool.Decides.{leb_tells}
use Rattle.refusals.specs.Refusals.{basin_refusal}
use Rattle.refusals.specs.declared.basin.BasinFault.{BasinFault}
use Rattle.weather.specs.Meaning.{Meaning}
use Rattle.weather.specs.declared.day.Day.{Day}
use Rattle.stores.specs.Outcome.{Single}
use Rattle.stores.specs.declared.flows.Flows.{Flows}
use Rattle.network.specs.Records.{reach0, unit0, flow0}
use Rattle.network.specs.declared.site.Site.{Site}
use Rattle.network.specs.declared.flows.UnitFlow.{UnitFlow}
use Rattle.network.specs.declared.flows.ReachFlow.{ReachFlow}
use Rattle.basin.specs.declared.answer.Answer.{Answer}
use Rattle.basin.specs.Tables.{State}
use Rattle.basin.specs.Limits.{total}
use Rattle.basin.specs.Questions.{day_stop}
use Rattle.basin.specs.Day.{Moved, DayOf, flows_of}
use Rattle.basin.specs.Run.{Days, none, more, Ends, Ran, sums_over, unit_over, reach_over}
use Rattle.basin.specs.Loops.{Sound}
use Rattle.basin.proofs.Conserved.{one_of, unit_rain}
use Rattle.basin.proofs.Refusing.{some_none}
use Rattle.basin.proofs.Steady.{same_days, sound_same}
use Rattle.law.specs.Agreement.{fixed}
use Rattle.law.proofs.Twins.{Like, Places, Skies, equal_alike, unit_like, flow_like, like_more}

-- ---- records with equal fields
-- of a unit's day
flow_same : (f g : UnitFlow) → f.rain ≡ g.rain → flows_of f ≡ flows_of g → f ≡ g
flow_same f g r e j = record { rain = r j; side = (e j).side; vapour = (e j).vapour; deep = (e j).deep }

-- of the tables
state_same : {S : Type 0} (a b : State S) → a.units ≡ b.units → a.reaches ≡ b.reaches → a ≡ b
state_same a b u r j = record { units = u j; reaches = r j }

-- of what a day moves
moved_same : (f g : Moved) → f.units ≡ g.units → f.reaches ≡ g.reaches → f ≡ g
moved_same f g u r j = record { units = u j; reaches = r j }

-- two runs agree: in what they leave of the basin, both flow lists, and the figures
pub record SameRun {X : Type 0} (b c : X) (us vs : List UnitFlow) (rs ts : List ReachFlow) (r q : Answer) : Type 0 where
  pub basin : b ≡ c
  pub unit_list : us ≡ vs
  pub reach_list : rs ≡ ts
  pub told : fixed r ≡ fixed q

module _ {S : Type 0} (water : S → ℕ) (turns : S → ℕ → ℕ → Day → S → Flows → Type 0) (single : Single turns) (m : Meaning) where
  -- ---- one day
  -- two accepted days of one index over the same tables
  module _ (index : ℕ) (ss : List Site) (a b c : State S) (f g : Moved) (fit : Sound (length a.units) ss a.reaches) (d : DayOf water turns m index ss a b f) (e : DayOf water turns m index ss a c g) where
    -- every reach counts
    abbrev All : ℕ → Type 0
    All k = Unit {0}

    -- the basin, its sites and its weather are alike to themselves
    like : Like (λ (x y : S). x ≡ y) All ss a a
    like = record { reaches_long = refl; reach = λ k h p. refl; unit = λ i y z h l k p. get_or_default a.units i y z l; up = λ k l h e p. tt; up' = λ k l h e p. tt }

    pl : Places All ss ss
    pl = record { long = refl; site = λ i h p. refl }

    skies : Skies All ss a.reaches m m index
    skies = record { sites = λ i h p. refl; reaches = λ k h p. refl }

    -- so both are alike after the day
    after : Like (λ (x y : S). x ≡ y) All ss b c
    after = like_more (equal_alike turns single) pl like fit fit d e skies

    -- the tables are the same
    tables_same : b ≡ c
    tables_same = state_same b c
        (same_lists b.units c.units (d.units_long ∙ sym e.units_long) (λ i z h. after.unit i z z (omega arith) h (omega arith) tt))
        (ext_get_or reach0 b.reaches c.reaches (d.reaches_long ∙ sym e.reaches_long) (λ j h. after.reach j h tt))

    -- a unit moves the same
    unit_same : (i : ℕ) → i < length a.units → get_or f.units i unit0 ≡ get_or g.units i unit0
    unit_same i h =
        let z = one_of a.units i h in
        flow_same (get_or f.units i unit0) (get_or g.units i unit0) (unit_rain (d.unit i z h) ∙ sym (unit_rain (e.unit i z h))) (unit_like (equal_alike turns single) pl like fit fit d e skies i z z (omega arith) tt).1

    -- and all that moved
    flows_same : f ≡ g
    flows_same = moved_same f g
        (ext_get_or unit0 f.units g.units (d.flows_long ∙ sym e.flows_long) (λ i h. unit_same i (omega arith)))
        (ext_get_or flow0 f.reaches g.reaches (d.reach_flows_long ∙ sym e.reach_flows_long) (λ j h. flow_like (equal_alike turns single) pl like fit fit d e skies j (omega arith) tt))

  -- ---- days
  module _ (from : ℕ) (ss : List Site) (a : State S) (fit : Sound (length a.units) ss a.reaches) where
    -- equally many accepted days
    days_same : {t s : List Moved} {b c : State S} → Days water turns m from ss a t b → Days water turns m from ss a s c → length t ≡ length s → (b ≡ c) × (t ≡ s)
    days_same none none h = (refl, refl)
    days_same none (more q e) h = absurd (omega arith)
    days_same (more p d) none h = absurd (omega arith)
    days_same (more {t = t} {c = u} {b = b} {f = f} p d) (more {t = s} {c = v} {b = c} {f = g} q e) h =
        let long : length t ≡ length s = omega arith in
        let before = days_same p q long in
        let moved : DayOf water turns m (from + length t) ss v c g = subst (λ (n : ℕ). DayOf water turns m (from + n) ss v c g) (sym long) e in
        let here : DayOf water turns m (from + length t) ss u c g = subst (λ (x : State S). DayOf water turns m (from + length t) ss x c g) (sym before.0) moved in
        let now = sound_same (same_days p) fit in
        let moves = flows_same (from + length t) ss u b c f g now d here in
        (tables_same (from + length t) ss u b c f g now d here, λ j. moves j ∷ before.1 j)

    -- the days before an index, and the accepted day at it
    record Stage (n : ℕ) : Type 0 where
      pub moved : List Moved
      pub at : State S
      pub after : State S
      pub flow : Moved
      pub days : Days water turns m from ss a moved at
      pub count : n ≡ length moved
      pub next : DayOf water turns m (from + n) ss at after flow

    -- every index before the last day has its stage
    stage : {t : List Moved} {b : State S} (n : ℕ) → Days water turns m from ss a t b → n < length t → Stage n
    stage n none h = absurd (omega arith)
    stage n (more {t = t} {c = c} {b = b} {f = f} p d) h =
        elim (leb_tells (length t) n) [
          | inl x ↦ let long : length t ≡ n = omega arith in record { moved = t; at = c; after = b; flow = f; days = p; count = sym long; next = subst (λ (k : ℕ). DayOf water turns m (from + k) ss c b f) long d }
          | inr x ↦ stage n p x.1
        ]

    module _ (n : ℕ) where
      -- a run ends within its days
      ends_within : (b : State S) (k : ℕ) (o : Option BasinFault) → Ends water m from n ss b k o → k ≤ n
      ends_within b k None e = omega arith
      ends_within b k (Some r) e = omega arith

      -- days that have ended are not fewer than others
      not_fewer : {t s : List Moved} {b c : State S} (o : Option BasinFault) → Days water turns m from ss a t b → Ends water m from n ss b (length t) o → Days water turns m from ss a s c → length s ≤ n → length t < length s → ⊥
      not_fewer None p e q h l = omega arith
      not_fewer {t} {s} {b} {c} (Some r) p e q h l =
          let g = stage (length t) q l in
          let same = (days_same p g.days g.count).0 in
          some_none (basin_refusal r) (sym e.1 ∙ ap (day_stop water m (from + length t) ss) same ∙ g.next.no_stop)

      -- why they ended, by number and values
      ends_same : (b : State S) (k : ℕ) (o p : Option BasinFault) → Ends water m from n ss b k o → Ends water m from n ss b k p → option_map basin_refusal o ≡ option_map basin_refusal p
      ends_same b k None None x y = refl
      ends_same b k None (Some q) x y = absurd (omega arith)
      ends_same b k (Some r) None x y = absurd (omega arith)
      ends_same b k (Some r) (Some q) x y = sym x.1 ∙ y.1

      -- two runs over the same tables
      pub ran_same : (b c : State S) (us vs : List UnitFlow) (rs ts : List ReachFlow) (r q : Answer) → length us ≡ length vs → length rs ≡ length ts → Ran water turns m from n ss a b us rs r → Ran water turns m from n ss a c vs ts q → SameRun b c us vs rs ts r q
      ran_same b c us vs rs ts r q units_long reaches_long x y =
          let p = x.going in
          let o = y.going in
          let ex : Ends water m from n ss b (length p.moved) r.stop = subst (λ (k : ℕ). Ends water m from n ss b k r.stop) p.count x.ends in
          let ey : Ends water m from n ss c (length o.moved) q.stop = subst (λ (k : ℕ). Ends water m from n ss c k q.stop) o.count y.ends in
          let less = not_fewer r.stop p.days ex o.days (ends_within c (length o.moved) q.stop ey) in
          let most = not_fewer q.stop o.days ey p.days (ends_within b (length p.moved) r.stop ex) in
          let long : length p.moved ≡ length o.moved = omega arith in
          let same = days_same p.days o.days long in
          let here : Ends water m from n ss b (length p.moved) q.stop = subst (λ (v : State S). Ends water m from n ss v (length p.moved) q.stop) (sym same.0) (subst (λ (k : ℕ). Ends water m from n ss c k q.stop) (sym long) ey) in
          let days : r.days ≡ q.days = p.count ∙ long ∙ sym o.count in
          let sums : r.sums ≡ q.sums = p.sums_are ∙ ap (sums_over ss a.reaches) same.1 ∙ sym o.sums_are in
          let start : r.start ≡ q.start = x.start_is ∙ sym y.start_is in
          let end : r.end ≡ q.end = x.end_is ∙ ap (total water ss) same.0 ∙ sym y.end_is in
          let stop = ends_same b (length p.moved) r.stop q.stop ex here in
          record {
            basin = same.0;
            unit_list = ext_get_or unit0 us vs units_long (λ i h. p.unit_list i h ∙ ap (unit_over i) same.1 ∙ sym (o.unit_list i (omega arith)));
            reach_list = ext_get_or flow0 rs ts reaches_long (λ i h. p.reach_list i h ∙ ap (reach_over i) same.1 ∙ sym (o.reach_list i (omega arith)));
            told = λ j. record { days = days j; sums = sums j; start = start j; end = end j; stop = stop j };
          }
