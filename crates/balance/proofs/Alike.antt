-- Over a store with one outcome a balance has one. Assumes nothing.
use Rattle.std.proofs.Common.{◌≡◌, ℕ, ◌<◌, ◌≤◌, List, ◌∷◌, length, Some, None, Ok, Err, sum_by, Option, Result, sym, refl, ap, ◌∙◌, subst, inl, inr, arith}
use Rattle.std.proofs.lemmas.Bool.Decides.{leb_tells}
use Rattle.refusals.specs.Refusals.{Refusal, weather_refusal}
use Rattle.refusals.specs.declared.weather.WeatherFault.{WeatherFault}
use Rattle.weather.specs.Days.{Figures, figures}
use Rattle.weather.specs.Meaning.{Meaning, asked}
use Rattle.weather.specs.declared.day.Day.{Day}
use Rattle.weather.proofs.Same.{answer_same}
use Rattle.stores.specs.Meaning.{limit}
use Rattle.stores.specs.Outcome.{Single}
use Rattle.stores.specs.declared.flows.Flows.{Flows}
use Rattle.balance.specs.Agreement.{Agree}
use Rattle.balance.specs.Course.{Accepted, Days, none, more, Refuses, Ends, Ran}
use Rattle.balance.specs.declared.balance.Moved.{Moved}
use Rattle.balance.specs.declared.balance.Sums.{Sums}
use Rattle.balance.specs.declared.balance.Stop.{Stop}
use Rattle.balance.specs.declared.balance.Stop.TheVariants.{Table, Weather, Store}
use Rattle.balance.specs.declared.balance.Balance.{Balance}

moved_same : (d e : Moved) → d.rain ≡ e.rain → d.flows ≡ e.flows → d ≡ e
moved_same d e r f j = record { rain = r j; flows = f j }

sums_same : (a b : Sums) → a.rain ≡ b.rain → a.side ≡ b.side → a.vapour ≡ b.vapour → a.deep ≡ b.deep → a ≡ b
sums_same a b r s v d = grind arith

balance_same : (a b : Balance) → a.days ≡ b.days → a.sums ≡ b.sums → a.start ≡ b.start → a.end ≡ b.end → a.stop ≡ b.stop → a ≡ b
balance_same a b n m s e p j = record { days = n j; sums = m j; start = s j; end = e j; stop = p j }

-- ---- one answer of the source
refusal_same : (r : Result Figures Refusal) (x y : WeatherFault) → r ≡ Err (weather_refusal x) → r ≡ Err (weather_refusal y) → x ≡ y
refusal_same r x y p q = grind arith

not_both : (r : Result Figures Refusal) (f : Figures) (x : Refusal) → r ≡ Ok f → r ≡ Err x → ⊥
not_both r f x p q = cc

module _ {S : Type 0} (water : S → ℕ) (turns : S → ℕ → ℕ → Day → S → Flows → Type 0) (single : Single turns) (m : Meaning) (station : ℕ) where
  same_day : (n : ℕ) (w v : Day) → asked m station n ≡ Ok (figures w) → asked m station n ≡ Ok (figures v) → w ≡ v
  same_day n w v x y = answer_same (asked m station n) w v x y

  accepted_same : {n : ℕ} {s t u : S} {d e : Moved} → Accepted water turns m station n s t d → Accepted water turns m station n s u e → (t ≡ u) × (d ≡ e)
  accepted_same {n} {s} {t} {u} {d} {e} x y =
      let w = same_day n x.day y.day x.seen y.seen in
      let z : turns s x.day.rain x.day.demand x.day u e.flows = subst (λ (v : Day). turns s v.rain v.demand v u e.flows) (sym w) y.turned in
      let both = single s x.day.rain x.day.demand x.day t u d.flows e.flows x.turned z in
      (both.0, moved_same d e (x.rain_is ∙ ap (λ (v : Day). v.rain) w ∙ sym y.rain_is) both.1)

  -- equally many accepted days
  days_same : {s t u : S} {ds es : List Moved} → Days water turns m station s ds t → Days water turns m station s es u → length ds ≡ length es → (t ≡ u) × (ds ≡ es)
  days_same none none h = (refl, refl)
  days_same none (more q b) h = absurd (omega (arith, h))
  days_same (more p a) none h = absurd (omega (arith, h))
  days_same (more {ds} {t} {u = v} {d} p a) (more {ds = es} {t = u} {u = w} {d = e} q b) h =
      let long : length ds ≡ length es = omega (arith, h) in
      let before = days_same p q long in
      let moved : Accepted water turns m station (length ds) u w e = subst (λ (n : ℕ). Accepted water turns m station n u w e) (sym long) b in
      let here : Accepted water turns m station (length ds) t w e = subst (λ (x : S). Accepted water turns m station (length ds) x w e) (sym before.0) moved in
      let now = accepted_same a here in
      (now.0, λ j. now.1 j ∷ before.1 j)

  -- the days before an index, and the accepted day at it
  record Stage (s : S) (n : ℕ) : Type 0 where
    pub moved : List Moved
    pub at : S
    pub after : S
    pub day : Moved
    pub days : Days water turns m station s moved at
    pub count : n ≡ length moved
    pub next : Accepted water turns m station n at after day

  stage : {s u : S} {es : List Moved} (n : ℕ) → Days water turns m station s es u → n < length es → Stage s n
  stage n none h = absurd (omega (arith, h))
  stage n (more {ds = es} {t} {u} {d = e} q b) h =
      elim (leb_tells (length es) n) [
        | inl x ↦ let long : length es ≡ n = omega (arith, h, x.1) in record { moved = es; at = t; after = u; day = e; days = q; count = sym long; next = subst (λ (k : ℕ). Accepted water turns m station k t u e) long b }
        | inr x ↦ stage n q x.1
      ]

  -- no day is both accepted and refused
  not_accepted : {n : ℕ} {t v : S} {e : Moved} (r : Stop) → Refuses water m station n t r → Accepted water turns m station n t v e → ⊥
  not_accepted (Table x) p a = p
  not_accepted {n} (Weather x) p a = not_both (asked m station n) (figures a.day) (weather_refusal x) a.seen p
  not_accepted {n} (Store x) p a = let w = ap (λ (v : Day). v.rain) (same_day n p.day a.day p.seen a.seen) in omega (arith, w, p.full, a.kept.room)

  ends_within : (n : ℕ) (t : S) (o : Option Stop) → Ends water m station n t o → n ≤ m.days
  ends_within n t None e = omega (arith, e)
  ends_within n t (Some r) e = omega (arith, e.0)

  -- days that have ended are not fewer than others
  not_fewer : {s t u : S} {ds es : List Moved} (o : Option Stop) → Days water turns m station s ds t → Ends water m station (length ds) t o → Days water turns m station s es u → length es ≤ m.days → length ds < length es → ⊥
  not_fewer None p e q h l = omega (arith, e, h, l)
  not_fewer {s} {t} {u} {ds} {es} (Some r) p e q h l =
      let g = stage (length ds) q l in
      let same = (days_same p g.days g.count).0 in
      not_accepted r e.1 (subst (λ (x : S). Accepted water turns m station (length ds) x g.after g.day) (sym same) g.next)

  refuses_same : (n : ℕ) (t : S) (r q : Stop) → Refuses water m station n t r → Refuses water m station n t q → r ≡ q
  refuses_same n t (Table x) q a b = absurd a
  refuses_same n t (Weather x) (Table y) a b = absurd b
  refuses_same n t (Weather x) (Weather y) a b = ap Weather (refusal_same (asked m station n) x y a b)
  refuses_same n t (Weather x) (Store y) a b = absurd (not_both (asked m station n) (figures b.day) (weather_refusal x) b.seen a)
  refuses_same n t (Store x) (Table y) a b = absurd b
  refuses_same n t (Store x) (Weather y) a b = absurd (not_both (asked m station n) (figures a.day) (weather_refusal y) a.seen b)
  refuses_same n t (Store x) (Store y) a b = refl

  ends_same : (n : ℕ) (t : S) (o p : Option Stop) → Ends water m station n t o → Ends water m station n t p → o ≡ p
  ends_same n t None None a b = refl
  ends_same n t None (Some q) a b = absurd (omega (arith, a, b.0))
  ends_same n t (Some r) None a b = absurd (omega (arith, a.0, b))
  ends_same n t (Some r) (Some q) a b = ap Some (refuses_same n t r q a.1 b.1)

  ran_same : (s t u : S) (a b : Balance) → Ran water turns m station s t a → Ran water turns m station s u b → (t ≡ u) × (a ≡ b)
  ran_same s t u a b x y =
      let p = x.going in
      let q = y.going in
      let ea : Ends water m station (length p.moved) t a.stop = subst (λ (n : ℕ). Ends water m station n t a.stop) p.count x.ends in
      let eb : Ends water m station (length q.moved) u b.stop = subst (λ (n : ℕ). Ends water m station n u b.stop) q.count y.ends in
      let less = not_fewer a.stop p.days ea q.days (ends_within (length q.moved) u b.stop eb) in
      let most = not_fewer b.stop q.days eb p.days (ends_within (length p.moved) t a.stop ea) in
      let long : length p.moved ≡ length q.moved = omega (arith, less, most) in
      let same = days_same p.days q.days long in
      let sums : (f : Moved → ℕ) → sum_by f p.moved ≡ sum_by f q.moved = λ f. ap (sum_by f) same.1 in
      let here : Ends water m station (length p.moved) t b.stop = subst (λ (v : S). Ends water m station (length p.moved) v b.stop) (sym same.0) (subst (λ (n : ℕ). Ends water m station n u b.stop) (sym long) eb) in (
        same.0,
        balance_same a b
            (p.count ∙ long ∙ sym q.count)
            (sums_same a.sums b.sums (cc (sums (λ d. d.rain))) (cc (sums (λ d. d.flows.side))) (cc (sums (λ d. d.flows.vapour))) (cc (sums (λ d. d.flows.deep))))
            (x.start_is ∙ sym y.start_is)
            (x.end_is ∙ ap water same.0 ∙ sym y.end_is)
            (ends_same (length p.moved) t a.stop b.stop ea here),
      )

pub agree : {S : Type 0} (water : S → ℕ) (turns : S → ℕ → ℕ → Day → S → Flows → Type 0) → Single turns → Agree water turns
agree water turns single m station s t u a b x y =
    elim (leb_tells (water s) limit) [
      | inl h ↦ ran_same water turns single m station s t u a b (x.within h.1) (y.within h.1)
      | inr h ↦ let p = x.beyond h.1 in let q = y.beyond h.1 in (p.same ∙ sym q.same, p.nothing ∙ sym q.nothing)
    ]
