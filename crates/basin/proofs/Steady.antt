-- What stays over the days and the calls of a basin. Assumes nothing.
use Rattle.std.proofs.Common.{◌≡◌, ℕ, suc, ◌<◌, List, [], ◌∷◌, length, get_or, set, sym, refl, ap, ◌∙◌, subst, inl, inr, arith, length-set, get_or-set_other, get_or-set_same}
use Rattle.std.proofs.lemmas.Bool.{cases_eq}
use Rattle.weather.specs.Meaning.{Meaning}
use Rattle.weather.specs.declared.day.Day.{Day}
use Rattle.stores.specs.declared.flows.Flows.{Flows}
use Rattle.network.specs.Records.{reach0}
use Rattle.network.specs.declared.channel.Channel.{Channel}
use Rattle.network.specs.declared.site.Site.{Site}
use Rattle.network.specs.declared.reach.Reach.{Reach}
use Rattle.network.specs.declared.flows.ReachFlow.{ReachFlow}
use Rattle.basin.specs.Tables.{State, View}
use Rattle.basin.specs.Day.{Moved, DayOf}
use Rattle.basin.specs.Run.{Days, none, more, leaving, stream_flow}
use Rattle.basin.specs.Loops.{Ahead, Sound}
use Rattle.basin.specs.Calls.{filled}

-- as many units and reaches, and every channel as it was
pub record Steady {S : Type 0} (a b : State S) : Type 0 where
  pub units : length b.units ≡ length a.units
  pub reaches : length b.reaches ≡ length a.reaches
  pub channel : (j : ℕ) → j < length a.reaches → (get_or b.reaches j reach0).channel ≡ (get_or a.reaches j reach0).channel

-- nothing changed
pub steady_here : {S : Type 0} (a : State S) → Steady a a
steady_here a = record { units = refl; reaches = refl; channel = λ j h. refl }

-- one step after another
pub steady_on : {S : Type 0} {a b c : State S} → Steady a b → Steady b c → Steady a c
steady_on p q = record { units = q.units ∙ p.units; reaches = q.reaches ∙ p.reaches; channel = λ j h. q.channel j (omega (arith, p.reaches)) ∙ p.channel j h }

-- one reach written, its settings kept
pub set_channel : (rs : List Reach) (k x i : ℕ) → i < length rs → (get_or (set rs k (record { channel = (get_or rs k reach0).channel; stored = x })) i reach0).channel ≡ (get_or rs i reach0).channel
set_channel rs k x i h =
    let r : Reach = record { channel = (get_or rs k reach0).channel; stored = x } in
    elim (cases_eq i k) [
      | inl e ↦
          let there : k < length rs = omega (arith, h, e) in
          ap (λ (y : ℕ). (get_or (set rs k r) y reach0).channel) e ∙ ap (λ (y : Reach). y.channel) (get_or-set_same rs k r reach0 there) ∙ ap (λ (y : ℕ). (get_or rs y reach0).channel) (sym e)
      | inr ne ↦ ap (λ (y : Reach). y.channel) (get_or-set_other rs k i r reach0 ne)
    ]

-- and so for the basin whose reach was filled
pub steady_set : {S : Type 0} (k x : ℕ) (a : View S) → Steady a.state (filled k x a).state
steady_set k x a = record { units = refl; reaches = length-set _ _ _; channel = λ j h. set_channel a.state.reaches k x j h }

-- tables that stay so fit as they did
pub sound_same : {S : Type 0} {a b : State S} {ss : List Site} → Steady a b → Sound (length a.units) ss a.reaches → Sound (length b.units) ss b.reaches
sound_same {S} {a} {b} e s = record {
  some = s.some;
  few = s.few;
  many = e.units ∙ s.many;
  few_reaches = omega (arith, s.few_reaches, e.reaches);
  site = λ i h. let l = s.site i h in omega (arith, e.reaches);
  next = λ j h.
      let l : j < length a.reaches = omega (arith, e.reaches) in
      subst (λ (c : Channel). Ahead c.next j (length b.reaches)) (sym (e.channel j l)) (subst (λ (n : ℕ). Ahead (get_or a.reaches j reach0).channel.next j n) (sym e.reaches) (s.next j l));
}

module _ {S : Type 0} {water : S → ℕ} {turns : S → ℕ → ℕ → Day → S → Flows → Type 0} {m : Meaning} {ss : List Site} where
  -- over one day
  pub same_day : {index : ℕ} {a b : State S} {f : Moved} → DayOf water turns m index ss a b f → Steady a b
  same_day d = record { units = d.units_long; reaches = d.reaches_long; channel = λ j h. ap (λ (r : Reach). r.channel) (d.reach j h).after_is }

  -- and over many
  pub same_days : {from : ℕ} {a b : State S} {t : List Moved} → Days water turns m from ss a t b → Steady a b
  same_days {a = a} none = steady_here a
  same_days (more w d) = steady_on (same_days w) (same_day d)

-- the stream is a matter of the channels alone
stream_same : (rs qs : List Reach) (fs : List ReachFlow) → length rs ≡ length qs → ((j : ℕ) → j < length qs → (get_or rs j reach0).channel ≡ (get_or qs j reach0).channel) → stream_flow rs fs ≡ stream_flow qs fs
stream_same [] [] fs e h = refl
stream_same [] (q ∷ qs) fs e h = absurd (let z : ⊥ = omega arith in z)
stream_same (r ∷ rs) [] fs e h = absurd (let z : ⊥ = omega arith in z)
stream_same (r ∷ rs) (q ∷ qs) [] e h = refl
stream_same (r ∷ rs) (q ∷ qs) (f ∷ fs) e h =
    let first : leaving r.channel.next f.outflow ≡ leaving q.channel.next f.outflow = ap (λ (c : Channel). leaving c.next f.outflow) (h 0 (omega arith)) in
    let rest = stream_same rs qs fs (omega arith) (λ i l. h (suc i) (omega arith)) in
    omega arith

-- and so is it of a basin whose channels stay
pub stream_steady : {S : Type 0} {a b : State S} (fs : List ReachFlow) → Steady a b → stream_flow b.reaches fs ≡ stream_flow a.reaches fs
stream_steady {S} {a} {b} fs e = stream_same b.reaches a.reaches fs e.reaches e.channel
