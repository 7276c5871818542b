-- Packs with equal fields are equal, and a pack's turn has one outcome. Assumes nothing.
use Rattle.std.specs.Prelude.{◌≡◌, ℕ, ◌-◌, ℤ, pos, negsuc, ◌≤ℤ◌, refl}
use Rattle.std.proofs.Math.Path.{PathP}
use Rattle.std.proofs.Common.{sym, ◌∙◌}
use Rattle.weather.specs.declared.day.Day.{Day}
use Rattle.snow.specs.declared.pack.Pack.{Pack}
use Rattle.snow.specs.declared.pack_turn.Passed.{Passed}
use Rattle.stores.specs.declared.flows.Flows.{Flows}
use Rattle.snow.specs.Pack.{PackTurn, passes_of, dries_of}
use Rattle.snow.specs.Snowpack.{SnowpackTurn, snowpack_gives}
use Rattle.stores.specs.Outcome.{Single, Given}
use Rattle.fixed.proofs.Bounds.{le_at, int_le_at}
use Rattle.stores.specs.Same.{flows_same}

between_at : (lo hi : ℤ) {a b : ℤ} (e : a ≡ b) (x : (a ≤ℤ hi) × (lo ≤ℤ a)) (y : (b ≤ℤ hi) × (lo ≤ℤ b)) → PathP (λ j. (e j ≤ℤ hi) × (lo ≤ℤ e j)) x y
between_at lo hi e x y j = (int_le_at e refl x.0 y.0 j, int_le_at refl e x.1 y.1 j)

pub pack_same : (p q : Pack) → p.water ≡ q.water → p.temperature ≡ q.temperature → p.snowfall ≡ q.snowfall → p.melting ≡ q.melting → p.lag ≡ q.lag → p.factor ≡ q.factor → p ≡ q
pack_same p q n t s m l r j = record {
  water = n j;
  temperature = t j;
  snowfall = s j;
  melting = m j;
  lag = l j;
  factor = r j;
  held = le_at n refl p.held q.held j;
  cold = between_at (negsuc 5999) (pos 6000) t p.cold q.cold j;
  falls = between_at (negsuc 499) (pos 500) s p.falls q.falls j;
  melts = between_at (negsuc 499) (pos 500) m p.melts q.melts j;
  lags = le_at l refl p.lags q.lags j;
  paced = le_at r refl p.paced q.paced j;
}

pub passed_same : (a b : Passed) → a.below ≡ b.below → a.vapour ≡ b.vapour → a ≡ b
passed_same a b s v j = record { below = s j; vapour = v j }

turn_same : {p : Pack} {i d : ℕ} {w : Day} {q r : Pack} → PackTurn p i d w q → PackTurn p i d w r → q ≡ r
turn_same {q = q} {r = r} x y = pack_same q r
    (x.water_is ∙ sym y.water_is)
    (x.temperature_is ∙ sym y.temperature_is)
    (x.same_snowfall ∙ sym y.same_snowfall)
    (x.same_melting ∙ sym y.same_melting)
    (x.same_lag ∙ sym y.same_lag)
    (x.same_factor ∙ sym y.same_factor)

-- ---- a pack over a store whose turn has one outcome
module _ {L : Type 0} (turns : L → ℕ → ℕ → Day → L → Flows → Type 0) (single : Single turns) where
  pub snow_single : {p : Pack} {l : L} {i d : ℕ} {w : Day} (q r : Pack) (m n : L) (f e : Flows) → SnowpackTurn turns p l i d w q m f → SnowpackTurn turns p l i d w r n e → (q ≡ r) × (m ≡ n) × (f ≡ e)
  snow_single {p} {l} {i} {d} {w} q r m n f e x y =
      let both = single l (passes_of p i w) (d - dries_of p i d w) w m n x.below y.below x.lower_turn y.lower_turn in
      (turn_same x.pack_turn y.pack_turn, both.0, flows_same f e (cc (x.side_is, y.side_is, both.1)) (cc (x.vapour_is, y.vapour_is, both.1)) (cc (x.deep_is, y.deep_is, both.1)))

module _ {L : Type 0} (turns : L → ℕ → ℕ → Day → L → Flows → Type 0) (gives : L → ℕ → ℕ → Day → Flows) (given : Given turns gives) where
  pub snow_given : {p : Pack} {l : L} {i d : ℕ} {w : Day} (q : Pack) (m : L) (f : Flows) → SnowpackTurn turns p l i d w q m f → f ≡ snowpack_gives gives p l i d w
  snow_given {p} {l} {i} {d} {w} q m f x =
      let g = given l (passes_of p i w) (d - dries_of p i d w) w m x.below x.lower_turn in
      flows_same f (snowpack_gives gives p l i d w) (cc (x.side_is, g)) (cc (x.vapour_is, g)) (cc (x.deep_is, g))
