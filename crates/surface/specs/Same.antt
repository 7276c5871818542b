-- A surface over a store with one outcome has one. Assumes nothing.
use Rattle.std.specs.Prelude.{◌≡◌, ℕ, ◌-◌}
use Rattle.std.proofs.Common.{sym, ◌∙◌}
use Rattle.stores.specs.Outcome.{Single, Given}
use Rattle.stores.specs.declared.flows.Flows.{Flows}
use Rattle.stores.specs.Same.{flows_same}
use Rattle.weather.specs.declared.day.Day.{Day}
use Rattle.surface.specs.declared.retention.Retention.{Retention}
use Rattle.surface.specs.Surface.{SurfaceTurn, surface_gives, runoff_over}

module _ {L : Type 0} (root : L → ℕ) (turns : L → ℕ → ℕ → Day → L → Flows → Type 0) (single : Single turns) where
  pub surface_single : {k : Retention} {l : L} {i d : ℕ} {w : Day} (q r : Retention) (m n : L) (f e : Flows) → SurfaceTurn root turns k l i d w q m f → SurfaceTurn root turns k l i d w r n e → (q ≡ r) × (m ≡ n) × (f ≡ e)
  surface_single {k} {l} {i} {d} {w} q r m n f e x y =
      let both = single l (i - runoff_over root k l i) d w m n x.below y.below x.lower_turn y.lower_turn in
      (x.same_settings ∙ sym y.same_settings, both.0, flows_same f e (cc (x.side_is, y.side_is, both.1)) (cc (x.vapour_is, y.vapour_is, both.1)) (cc (x.deep_is, y.deep_is, both.1)))

module _ {L : Type 0} (root : L → ℕ) (turns : L → ℕ → ℕ → Day → L → Flows → Type 0) (gives : L → ℕ → ℕ → Day → Flows) (given : Given turns gives) where
  pub surface_given : {k : Retention} {l : L} {i d : ℕ} {w : Day} (q : Retention) (m : L) (f : Flows) → SurfaceTurn root turns k l i d w q m f → f ≡ surface_gives root gives k l i d w
  surface_given {k} {l} {i} {d} {w} q m f x =
      let g = given l (i - runoff_over root k l i) d w m x.below x.lower_turn in
      flows_same f (surface_gives root gives k l i d w) (cc (x.side_is, g)) (cc (x.vapour_is, g)) (cc (x.deep_is, g))
