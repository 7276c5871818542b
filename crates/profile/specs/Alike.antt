-- Layers and soils with equal fields are equal, and a profile's turn has one outcome. Assumes nothing.
use Rattle.std.specs.Prelude.{◌≡◌, ℕ, ◌+◌, ◌<◌, ◌≤◌, List, [], ◌∷◌, ◌++◌, take, drop, refl}
use Rattle.std.proofs.Common.{sym, ap, ◌∙◌}
use mathlib.Core.HLevel.{is_prop→PathP}
use Rattle.std.proofs.Math.Bridge.{le_prop}
use Rattle.std.proofs.lemmas.List.{take-append-drop}
use Rattle.weather.specs.declared.day.Day.{Day}
use Rattle.stores.specs.declared.flows.Flows.{Flows}
use Rattle.stores.specs.Outcome.{Single, Given}
use Rattle.fixed.proofs.Bounds.{le_at}
use Rattle.stores.specs.Same.{flows_same}
use Rattle.profile.specs.declared.layer.Layer.{Layer}
use Rattle.profile.specs.declared.descent.Descent.{Descent}
use Rattle.profile.specs.declared.soil.Soil.{Soil}
use Rattle.profile.specs.Layers.{LayerTurn, through}
use Rattle.profile.specs.Soils.{LayersTurn, SoilTurn, layers_of, entering, descended}
use Rattle.profile.specs.Profiles.{ProfileTurn, profile_gives}

pub layer_same : (a b : Layer) → a.wilting ≡ b.wilting → a.capacity ≡ b.capacity → a.water ≡ b.water → a.percolation ≡ b.percolation → a.lateral ≡ b.lateral → a.demand ≡ b.demand → a ≡ b
layer_same a b w c n p l d j = record {
  wilting = w j;
  capacity = c j;
  water = n j;
  percolation = p j;
  lateral = l j;
  demand = d j;
  points = (is_prop→PathP (λ k. w k < c k) (λ k. le_prop) a.points.0 b.points.0 j, le_at c refl a.points.1 b.points.1 j);
  held = (le_at w n a.held.0 b.held.0 j, le_at n refl a.held.1 b.held.1 j);
  parts = is_prop→PathP (λ k. (p k).millionths + (l k).millionths ≤ 1000000) (λ k. le_prop) a.parts b.parts j;
}

layer_single : {l : Layer} {r : Descent} (m n : Layer) → LayerTurn l r m → LayerTurn l r n → m ≡ n
layer_single m n x y = layer_same m n (x.same_wilting ∙ sym y.same_wilting) (x.same_capacity ∙ sym y.same_capacity) (x.water_is ∙ sym y.water_is) (x.same_percolation ∙ sym y.same_percolation) (x.same_lateral ∙ sym y.same_lateral) (x.same_demand ∙ sym y.same_demand)

layers_single : (ls : List Layer) (r : Descent) (ms ns : List Layer) → LayersTurn ls r ms → LayersTurn ls r ns → ms ≡ ns
layers_single [] r [] [] x y = refl
layers_single [] r [] (n ∷ ns) x y = absurd y
layers_single [] r (m ∷ ms) ns x y = absurd x
layers_single (l ∷ ls) r [] ns x y = absurd x
layers_single (l ∷ ls) r (m ∷ ms) [] x y = absurd y
layers_single (l ∷ ls) r (m ∷ ms) (n ∷ ns) x y =
    let head = layer_single m n x.0 y.0 in
    let rest = layers_single ls (through l r) ms ns x.1 y.1 in
    λ j. head j ∷ rest j

pub soil_same : (a b : Soil) → a.layers.rows ≡ b.layers.rows → a.count ≡ b.count → a ≡ b
soil_same a b l c j = record { layers = record { rows = l j }; count = c j; within = le_at c refl a.within b.within j }

-- the layers have one outcome, and the rows past them are as they were
soil_single : {k : Soil} {i d : ℕ} (a b : Soil) → SoilTurn k i d a → SoilTurn k i d b → a ≡ b
soil_single {k} {i} {d} a b x y =
    let n = k.count in
    let xs = a.layers.rows in
    let ys = b.layers.rows in
    let turned = layers_single (layers_of k) (entering i d) (layers_of a) (layers_of b) x.turned y.turned in
    let front : take n xs ≡ take n ys = ap (λ (m : ℕ). take m xs) (sym x.same_count) ∙ turned ∙ ap (λ (m : ℕ). take m ys) y.same_count in
    let back : drop n xs ≡ drop n ys = x.same_rest ∙ sym y.same_rest in
    let all : xs ≡ ys = sym (take-append-drop n xs) ∙ (λ j. front j ++ back j) ∙ take-append-drop n ys in
    soil_same a b all (x.same_count ∙ sym y.same_count)

module _ {L : Type 0} (turns : L → ℕ → ℕ → Day → L → Flows → Type 0) (single : Single turns) where
  pub profile_single : {k : Soil} {l : L} {i d : ℕ} {w : Day} (a b : Soil) (m n : L) (f e : Flows) → ProfileTurn turns k l i d w a m f → ProfileTurn turns k l i d w b n e → (a ≡ b) × (m ≡ n) × (f ≡ e)
  profile_single {k} {l} {i} {d} {w} a b m n f e x y =
      let r = descended k i d in
      let below = single l r.seepage r.demand w m n x.below y.below x.lower_turn y.lower_turn in
      (soil_single a b x.soil_turn y.soil_turn, below.0, flows_same f e (cc (x.side_is, y.side_is, below.1)) (cc (x.vapour_is, y.vapour_is, below.1)) (cc (x.deep_is, y.deep_is, below.1)))

module _ {L : Type 0} (turns : L → ℕ → ℕ → Day → L → Flows → Type 0) (gives : L → ℕ → ℕ → Day → Flows) (given : Given turns gives) where
  pub profile_given : {k : Soil} {l : L} {i d : ℕ} {w : Day} (a : Soil) (m : L) (f : Flows) → ProfileTurn turns k l i d w a m f → f ≡ profile_gives gives k l i d w
  profile_given {k} {l} {i} {d} {w} a m f x =
      let r = descended k i d in
      let below = given l r.seepage r.demand w m x.below x.lower_turn in
      flows_same f (profile_gives gives k l i d w) (cc (x.side_is, below)) (cc (x.vapour_is, below)) (cc (x.deep_is, below))
