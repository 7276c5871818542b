-- Records with equal fields are equal, and an aquifer's turn has one outcome. Assumes nothing.
use Rattle.std.specs.Prelude.{◌≡◌, ℕ, refl}
use Rattle.std.proofs.Common.{sym, ◌∙◌}
use Rattle.fixed.proofs.Bounds.{le_at}
use Rattle.stores.specs.declared.flows.Flows.{Flows}
use Rattle.stores.specs.declared.aquifer.Aquifer.{Aquifer}
use Rattle.stores.specs.Groundwater.{AquiferTurn}

pub flows_same : (f g : Flows) → f.side ≡ g.side → f.vapour ≡ g.vapour → f.deep ≡ g.deep → f ≡ g
flows_same f g s v d j = record { side = s j; vapour = v j; deep = d j }

aquifer_same : (a b : Aquifer) → a.water ≡ b.water → a.deep ≡ b.deep → a.threshold ≡ b.threshold → a.recession ≡ b.recession → a ≡ b
aquifer_same a b n d t f j = record {
  water = n j;
  deep = d j;
  threshold = t j;
  recession = f j;
  held = le_at n refl a.held b.held j;
  level = le_at t refl a.level b.level j;
}

pub aquifer_single : {s : Aquifer} {i : ℕ} (t u : Aquifer) (f e : Flows) → AquiferTurn s i t f → AquiferTurn s i u e → (t ≡ u) × (f ≡ e)
aquifer_single t u f e x y = (
  aquifer_same t u (x.water_is ∙ sym y.water_is) (x.same_deep ∙ sym y.same_deep) (x.same_threshold ∙ sym y.same_threshold) (x.same_recession ∙ sym y.same_recession),
  flows_same f e (x.side_is ∙ sym y.side_is) (x.vapour_is ∙ sym y.vapour_is) (x.deep_is ∙ sym y.deep_is),
)
