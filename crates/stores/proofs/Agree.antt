-- Where taken turns have one outcome, turns have one, refused ones included. Assumes nothing.
use Rattle.std.proofs.Common.{◌≡◌, ℕ, Ok, Err, sym, refl, ap, ◌∙◌, arith}
use Rattle.refusals.specs.declared.store.Overfull.{Overfull}
use Rattle.weather.specs.declared.day.Day.{Day}
use Rattle.stores.specs.declared.flows.Flows.{Flows}
use Rattle.stores.specs.Outcome.{Single, OneOutcome}

overfull_same : (a b : Overfull) → a ≡ b
overfull_same a b = refl

module _ {S : Type 0} (water : S → ℕ) (turns : S → ℕ → ℕ → Day → S → Flows → Type 0) (single : Single turns) where
  pub one_outcome : OneOutcome water turns
  one_outcome s i d w t u (Ok f) (Ok e) x y = let z = single s i d w t u f e x.1 y.1 in (z.0, ap Ok z.1)
  one_outcome s i d w t u (Ok f) (Err e) x y = absurd (omega (arith, x.0.room, y.0))
  one_outcome s i d w t u (Err e) (Ok f) x y = absurd (omega (arith, x.0, y.0.room))
  one_outcome s i d w t u (Err a) (Err b) x y = (x.1 ∙ sym y.1, ap Err (overfull_same a b))
