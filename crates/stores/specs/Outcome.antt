-- Stores whose turn has exactly one outcome. Assumes nothing.
use Rattle.std.specs.Prelude.{◌≡◌, ℕ, Result}
use Rattle.refusals.specs.declared.store.Overfull.{Overfull}
use Rattle.weather.specs.declared.day.Day.{Day}
use Rattle.stores.specs.declared.flows.Flows.{Flows}
use Rattle.stores.specs.Meaning.{Turned}

-- what `turns` allows of one store, inflow, demand and day is one store after and one answer
abbrev pub Single : {S : Type 0} → (S → ℕ → ℕ → Day → S → Flows → Type 0) → Type 0
Single {S} turns = (s : S) (i d : ℕ) (w : Day) (t u : S) (f e : Flows) → turns s i d w t f → turns s i d w u e → (t ≡ u) × (f ≡ e)

-- the answer is that of `gives`
abbrev pub Given : {S : Type 0} → (S → ℕ → ℕ → Day → S → Flows → Type 0) → (S → ℕ → ℕ → Day → Flows) → Type 0
Given {S} turns gives = (s : S) (i d : ℕ) (w : Day) (t : S) (f : Flows) → turns s i d w t f → f ≡ gives s i d w

-- two turns of one store with the same inflow, demand and day, refused ones included, end alike
abbrev pub OneOutcome : {S : Type 0} → (S → ℕ) → (S → ℕ → ℕ → Day → S → Flows → Type 0) → Type 0
OneOutcome {S} water turns =
    (s : S) (i d : ℕ) (w : Day) (t u : S) (r q : Result Flows Overfull) →
    Turned water turns s i d w t r → Turned water turns s i d w u q → (t ≡ u) × (r ≡ q)
