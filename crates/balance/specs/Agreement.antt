-- Two balances of one column agree. Assumes nothing.
use Rattle.std.specs.Prelude.{◌≡◌, ℕ}
use Rattle.weather.specs.Meaning.{Meaning}
use Rattle.weather.specs.declared.day.Day.{Day}
use Rattle.stores.specs.declared.flows.Flows.{Flows}
use Rattle.balance.specs.Course.{Course}
use Rattle.balance.specs.declared.balance.Balance.{Balance}

-- two suppliers that both keep the contract of a balance, given the same column, the same meaning of the source and the same station, end with the same column and the same figures
abbrev pub Agree : {S : Type 0} → (S → ℕ) → (S → ℕ → ℕ → Day → S → Flows → Type 0) → Type 0
Agree {S} water turns =
    (m : Meaning) (station : ℕ) (s t u : S) (a b : Balance) →
    Course water turns m station s t a → Course water turns m station s u b → (t ≡ u) × (a ≡ b)
