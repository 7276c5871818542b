-- What a store means: its turn and its questions. Assumes nothing.
use Rattle.std.specs.Prelude.{◌≡◌, ℕ, ◌+◌, ◌<◌, ◌≤◌, Ok, Err, Result}
use Rattle.refusals.specs.Refusals.{refuse, store_refusal}
use Rattle.refusals.specs.declared.store.Overfull.{Overfull}
use Rattle.weather.specs.declared.day.Day.{Day}
use Rattle.stores.specs.declared.flows.Flows.{Flows}

-- the most water that a store takes, in micrometres
abbrev pub limit : ℕ
limit = 100000000

-- what leaves a store by a turn
abbrev pub gone : Flows → ℕ
gone f = f.side + f.vapour + f.deep

-- a turn that is taken, by the store's water before and after
pub record Kept (before inflow demand after : ℕ) (f : Flows) : Type 0 where
  pub room : before + inflow ≤ limit
  pub balance : after + gone f ≡ before + inflow
  pub drunk : f.vapour ≤ demand

-- a turn of a store that holds `water` and divides it by `turns`: taken, or refused where the limit is passed and the store is as it was
abbrev pub Turned : {S : Type 0} → (S → ℕ) → (S → ℕ → ℕ → Day → S → Flows → Type 0) → S → ℕ → ℕ → Day → S → Result Flows Overfull → Type 0
Turned water turns s i d w t (Ok f) = Kept (water s) i d (water t) f × turns s i d w t f
Turned water turns s i d w t (Err e) = (limit < water s + i) × (t ≡ s) × (store_refusal e ≡ refuse 41 0)

-- a question to a store that holds `water`: answered, or refused where that passes the limit
abbrev pub Told : ℕ → ℕ → Result ℕ Overfull → Type 0
Told water answer (Ok r) = (water ≤ limit) × (r ≡ answer)
Told water answer (Err e) = (limit < water) × (store_refusal e ≡ refuse 41 0)
