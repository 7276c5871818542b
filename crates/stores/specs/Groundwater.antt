-- The two bottoms: how an aquifer and bare rock divide their water. Assumes nothing.
use Rattle.std.specs.Prelude.{◌≡◌, ℕ, ◌+◌, ◌-◌, cond, [], ◌∷◌, ℤ, pos, Some, None, Ok, Err, Option, Result, nat_lt}
use Rattle.fixed.specs.Limits.{outside, first}
use Rattle.fixed.specs.Shares.{part_of}
use Rattle.refusals.specs.Refusals.{Refusal, refuse, aquifer_refusal}
use Rattle.refusals.specs.declared.aquifer.AquiferSetting.{AquiferSetting}
use Rattle.stores.specs.declared.flows.Flows.{Flows}
use Rattle.stores.specs.declared.aquifer.Aquifer.{Aquifer}

-- the refusal of the first setting outside: own water, deep share, flow threshold, flow share
abbrev pub aquifer_fault : ℤ → ℤ → ℤ → ℤ → Option Refusal
aquifer_fault own loss level rate = first (
    (outside (pos 0) (pos 100000000) own, refuse 12 1) ∷
    (outside (pos 0) (pos 1000000) loss, refuse 12 2) ∷
    (outside (pos 0) (pos 100000000) level, refuse 12 3) ∷
    (outside (pos 0) (pos 1000000) rate, refuse 12 4) ∷ [])

-- an aquifer of these settings, or the refusal
abbrev pub AquiferMade : ℤ → ℤ → ℤ → ℤ → Result Aquifer AquiferSetting → Type 0
AquiferMade own loss level rate (Ok s) = (aquifer_fault own loss level rate ≡ None) × (pos s.water ≡ own) × (pos s.deep.millionths ≡ loss) × (pos s.threshold ≡ level) × (pos s.recession.millionths ≡ rate)
AquiferMade own loss level rate (Err e) = aquifer_fault own loss level rate ≡ Some (aquifer_refusal e)

-- what an inflow loses to the deep
abbrev pub lost : Aquifer → ℕ → ℕ
lost s i = part_of i s.deep.millionths

-- the water once the rest of an inflow has joined
abbrev pub joined : Aquifer → ℕ → ℕ
joined s i = s.water + (i - lost s i)

-- what flows sideways out of this much water: nothing up to the threshold
abbrev pub baseflow : Aquifer → ℕ → ℕ
baseflow s n = cond (nat_lt s.threshold n) (part_of n s.recession.millionths) 0

pub record AquiferTurn (s : Aquifer) (i : ℕ) (t : Aquifer) (f : Flows) : Type 0 where
  pub side_is : f.side ≡ baseflow s (joined s i)
  pub vapour_is : f.vapour ≡ 0
  pub deep_is : f.deep ≡ lost s i
  pub water_is : t.water ≡ joined s i - baseflow s (joined s i)
  pub same_deep : t.deep ≡ s.deep
  pub same_threshold : t.threshold ≡ s.threshold
  pub same_recession : t.recession ≡ s.recession

abbrev pub aquifer_gives : Aquifer → ℕ → Flows
aquifer_gives s i = record { side = baseflow s (joined s i); vapour = 0; deep = lost s i }

-- rock lets all of an inflow go sideways
abbrev pub rock_gives : ℕ → Flows
rock_gives i = record { side = i; vapour = 0; deep = 0 }
