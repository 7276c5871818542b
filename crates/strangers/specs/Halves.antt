-- The water of the stranger's store, and how it divides it: nothing is said. Assumes nothing.
use Rattle.std.specs.Prelude.{ℕ}
use Rattle.weather.specs.declared.day.Day.{Day}
use Rattle.stores.specs.declared.flows.Flows.{Flows}
use Rattle.strangers.specs.declared.half.Half.{Half}

abbrev pub half_water : Half → ℕ
half_water s = s.water

abbrev pub half_turns : Half → ℕ → ℕ → Day → Half → Flows → Type 0
half_turns s i d w t f = Unit {0}
