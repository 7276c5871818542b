-- Which next reach a reach may have. Assumes nothing.
use Rattle.std.specs.Prelude.{ℕ, Bool, false, Some, None, Option, ◌==◌}

-- whether it is the first reach, to which nothing flows
abbrev pub is_first : Option ℕ → Bool
is_first None = false
is_first (Some k) = k == 0
