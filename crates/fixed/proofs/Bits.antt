-- The loop over the constants of the decay curve. Assumes nothing.
use Rattle.std.proofs.Common.{◌≡◌, ℕ, ◌+◌, ◌-◌, ◌<◌, List, length, get_or, drop, ap, ◌∙◌, length-drop}
use Rattle.std.proofs.lemmas.List.{drop_more}
use Rattle.fixed.specs.Decay.{decay_bits, decay_bit}

-- one bit more
pub bits_more : (k e i : ℕ) (cs : List ℕ) → i < length cs → decay_bits k (drop i cs) e ≡ decay_bits k (drop (i + 1) cs) (decay_bit k (length cs - (i + 1)) (get_or cs i 0) e)
bits_more k e i cs h = ap (λ (l : List ℕ). decay_bits k l e) (drop_more cs i 0 h) ∙ ap (λ (n : ℕ). decay_bits k (drop (i + 1) cs) (decay_bit k n (get_or cs i 0) e)) (length-drop (i + 1) cs)
