-- Months that ended, as a count of those before a date. Assumes nothing.
use Rattle.std.proofs.Common.{◌≡◌, ℕ, ◌+◌, Bool, true, false, cond, ltb, List, refl, sym, arith}
use Rattle.std.proofs.lemmas.List.Recursion.{is_count_by}
use Rattle.std.specs.List.{count_by}
use Rattle.sources.specs.Calendar.{ended_before}

one_more : (b : Bool) (n : ℕ) → cond b 1 0 + n ≡ cond b (1 + n) n
one_more true n = refl
one_more false n = omega arith

pub ended_count : (ends : List ℕ) (date : ℕ) → count_by (λ end. ltb end date) ends ≡ ended_before ends date
ended_count ends date = sym (is_count_by (λ (l : List ℕ). ended_before l date) (λ end. ltb end date) refl (λ end l. one_more (ltb end date) (ended_before l date)) ends)
