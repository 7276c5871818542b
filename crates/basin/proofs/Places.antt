-- A list that a loop writes place by place. Assumes nothing.
use Rattle.std.proofs.Common.{◌≡◌, ℕ, ◌+◌, ◌<◌, ◌≤◌, ◌≢◌, List, length, get_or, set, sym, ◌∙◌, subst, arith, get_or-set_other, get_or-set_same, below_more, ap, replicate}
use Rattle.std.proofs.lemmas.List.{get_or-replicate, length-replicate}

-- the list xs, made out of the list old: below i each element is its old one and the one of day added by G, from i on it is as it was
pub record Adding {X : Type 0} (G : X → X → X → Type 0) (old day : List X) (i : ℕ) (xs : List X) : Type 0 where
  pub done : (k : ℕ) (z : X) → k < i → G (get_or old k z) (get_or day k z) (get_or xs k z)
  pub rest : (k : ℕ) (z : X) → i ≤ k → get_or xs k z ≡ get_or old k z

-- what holds of every place below i, with any default, holds of one place more
pub written_more : {X : Type 0} (P : ℕ → X → Type 0) (xs : List X) (i : ℕ) (y : X) → i < length xs → ((k : ℕ) (z : X) → k < i → P k (get_or xs k z)) → P i y → (k : ℕ) (z : X) → k < i + 1 → P k (get_or (set xs i y) k z)
written_more {X} P xs i y h below here k z l =
    below_more (λ (n : ℕ). (z : X) → P n (get_or (set xs i y) n z)) i
    (λ n b z. let ne : n ≢ i = omega arith in subst (P n) (sym (get_or-set_other xs i n y z ne)) (below n z b))
    (λ z. subst (P i) (sym (get_or-set_same xs i y z h)) here) k l z

-- a list filled with x has x at each place
pub filled : {X : Type 0} (xs : List X) (n : ℕ) (x : X) → xs ≡ replicate n x → (k : ℕ) → k < length xs → get_or xs k x ≡ x
filled {X} xs n x e k h =
    let long : length xs ≡ n = ap length e ∙ length-replicate n x in
    ap (λ (ys : List X). get_or ys k x) e ∙ get_or-replicate n k x x (omega arith)
