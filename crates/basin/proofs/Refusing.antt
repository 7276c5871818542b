-- What it tells that no refusal was found. Assumes nothing.
use Rattle.std.proofs.Common.{◌≡◌, ℕ, Bool, true, false, cond, Some, None, Option, refl, arith}
use Rattle.refusals.specs.Refusals.{Refusal}
use Rattle.basin.specs.Tables.{or_else, refused_unless}

-- a refusal is not none
pub some_none : {X : Type 0} (x : X) → Some x ≡ None → ⊥
some_none x e = let z : ◌≡◌ {A = ℕ} 0 1 = cc in omega arith

-- where the first of two refusals is none, neither is there
pub both_none : (p q : Option Refusal) → or_else p q ≡ None → (p ≡ None) × (q ≡ None)
both_none None q e = (refl, e)
both_none (Some x) q e = absurd (some_none x e)

-- a test that refuses nothing passed
pub unless_none : (b : Bool) (x : Refusal) → refused_unless b x ≡ None → b ≡ true
unless_none true x e = refl
unless_none false x e = absurd (some_none x e)

-- a test before further ones: it passed, and they refuse nothing
pub cond_none : (b : Bool) (p : Option Refusal) (x : Refusal) → cond b p (Some x) ≡ None → (b ≡ true) × (p ≡ None)
cond_none true p x e = (refl, e)
cond_none false p x e = absurd (some_none x e)
