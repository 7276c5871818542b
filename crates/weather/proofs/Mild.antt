-- Integers of bounded size, as code computes with them at 32 bits. Assumes nothing.
use Rattle.std.proofs.Common.{◌≡◌, ℕ, ◌+◌, ◌*◌, ◌/◌, ◌^◌, ◌<◌, ◌≤◌, ◌⊎◌, ℤ, pos, negsuc, ◌+ℤ◌, ◌*ℤ◌, neg_ℤ, ◌≤ℤ◌, refl, inl, inr, arith, w32, SFits}
use lib.Signed.{quot_z}
use borrow.Author.Differences.{up, down, product_is, sum_is_lem, quot_is, neg_is, le_out, at_most_in, fits_in}
use Rattle.std.proofs.lemmas.Nat.{mul-le}

-- both parts of an integer are at most b
pub record Small (b : ℕ) (a : ℤ) : Type 0 where
  pub high : up a ≤ b
  pub low : down a ≤ b

pub small_from : (b : ℕ) (a : ℤ) → a ≤ℤ pos b → neg_ℤ (pos b) ≤ℤ a → Small b a
small_from b (pos n) h l = record { high = omega (arith, le_out _ _ h); low = omega arith }
small_from b (negsuc n) h l = record { high = omega arith; low = omega (arith, le_out _ _ l, (neg_is (pos b)).1, (neg_is (pos b)).0) }

pub small_top : {b : ℕ} (a : ℤ) → Small b a → a ≤ℤ pos b
small_top {b} a s = at_most_in a (pos b) (omega (arith, s.high))

pub small_bottom : {b : ℕ} (a : ℤ) → Small b a → neg_ℤ (pos b) ≤ℤ a
small_bottom {b} a s = at_most_in (neg_ℤ (pos b)) a (omega (arith, s.low, (neg_is (pos b)).0, (neg_is (pos b)).1))

pub small_more : {b c : ℕ} {a : ℤ} → b ≤ c → Small b a → Small c a
small_more h s = record { high = omega (arith, s.high); low = omega (arith, s.low) }

pub small_scaled : {b : ℕ} (k : ℕ) (a : ℤ) → Small b a → Small (k * b) (pos k *ℤ a)
small_scaled {b} k a s = record {
  high = omega (arith, (product_is (pos k) a).0, mul-le k (up a) k b (omega arith) s.high);
  low = omega (arith, (product_is (pos k) a).1, mul-le k (down a) k b (omega arith) s.low);
}

one_none : (z : ℤ) → (up z ≡ 0) ⊎ (down z ≡ 0)
one_none (pos n) = inr refl
one_none (negsuc n) = inl refl

pub small_sum : {b c : ℕ} (x y : ℤ) → Small b x → Small c y → Small (b + c) (x +ℤ y)
small_sum {b} {c} x y s t =
    elim (one_none (x +ℤ y)) [
      | inl e ↦ record { high = omega (arith, e); low = omega (arith, e, sum_is_lem x y, s.low, t.low) }
      | inr e ↦ record { high = omega (arith, e, sum_is_lem x y, s.high, t.high); low = omega (arith, e) }
    ]

pub small_thousandth : {b : ℕ} (a : ℤ) → Small b a → Small (b / 1000) (quot_z a (pos 1000))
small_thousandth a s = record { high = omega (arith, (quot_is a 1000).0, s.high); low = omega (arith, (quot_is a 1000).1, s.low) }

pub small_fits : {b : ℕ} {a : ℤ} → b < 2 ^ 31 → Small b a → SFits w32 a
small_fits {b} {a} h s = fits_in w32 a (omega (arith, s.high, s.low))

-- a higher and a lower integer within b
pub small_between : (b : ℕ) (h l : ℤ) → h ≤ℤ pos b → l ≤ℤ h → neg_ℤ (pos b) ≤ℤ l → Small b h × Small b l
small_between b h l top order bottom = (
  small_from b h top (at_most_in (neg_ℤ (pos b)) h (omega (arith, le_out _ _ order, le_out _ _ bottom))),
  small_from b l (at_most_in l (pos b) (omega (arith, le_out _ _ order, le_out _ _ top))) bottom,
)
