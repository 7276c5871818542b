-- Two proofs of one bound are one, so records that carry bounds are equal where their figures are. Assumes nothing.
use Rattle.std.proofs.Common.{◌≡◌, ℕ, ◌≤◌, ℤ, ◌≤ℤ◌, refl}
use mathlib.Core.Path.{PathP}
use mathlib.Core.HLevel.{is_prop→PathP}
use native.Mathlib.Bridge.{le_prop}
use lib.Dec.{T_prop}
use lib.Signed.{le_z}
use Rattle.fixed.specs.declared.share.Share.{Share}

pub le_at : {a b c d : ℕ} (e : a ≡ b) (f : c ≡ d) (x : a ≤ c) (y : b ≤ d) → PathP (λ j. e j ≤ f j) x y
le_at e f x y = is_prop→PathP (λ j. e j ≤ f j) (λ j. le_prop) x y

int_le_prop : {a b : ℤ} (x y : a ≤ℤ b) → x ≡ y
int_le_prop {a} {b} x y j = record { le = T_prop (le_z a b) x.le y.le j }

pub int_le_at : {a b c d : ℤ} (e : a ≡ b) (f : c ≡ d) (x : a ≤ℤ c) (y : b ≤ℤ d) → PathP (λ j. e j ≤ℤ f j) x y
int_le_at e f x y = is_prop→PathP (λ j. e j ≤ℤ f j) (λ j. int_le_prop) x y

pub share_same : (a b : Share) → a.millionths ≡ b.millionths → a ≡ b
share_same a b e j = record { millionths = e j; within = le_at e refl a.within b.within j }
