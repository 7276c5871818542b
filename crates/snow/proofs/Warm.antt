-- The pack's next temperature as the code computes it at 32 bits: lag l, old temperature t, mean m. Assumes nothing.
use Rattle.std.proofs.Common.{◌≡◌, ℕ, ◌-◌, ◌≤◌, ℤ, pos, ◌+ℤ◌, ◌*ℤ◌, arith, w32, SFits, to_z, of_z}
use lib.Signed.{quot_z}
use Rattle.std.proofs.lemmas.Int.{to_z-of_z, to_z_pos}
use Rattle.weather.proofs.Mild.{Small, small_scaled, small_sum, small_more, small_thousandth, small_fits, small_from}
use Rattle.snow.specs.declared.pack.Pack.{Pack}

module _ (l : ℕ) (t m : ℤ) (h : l ≤ 1000) (st : Small 6000 t) (sm : Small 6000 m) where
  pub mixed : Small 6000000 (pos (1000 - l) *ℤ t +ℤ pos l *ℤ m)
  mixed = small_more (omega arith) (small_sum (pos (1000 - l) *ℤ t) (pos l *ℤ m) (small_scaled (1000 - l) t st) (small_scaled l m sm))

  pub next_small : Small 6000 (quot_z (pos (1000 - l) *ℤ t +ℤ pos l *ℤ m) (pos 1000))
  next_small = small_thousandth (pos (1000 - l) *ℤ t +ℤ pos l *ℤ m) mixed

  kept_is : to_z w32 (1000 - l) *ℤ to_z w32 (of_z w32 t) ≡ pos (1000 - l) *ℤ t
  kept_is =
      let e = to_z_pos w32 (1000 - l) (omega arith) in
      let f : SFits w32 t = small_fits (omega arith) st in
      simp (e, to_z-of_z)

  new_is : to_z w32 l *ℤ to_z w32 (of_z w32 m) ≡ pos l *ℤ m
  new_is =
      let e = to_z_pos w32 l (omega arith) in
      let f : SFits w32 m = small_fits (omega arith) sm in
      simp (e, to_z-of_z)

  kept_fits' : SFits w32 (pos (1000 - l) *ℤ t)
  kept_fits' = small_fits (omega arith) (small_scaled (1000 - l) t st)

  new_fits' : SFits w32 (pos l *ℤ m)
  new_fits' = small_fits (omega arith) (small_scaled l m sm)

  pub kept_fits : SFits w32 (to_z w32 (1000 - l) *ℤ to_z w32 (of_z w32 t))
  kept_fits = rw kept_is kept_fits'

  pub new_fits : SFits w32 (to_z w32 l *ℤ to_z w32 (of_z w32 m))
  new_fits = rw new_is new_fits'

  sum_is : to_z w32 (of_z w32 (to_z w32 (1000 - l) *ℤ to_z w32 (of_z w32 t))) +ℤ to_z w32 (of_z w32 (to_z w32 l *ℤ to_z w32 (of_z w32 m))) ≡ pos (1000 - l) *ℤ t +ℤ pos l *ℤ m
  sum_is =
      let f = kept_fits' in
      let g = new_fits' in
      rw (kept_is, new_is, to_z-of_z w32 (pos (1000 - l) *ℤ t), to_z-of_z w32 (pos l *ℤ m))

  pub sum_fits : SFits w32 (to_z w32 (of_z w32 (to_z w32 (1000 - l) *ℤ to_z w32 (of_z w32 t))) +ℤ to_z w32 (of_z w32 (to_z w32 l *ℤ to_z w32 (of_z w32 m))))
  sum_fits = rw sum_is (small_fits (omega arith) mixed)

  pub next_is : to_z w32 (of_z w32 (quot_z (to_z w32 (of_z w32 (to_z w32 (of_z w32 (to_z w32 (1000 - l) *ℤ to_z w32 (of_z w32 t))) +ℤ to_z w32 (of_z w32 (to_z w32 l *ℤ to_z w32 (of_z w32 m)))))) (pos 1000))) ≡ quot_z (pos (1000 - l) *ℤ t +ℤ pos l *ℤ m) (pos 1000)
  next_is =
      let f : SFits w32 (pos (1000 - l) *ℤ t +ℤ pos l *ℤ m) = small_fits (omega arith) mixed in
      let g : SFits w32 (quot_z (pos (1000 - l) *ℤ t +ℤ pos l *ℤ m) (pos 1000)) = small_fits (omega arith) next_small in
      rw (sum_is, to_z-of_z w32 (pos (1000 - l) *ℤ t +ℤ pos l *ℤ m), to_z-of_z w32 (quot_z (pos (1000 - l) *ℤ t +ℤ pos l *ℤ m) (pos 1000)))

pub pack_mild : (p : Pack) → Small 6000 p.temperature
pack_mild p = small_from 6000 p.temperature p.cold.0 p.cold.1
