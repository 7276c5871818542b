use Rattle.std.proofs.Common.{◌≡◌, ℕ, ◌/◌, ℤ, nat_abs, ap, ◌∙◌, w32, to_z, of_z, rules}
use Rattle.std.proofs.lemmas.Int.{to_z-of_z}
use Rattle.fixed.specs.Decay.{decay_at}
use Rattle.fixed.specs.Moisture.{moisture_above, exponent_at, moisture_by}
use Rattle.fixed.proofs.shape.Shape.above.Goals as goal

pub returns : goal.returns
unfolding moisture_above
returns c =
    let s = c.args.self.now in
    let x = c.args.x.millionths in
    let a = exponent_at x s.c1 s.c2 in
    let r = c.exponent-a.result in
    let back : to_z w32 (of_z w32 r) ≡ r = to_z-of_z w32 r (search rules) in
    let bent : to_z w32 (of_z w32 r) ≡ a = back ∙ c.exponent-a.ensures in
    let abs : c.unsigned_abs.result ≡ nat_abs a = c.unsigned_abs.ensures.value ∙ ap nat_abs bent in
    let e : c.decay-e.result ≡ decay_at (nat_abs a) = c.decay-e.ensures.value ∙ ap decay_at abs in
    c.moisture_by.ensures ∙ ap (λ (z : ℤ). moisture_by x z (c.decay-e.result / 1000)) bent ∙ ap (λ (n : ℕ). moisture_by x a (n / 1000)) e
