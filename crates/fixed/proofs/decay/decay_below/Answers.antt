use Rattle.std.proofs.Common.{◌≡◌, ℕ, ◌+◌, ◌-◌, List, get_or, drop, sym, ap, ◌∙◌, arith}
use Rattle.std.proofs.lemmas.List.{drop_all}
use Rattle.fixed.specs.Decay.{decay_below, decay_bits, decay_bit, constants}
use Rattle.fixed.proofs.Bits.{bits_more}
use Rattle.fixed.proofs.decay.decay_below.Goals as goal

pub loop-i-preserved : goal.loop-i-preserved
loop-i-preserved c =
    let k = c.args.k in
    let i = c.loop-i.i in
    let e = c.loop-i.e in
    let place : 13 - i ≡ 14 - (i + 1) = omega arith in
    let step : c.decay_bit-e.result ≡ decay_bit k (14 - (i + 1)) (get_or constants i 0) e = c.decay_bit-e.ensures.value ∙ ap (λ (n : ℕ). decay_bit k n (get_or constants i 0) e) place in
    record {
      bound = c.decay_bit-e.ensures.bound;
      rest = ap (decay_bits k (drop (i + 1) constants)) step ∙ sym (bits_more k e i constants c.loop-i-test.true) ∙ c.loop-i.invariant.rest;
    }

pub returns : goal.returns
unfolding decay_below
returns c =
    let k = c.args.k in
    let e = c.loop-i.e in
    record {
      value = ap (λ (l : List ℕ). decay_bits k l e) (sym (drop_all c.loop-i.i constants c.loop-i-test.false)) ∙ c.loop-i.invariant.rest;
      bound = c.loop-i.invariant.bound;
    }
