use Rattle.std.proofs.Common.{◌-◌, ℤ, pos, ◌+ℤ◌, ◌*ℤ◌, ap, ◌∙◌}
use lib.Signed.{quot_z}
use Rattle.snow.specs.Pack.{warmed_to}
use Rattle.weather.proofs.Mild.{small_from, small_top, small_bottom}
use Rattle.snow.proofs.Warm.{pack_mild, kept_fits, new_fits, sum_fits, next_is, next_small}
use Rattle.snow.proofs.pack.Pack.warmed.Goals as goal

pub overflow_mul-kept : goal.overflow_mul-kept
overflow_mul-kept c = let p = c.args.self.now in kept_fits p.lag p.temperature p.temperature p.lags (pack_mild p) (pack_mild p)

pub overflow_mul-new : goal.overflow_mul-new
overflow_mul-new c =
    let p = c.args.self.now in
    let m = c.mean-mean.result in
    new_fits p.lag p.temperature m p.lags (pack_mild p) (small_from 6000 m c.mean-mean.ensures.bound.0 c.mean-mean.ensures.bound.1)

pub overflow_add-result : goal.overflow_add-result
overflow_add-result c =
    let p = c.args.self.now in
    let m = c.mean-mean.result in
    sum_fits p.lag p.temperature m p.lags (pack_mild p) (small_from 6000 m c.mean-mean.ensures.bound.0 c.mean-mean.ensures.bound.1)

pub returns : goal.returns
unfolding warmed_to
returns c =
    let p = c.args.self.now in
    let m = c.mean-mean.result in
    let sm = small_from 6000 m c.mean-mean.ensures.bound.0 c.mean-mean.ensures.bound.1 in
    let e = next_is p.lag p.temperature m p.lags (pack_mild p) sm in
    let z = quot_z (pos (1000 - p.lag) *ℤ p.temperature +ℤ pos p.lag *ℤ m) (pos 1000) in
    let s = next_small p.lag p.temperature m p.lags (pack_mild p) sm in
    record {
      value = e ∙ ap (λ (x : ℤ). quot_z (pos (1000 - p.lag) *ℤ p.temperature +ℤ pos p.lag *ℤ x) (pos 1000)) c.mean-mean.ensures.value;
      most = rw e (small_top z s);
      least = rw e (small_bottom z s);
    }
