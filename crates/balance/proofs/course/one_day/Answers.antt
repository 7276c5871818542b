use Rattle.std.proofs.Common.{◌≡◌, Err, sym, refl, rules}
use Rattle.balance.specs.declared.balance.Stop.TheVariants.{Store}
use Rattle.balance.proofs.course.one_day.Goals as goal

pub returns-in_err-flows : goal.returns-in_err-flows
returns-in_err-flows g c =
    let is : c.from_residual-in_err-flows.result ≡ Err (Store c.in_err-flows.field-0.0) = search rules in
    rw is (
      record { day = c.in_ok-day.day; seen = search rules; full = c.in_err-flows.ensures.0 },
      c.in_err-flows.ensures.1,
    )

pub returns : goal.returns
returns g c = record {
  day = c.in_ok-day.day;
  seen = sym c.in_ok-day.ensures;
  rain_is = refl;
  kept = c.in_ok-flows.ensures.0;
  turned = c.in_ok-flows.ensures.1;
}
