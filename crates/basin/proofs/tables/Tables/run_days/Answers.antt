use Rattle.std.proofs.Common.{Ok, ℕ, ◌+◌, ap, sym, refl, ◌∙◌, arith}
use Rattle.std.proofs.lemmas.List.{length-take-le}
use Rattle.network.specs.Records.{unit0, flow0}
use Rattle.basin.proofs.Steady.{same_days}
use Rattle.basin.proofs.Coursing.{underway_none, underway_more, underway_at, asked_all, asked_some, unit_small, units_fit, reaches_fit, sums_fit}
use Rattle.basin.proofs.tables.Tables.run_days.Goals as goal

pub loop-d-init : goal.loop-d-init
loop-d-init g c = record {
  stays = refl;
  count = c.requires.no_days;
  start = refl;
  underway = rw (c.requires.no_readings, c.requires.no_sums) (underway_none c.requires.sound c.requires.blank.units c.requires.blank.reaches);
}

pub slice_bounds-unit_day-end-2 : goal.slice_bounds-unit_day-end-2
slice_bounds-unit_day-end-2 g c = sym (length-take-le _ _ (omega (arith, c.len.ensures, c.args.self.now.sites.ok.0, c.requires.sound.few)))

pub day-requires-clause-unit_list : goal.day-requires-clause-unit_list
day-requires-clause-unit_list g c =
    let b = c.args.self.now in
    rw c.loop-d.invariant.stays (c.loop-d.auto.unit_day ∙ length-take-le _ _ (omega (arith, c.len.ensures, b.sites.ok.0, c.requires.sound.few)) ∙ omega (arith, c.len.ensures, b.sites.ok.0))

pub day-requires-clause-reach_list : goal.day-requires-clause-reach_list
day-requires-clause-reach_list g c =
    let b = c.args.self.now in
    c.loop-d.auto.reach_day ∙ length-take-le _ _ (omega (arith, c.len-2.ensures, b.reaches.ok.0, c.requires.sound.few_reaches)) ∙ omega (arith, c.len-2.ensures, b.reaches.ok.0, (same_days c.loop-d.invariant.underway.going.days).reaches)

pub returns-in_err-day-clause-asked : goal.returns-in_err-day-clause-asked
returns-in_err-day-clause-asked g c = asked_some (underway_at c.loop-d.invariant.underway (sym c.loop-d.invariant.count)) (rw c.loop-d.invariant.stays at c.in_err-day.ensures.counted)

pub day_sums-requires-clause-small : goal.day_sums-requires-clause-small
day_sums-requires-clause-small g c = c.in_ok-day.ensures.small refl

pub add-answer-requires : goal.add-answer-requires
add-answer-requires g c =
    let few = c.requires.few in
    sums_fit c.loop-d.invariant.underway.bounded.sums c.day_sums.ensures.small (omega arith)

pub add_all-requires : goal.add_all-requires
add_all-requires g c =
    let d = rw c.loop-d.invariant.stays at c.in_ok-day.ensures.today in
    let w = c.loop-d.invariant.underway in
    let long = d.flows_long in
    let many = w.sound.many in
    let flows = c.loop-d.auto.unit_flows ∙ c.requires.blank.units_long in
    let few = c.requires.few in
    record { long = omega arith; small = units_fit _ _ w.bounded.units (λ k h. unit_small d k (omega arith)) (omega arith) (omega arith) }

pub add_all-requires-in-loop-d : goal.add_all-requires-in-loop-d
add_all-requires-in-loop-d g c =
    let w = c.loop-d.invariant.underway in
    let long = c.in_ok-day.ensures.today.reach_flows_long in
    let flows = c.loop-d.auto.reach_flows ∙ c.requires.blank.reaches_long ∙ sym (same_days w.going.days).reaches in
    let few = c.requires.few in
    record { long = omega arith; small = reaches_fit _ _ w.bounded.reaches (λ k h. c.in_ok-day.ensures.small (refl {a = Ok tt}) k (omega arith)) (omega arith) (omega arith) }

pub loop-d-preserved : goal.loop-d-preserved
loop-d-preserved g c =
    let stays = c.loop-d.invariant.stays in
    let w = c.loop-d.invariant.underway in
    let d = rw stays at c.in_ok-day.ensures.today in
    let sums = rw (c.deref.ensures.value, c.deref-in-loop-d.ensures.value, c.in_ok-day.ensures.sites, stays) at c.day_sums.ensures.value in
    record {
      stays = c.in_ok-day.ensures.sites ∙ stays;
      count = ap (λ (k : ℕ). k + 1) c.loop-d.invariant.count;
      start = c.loop-d.invariant.start;
      underway = underway_more c.add-answer.result w d (c.loop-d.auto.unit_flows ∙ c.requires.blank.units_long) (c.loop-d.auto.reach_flows ∙ c.requires.blank.reaches_long ∙ sym (same_days w.going.days).reaches) c.add_all.auto.list c.add_all-in-loop-d.auto.list (λ k h. c.add_all.ensures k unit0 (omega arith)) (λ k h. c.add_all-in-loop-d.ensures k flow0 (omega arith)) (c.in_ok-day.ensures.small refl) c.day_sums.ensures.small sums c.add-answer.ensures (rw stays at c.in_ok-day.ensures.counted);
    }

pub returns-clause-asked : goal.returns-clause-asked
returns-clause-asked g c = asked_all (underway_at c.loop-d.invariant.underway (sym c.loop-d.invariant.count))
