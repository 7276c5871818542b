use Rattle.std.proofs.Common.{◌≡◌, length, Ok, Err, ◌∙◌, arith, rules}
use Rattle.std.proofs.lemmas.List.{length-take-le, take_at}
use Rattle.refusals.specs.Refusals.{basin_refusal}
use Rattle.basin.specs.Tables.{sites_of, state_of}
use Rattle.basin.proofs.Asking.{sites_answered, reaches_answered}
use Rattle.basin.proofs.OneDay.{ready, refused}
use Rattle.basin.proofs.tables.Tables.accept.Goals as goal

pub returns-clause-accepted : goal.returns-clause-accepted
returns-clause-accepted g c =
    let m = g.W.WeatherSource.means c.args.source.now in
    let b = c.args.self.now in
    let s = c.requires.sound in
    let lw : length c.ask.new.list ≡ length (sites_of b) = c.ask.auto.list ∙ length-take-le _ _ (omega (arith, c.len.ensures, b.sites.ok.0, s.few)) ∙ omega (arith, c.len.ensures, b.sites.ok.0) in
    let ld : length c.ask-2.new.list ≡ length (state_of b).reaches = c.ask-2.auto.list ∙ length-take-le _ _ (omega (arith, c.len-2.ensures, b.reaches.ok.0, s.few_reaches)) ∙ omega (arith, c.len-2.ensures, b.reaches.ok.0) in
    let fallen = rw c.deref-3.ensures.value at c.rain_fallen.ensures.value in
    let limits = c.in_ok-check_limits.ensures.0 in
    rw (take_at c.ask.new.list _ _ lw, take_at c.ask-2.new.list _ _ ld) (ready g.S.Store.water m c.args.index (sites_of b) (state_of b) c.ask.new.list c.ask-2.new.list s.many lw
    (sites_answered _ _ _ _ (Ok tt) (rw c.deref.ensures.value at c.in_ok-ask.ensures.asked)) (reaches_answered _ _ _ _ (Ok tt) (rw c.deref-2.ensures.value at c.in_ok-ask-2.ensures.asked)) c.rain_fallen.result fallen limits)

pub returns-in_err-check_limits-clause-accepted : goal.returns-in_err-check_limits-clause-accepted
returns-in_err-check_limits-clause-accepted g c =
    let m = g.W.WeatherSource.means c.args.source.now in
    let b = c.args.self.now in
    let s = c.requires.sound in
    let lw : length c.ask.new.list ≡ length (sites_of b) = c.ask.auto.list ∙ length-take-le _ _ (omega (arith, c.len.ensures, b.sites.ok.0, s.few)) ∙ omega (arith, c.len.ensures, b.sites.ok.0) in
    let fallen = rw c.deref-3.ensures.value at c.rain_fallen.ensures.value in
    let limits = c.in_err-check_limits.ensures in
    let stop = refused g.S.Store.water m c.args.index (sites_of b) (state_of b) c.ask.new.list c.ask-2.new.list s.many lw
    (sites_answered _ _ _ _ (Ok tt) (rw c.deref.ensures.value at c.in_ok-ask.ensures.asked)) (reaches_answered _ _ _ _ (Ok tt) (rw c.deref-2.ensures.value at c.in_ok-ask-2.ensures.asked)) c.rain_fallen.result fallen (basin_refusal c.in_err-check_limits.field-0.0) limits in
    search (rules, stop)

pub returns-in_err-ask-clause-accepted : goal.returns-in_err-ask-clause-accepted
returns-in_err-ask-clause-accepted g c =
    let first = sites_answered (g.W.WeatherSource.means c.args.source.now) c.args.index (sites_of c.args.self.now) c.ask.new.list (Err c.in_err-ask.field-0.0) (rw c.deref.ensures.value at c.in_err-ask.ensures.asked) in
    search rules

pub returns-in_err-ask-2-clause-accepted : goal.returns-in_err-ask-2-clause-accepted
returns-in_err-ask-2-clause-accepted g c =
    let none = sites_answered (g.W.WeatherSource.means c.args.source.now) c.args.index (sites_of c.args.self.now) c.ask.new.list (Ok tt) (rw c.deref.ensures.value at c.in_ok-ask.ensures.asked) in
    let first = reaches_answered (g.W.WeatherSource.means c.args.source.now) c.args.index (state_of c.args.self.now).reaches c.ask-2.new.list (Err c.in_err-ask-2.field-0.0) (rw c.deref-2.ensures.value at c.in_err-ask-2.ensures.asked) in
    search rules
