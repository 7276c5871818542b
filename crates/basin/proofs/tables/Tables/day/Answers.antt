use Rattle.std.proofs.Common.{◌≡◌, ◌<◌, length, take, sym, ap, ◌∙◌, arith}
use Rattle.std.specs.Vec.{with_items}
use Rattle.std.proofs.lemmas.Grind.{common_steps}
use Rattle.std.proofs.lemmas.List.{with_items_is}
use Rattle.basin.specs.Limits.{most}
use Rattle.basin.specs.Tables.{sites_of, state_of}
use Rattle.basin.proofs.OneDay.{sides_low, due_low, day_made, reach_small}
use Rattle.basin.proofs.tables.Tables.day.Goals as goal

pub gather-requires-clause-small : goal.gather-requires-clause-small
gather-requires-clause-small g c =
    let b = c.args.self.now in
    let n : c.len.result ≡ length (sites_of b) = c.len.ensures ∙ b.sites.ok.0 in
    let long : length (take (length (sites_of b)) c.accept.new.weather) ≡ length (sites_of b) = grind (arith, common_steps) in
    let turned = rw (c.deref_mut.ensures.value, n) at c.turn_units.ensures in
    rw c.deref.ensures.value (sides_low g.S.Store.water g.S.Store.turns (g.W.WeatherSource.means c.args.source.now) c.args.index (sites_of b) b.units.items b.reaches.items _ _ c.requires.sound long c.in_ok-accept.ensures.accepted c.turn_units.new.units c.turn_units.new.flows (c.turn_units.auto.flows ∙ c.requires.unit_list) turned)

pub route-requires-clause-small : goal.route-requires-clause-small
route-requires-clause-small g c =
    let b = c.args.self.now in
    let n : c.len.result ≡ length (sites_of b) = c.len.ensures ∙ b.sites.ok.0 in
    let long : length (take (length (sites_of b)) c.accept.new.weather) ≡ length (sites_of b) = grind (arith, common_steps) in
    let turned = rw (c.deref_mut.ensures.value, n) at c.turn_units.ensures in
    let gathered = rw c.deref.ensures.value at c.gather.ensures in
    rw c.deref_mut-2.ensures.value (due_low g.S.Store.water g.S.Store.turns (g.W.WeatherSource.means c.args.source.now) c.args.index (sites_of b) b.units.items b.reaches.items _ _ c.requires.sound long c.in_ok-accept.ensures.accepted c.turn_units.new.units c.turn_units.new.flows (c.turn_units.auto.flows ∙ c.requires.unit_list) turned
    c.gather.new.list (c.gather.auto.list ∙ c.requires.reach_list) gathered)

pub returns-clause-today : goal.returns-clause-today
returns-clause-today g c =
    let b = c.args.self.now in
    let n : c.len.result ≡ length (sites_of b) = c.len.ensures ∙ b.sites.ok.0 in
    let k : c.len-2.result ≡ length (state_of b).reaches = c.len-2.ensures ∙ b.reaches.ok.0 in
    let long : length (take (length (sites_of b)) c.accept.new.weather) ≡ length (sites_of b) = grind (arith, common_steps) in
    let turned = rw (c.deref_mut.ensures.value, n) at c.turn_units.ensures in
    let gathered = rw c.deref.ensures.value at c.gather.ensures in
    let routed = rw (c.deref_mut-2.ensures.value, k) at c.route.ensures.routed in
    let kept = c.gather.auto.list ∙ c.requires.reach_list in
    let lv = c.turn_units.auto.units ∙ ap length c.deref_mut.ensures.value in
    let lq = c.route.auto.reaches ∙ ap length c.deref_mut-2.ensures.value in
    let units : (with_items b.units c.turn_units.new.units).items ≡ c.turn_units.new.units = with_items_is b.units c.turn_units.new.units (lv ∙ sym b.units.ok.0) in
    let reaches : (with_items b.reaches c.route.new.reaches).items ≡ c.route.new.reaches = with_items_is b.reaches c.route.new.reaches (lq ∙ sym b.reaches.ok.0) in
    rw (units, reaches) (day_made g.S.Store.water g.S.Store.turns (g.W.WeatherSource.means c.args.source.now) c.args.index (sites_of b) b.units.items b.reaches.items _ _ c.requires.sound long c.in_ok-accept.ensures.accepted c.turn_units.new.units c.turn_units.new.flows (c.turn_units.auto.flows ∙ c.requires.unit_list) turned
    c.route.new.reaches c.gather.new.list c.route.new.list lv lq kept (c.route.auto.list ∙ kept) gathered routed)

pub returns-clause-small : goal.returns-clause-small
returns-clause-small g c _ j h =
    let long = c.route.auto.list ∙ c.gather.auto.list ∙ c.requires.reach_list in
    let at : j < length c.args.self.now.reaches.items = omega arith in
    let routed = rw c.deref_mut-2.ensures.value at c.route.ensures.routed in
    let fits = rw c.deref_mut-2.ensures.value at c.route.ensures.fits in
    reach_small most (routed j at) (fits j at)
