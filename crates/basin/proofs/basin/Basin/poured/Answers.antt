use Rattle.std.proofs.Common.{◌≡◌, get_or, ap, arith, rules}
use Rattle.std.proofs.lemmas.List.{get_or_read_under}
use Rattle.network.specs.Records.{reach0}
use Rattle.network.specs.declared.reach.Reach.{Reach}
use Rattle.basin.specs.Limits.{no_rain}
use Rattle.basin.specs.Tables.{sites_of, state_of}
use Rattle.basin.specs.Calls.{view}
use Rattle.basin.proofs.Totals.{stored_within}
use Rattle.basin.proofs.OneDay.{limits_keep}
use Rattle.basin.proofs.Amounts.{reach_there}
use Rattle.basin.proofs.basin.Basin.poured.Goals as goal

pub overflow_add-result : goal.overflow_add-result
overflow_add-result g c =
    let rs = c.args.self.now.tables.reaches.items in
    let j = c.args.reach in
    let fit = (limits_keep g.S.Store.water no_rain c.args.amount (sites_of c.args.self.now.tables) (state_of c.args.self.now.tables) c.in_ok-check_limits.ensures.0).1 in
    let here = reach_there (view c.args.self.now) j c.args.amount (cc c.in_ok-check_amount.ensures) in
    let one = stored_within rs j here in
    let v = c.args.self.now.tables.reaches in
    let read = get_or_read_under rs j v.len _ reach0 c.index.ensures (omega (arith, v.ok.0)) v.ok.0 in
    let is : c.index.result.now.stored ≡ (get_or rs j reach0).stored = ap (λ (r : Reach). r.stored) read in
    search rules
