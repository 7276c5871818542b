use Rattle.std.proofs.Common.{◌<◌, length, get_or, take, refl, arith}
use Rattle.std.proofs.lemmas.List.{get_or_default}
use Rattle.profile.specs.Downward.{here_room, down_more}
use Rattle.profile.proofs.soil.Layers.turn.Goals as goal

pub turn-descent-requires : goal.turn-descent-requires
turn-descent-requires c =
    let l = c.loop-layer in
    here_room (take c.args.count c.args.self.now.rows) l.layer-items c.args.above l.descent l.layer-index c.layer-item.result l.invariant (omega arith) c.requires.room

-- a turn of the loop is the day of one row
pub loop-layer-preserved : goal.loop-layer-preserved
loop-layer-preserved c =
    let l = c.loop-layer in
    let t = c.turn-descent in
    let d = c.layer-item.result in
    let there : l.layer-index < length l.layer-items = omega arith in
    down_more (take c.args.count c.args.self.now.rows) c.args.above l.layer-items l.descent l.layer-index _ t.result l.invariant (record {
      there = there;
      before = get_or l.layer-items l.layer-index d;
      after = t.new.self;
      before_is = λ z. get_or_default l.layer-items l.layer-index z d there;
      rows_are = refl;
      turned = t.ensures.turned;
      passed = t.ensures.passed;
      drunk = t.ensures.drunk;
    })
