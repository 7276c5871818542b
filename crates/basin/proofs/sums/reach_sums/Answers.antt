use Rattle.std.proofs.Common.{length, subst, sym}
use Rattle.std.proofs.lemmas.List.{length_push}
use Rattle.std.proofs.lemmas.Slice.Zip.{zip_turn}
use Rattle.network.specs.Records.{flow0}
use Rattle.basin.specs.Limits.{most}
use Rattle.basin.specs.Loops.{ReachAtMost}
use Rattle.basin.proofs.Flowing.{reaches_summed_more}
use Rattle.basin.proofs.sums.reach_sums.Goals as goal

pub loop-reach-preserved : goal.loop-reach-preserved
loop-reach-preserved c =
    let rs = c.args.reaches.now in
    let fs = c.args.flows.now in
    let r = c.in-Some.reach.now in
    let f = c.in-Some.flow.now in
    let t = zip_turn rs fs c.loop-reach.yielded c.into_iter-reach-iterator.result c.loop-reach.reach-iterator c.next.new.self c.next.result (cc) (cc) c.loop-reach.yielded_by (c.in-Some.reach, c.in-Some.flow) c.in-Some.is c.next.ensures.steps in
    rw length_push
    (reaches_summed_more r f c.leaves.result c.loop-reach.invariant t.0 t.1 (t.2 r) (t.3 f) (subst (ReachAtMost most) (sym (t.3 flow0)) (c.requires.small (length c.loop-reach.yielded) t.1)) c.leaves.ensures)
