use Rattle.std.proofs.Common.{◌+◌, set, sym, subst, arith, length-set}
use Rattle.basin.proofs.Flowing.{Routing, at_most, room, routing_all, routing_more}
use Rattle.basin.proofs.routing.route.Goals as goal

pub route_one-flow-requires : goal.route_one-flow-requires
route_one-flow-requires c = at_most c.loop-j.invariant c.loop-j.auto.reaches (omega arith) (omega arith) c.index-reaches-j-in-loop-j.result

pub pass-requires-clause-small : goal.pass-requires-clause-small
pass-requires-clause-small c k l h = room c.loop-j.invariant c.loop-j.auto.reaches (omega arith) (omega arith) c.index-reaches-j-in-loop-j.result c.route_one-flow.ensures k l (simp length-set at h)

pub loop-j-preserved : goal.loop-j-preserved
loop-j-preserved c =
    subst (λ l. Routing c.args.reaches.now c.args.demands.now c.args.list.now (c.loop-j.j + 1) (set c.loop-j.reaches c.loop-j.j c.route_one-flow.new.reach) l) (sym c.pass.ensures)
    (routing_more c.loop-j.invariant c.loop-j.auto.reaches (omega arith) (omega arith) c.index-reaches-j-in-loop-j.result c.route_one-flow.ensures c.index-reaches-j.result (c.requires.ahead c.loop-j.j (omega arith)))

pub returns-clause-routed : goal.returns-clause-routed
returns-clause-routed c = routing_all c.loop-j.invariant (omega arith) (omega arith)
