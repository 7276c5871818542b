use Rattle.std.proofs.Common.{◌<◌, length, ap, arith}
use Rattle.std.proofs.lemmas.List.{length_push}
use Rattle.std.proofs.lemmas.Slice.Zip.{zip_turn}
use Rattle.network.specs.Records.{site0}
use Rattle.network.specs.declared.site.Site.{Site}
use Rattle.basin.proofs.Flowing.{gathering_more}
use Rattle.basin.proofs.routing.gather.Goals as goal

pub loop-site-preserved : goal.loop-site-preserved
loop-site-preserved c =
    let ss = c.args.sites.now in
    let fs = c.args.flows.now in
    let s = c.in-Some.site.now in
    let f = c.in-Some.flow.now in
    let t = zip_turn ss fs c.loop-site.yielded c.into_iter-site-iterator.result c.loop-site.site-iterator c.next.new.self c.next.result (cc) (cc) c.loop-site.yielded_by (c.in-Some.site, c.in-Some.flow) c.in-Some.is c.next.ensures.steps in
    let there : s.reach < length c.loop-site.list = omega (arith, ap (λ (y : Site). y.reach) (t.2 site0), c.requires.there (length c.loop-site.yielded) t.0, c.loop-site.auto.list, c.fill.auto.self) in
    rw length_push (gathering_more s f c.loop-site.invariant t.0 t.1 (t.2 s) (t.3 f) there)
