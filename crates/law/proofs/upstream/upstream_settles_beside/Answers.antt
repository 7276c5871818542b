use Rattle.law.specs.Upstream.{Never}
use Rattle.law.proofs.Draining.{follows, never_alike}
use Rattle.law.proofs.upstream.upstream_settles_beside.Goals as goal

pub returns : goal.returns
returns g c = follows Never g.S.Store.water g.S.Store.turns g.T.Store.water g.T.Store.turns (never_alike g.S.Store.turns g.T.Store.turns)
