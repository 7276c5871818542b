use Rattle.std.proofs.Common.{◌≡◌}
use Rattle.law.proofs.Draining.{follows}
use Rattle.law.proofs.Twins.{equal_alike}
use Rattle.law.proofs.upstream.upstream_settles.Goals as goal

pub returns : goal.returns
returns g c = follows (λ s t. s ≡ t) g.S.Store.water g.S.Store.turns g.S.Store.water g.S.Store.turns (equal_alike g.S.Store.turns g.met.S.Determined.single)
