use Rattle.balance.proofs.Alike.{agree}
use Rattle.balance.proofs.agreement.balances_agree.Goals as goal

pub returns : goal.returns
returns g c = agree g.S.Store.water g.S.Store.turns g.met.S.Determined.single
