use Rattle.basin.proofs.Balance.{balanced}
use Rattle.basin.proofs.law.balance_stands.Goals as goal

pub returns : goal.returns
returns g c = λ a b cs h. balanced h
