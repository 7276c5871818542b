use Rattle.std.proofs.Common.{Ok, rules}
use Rattle.basin.specs.Calls.{draw}
use Rattle.basin.proofs.Balance.{balanced_on}
use Rattle.basin.proofs.basin.Basin.draw.Goals as goal

pub returns-in_err-stored-clause-balance : goal.returns-in_err-stored-clause-balance
returns-in_err-stored-clause-balance g c = balanced_on g.S.Store.water g.S.Store.turns (draw c.args.reach c.args.amount c.from_residual.result) (search rules)

pub returns-clause-balance : goal.returns-clause-balance
returns-clause-balance g c = balanced_on g.S.Store.water g.S.Store.turns (draw c.args.reach c.args.amount (Ok tt)) (search rules)
