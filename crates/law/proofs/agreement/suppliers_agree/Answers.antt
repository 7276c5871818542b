use Rattle.law.proofs.Repeated.{calls_agree, suppliers_agree}
use Rattle.law.proofs.agreement.suppliers_agree.Goals as goal

pub returns : goal.returns
returns g c = record {
  call = calls_agree g.S.Store.water g.S.Store.turns g.met.S.Determined.single;
  calls = suppliers_agree g.S.Store.water g.S.Store.turns g.met.S.Determined.single;
}
