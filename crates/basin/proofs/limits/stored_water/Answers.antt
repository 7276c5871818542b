use Rattle.std.proofs.Common.{◌+◌, rules, refl, arith}
use Rattle.std.proofs.lemmas.Iterator.{YieldsList-from_slice}
use Rattle.std.proofs.lemmas.Iterator.Adapters.{fits_from_length, at_most_from_yields_List}
use Rattle.std.proofs.lemmas.List.Recursion.{is_sum_by}
use Rattle.basin.specs.Limits.{reach_water}
use Rattle.basin.specs.Loops.{stored_most}
use Rattle.basin.proofs.limits.stored_water.Goals as goal

pub returns-clause-value : goal.returns-clause-value
returns-clause-value c = search (rules, is_sum_by reach_water (λ r. r.stored) refl (λ _ _. refl))

pub returns-clause-small : goal.returns-clause-small
returns-clause-small c =
    let p = c.sum.ensures.runs tt in
    let few = fits_from_length _ _ 256 (stored_most + 1) (at_most_from_yields_List (YieldsList-from_slice c.args.reaches.now cc) (omega arith)) c.map.ensures.closure (omega arith) (λ x r q k. search rules) p.0 p.0.seen p.1 in
    omega (arith, p.3)
