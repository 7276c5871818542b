use Rattle.std.proofs.Common.{rules, arith}
use Rattle.std.proofs.lemmas.Iterator.{YieldsList-from_slice}
use Rattle.std.proofs.lemmas.Iterator.Adapters.{fits_from_length, at_most_from_yields_List}
use Rattle.sources.proofs.calendar.ended_before.Goals as goal

-- at most one for each of at most 2 ^ 63 days
pub sum-requires-clause-fits : goal.sum-requires-clause-fits
sum-requires-clause-fits c =
    fits_from_length _ _ 9223372036854775807 18446744073709551616 (at_most_from_yields_List (YieldsList-from_slice c.args.ends.now cc) (omega arith)) c.map.ensures.closure (omega arith) (λ x r q k. search rules)
