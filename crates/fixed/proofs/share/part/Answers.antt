use Rattle.std.proofs.Common.{ℕ, ◌/◌, refl, ap, arith}
use Rattle.fixed.specs.Shares.{part_of, part_le}
use Rattle.fixed.proofs.share.part.Goals as goal

pub returns-in-Some : goal.returns-in-Some
unfolding part_of
returns-in-Some c =
    let e = ap (λ (n : ℕ). n / 1000000) c.in-Some.ensures.1 in
    record { value = e; bound = omega (arith, e, part_le c.args.amount c.args.share c.requires) }

pub returns-in-None : goal.returns-in-None
unfolding part_of
returns-in-None c = record { value = refl; bound = part_le c.args.amount c.args.share c.requires }
