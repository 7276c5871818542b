use Rattle.std.proofs.Common.{w16, SFits, rules}
use Rattle.std.proofs.lemmas.Int.{to_z-of_z}
use Rattle.sources.specs.Bytes.{half_at}
use Rattle.sources.proofs.bytes.half.Goals as goal

pub returns : goal.returns
unfolding half_at
returns c =
    let fits : SFits w16 c.from_le_bytes.result = search rules in
    simp to_z-of_z c.from_le_bytes.ensures
