use Rattle.fixed.specs.Shares.{part_le, part_none, parts_le}
use Rattle.fixed.proofs.share.share_laws.Goals as goal

pub returns : goal.returns
returns c = record { at_most = part_le; of_nothing = part_none; of_two = parts_le }
