use Rattle.sources.specs.Bytes.{word_at}
use Rattle.sources.proofs.bytes.word.Goals as goal

pub returns : goal.returns
unfolding word_at
returns c = c.from_le_bytes.ensures
